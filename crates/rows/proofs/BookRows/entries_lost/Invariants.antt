use Rattle.std.proofs.Common.{◌≡◌, true, ℕ, ◌<◌}
use Rattle.rows.specs.Checks.{lost_at, entry_in}
use Rattle.rows.proofs.BookRows.entries_lost.Given as goal

abbrev pub invariant-loop-goal : goal.invariant-loop-goal
invariant-loop-goal l =
    (k : ℕ) → k < l.goal → lost_at l.self.book.now (entry_in l.self.stages l.self.book.now l.state k) ≡ true
