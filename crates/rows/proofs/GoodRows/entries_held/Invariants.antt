use Rattle.std.proofs.Common.{◌≡◌}
use Rattle.statements.specs.Sets.{every}
use Rattle.statements.specs.Books.{book_moves}
use Rattle.rows.specs.Checks.{held_at, entry_in}
use Rattle.rows.proofs.Gathered.{gathered}
use Rattle.rows.proofs.GoodRows.entries_held.Given as goal

-- what is gathered tells whether the entries so far are held
abbrev pub invariant-loop-goal : goal.invariant-loop-goal
invariant-loop-goal l =
    let b = l.self.rows.book.now in
    gathered l.mask l.waits l.moves l.set ≡
    every l.goal 0 (λ k. held_at b (book_moves b) l.mask (entry_in l.self.rows.stages b l.state k))
