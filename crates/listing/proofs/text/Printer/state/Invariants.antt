use Rattle.std.proofs.Common.{◌≡◌}
use Rattle.statements.specs.Sets.{joined}
use Rattle.listing.specs.Text.{line_text}
use Rattle.listing.specs.Buffers.{Wrote}
use Rattle.listing.proofs.text.Printer.state.Given as goal

-- the lines so far are put
abbrev pub invariant-loop-goal : goal.invariant-loop-goal
invariant-loop-goal l = record {
  same : l.self.out.ghost_name ≡ l.fn.self.out.ghost_name;
  wrote : Wrote l.fn.self.out.now l.fn.self.at (joined l.goal 0 (line_text l.book l.state)) l.self.at l.self.out.now;
}
