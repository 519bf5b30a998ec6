use Rattle.std.proofs.Common.{◌≡◌}
use Rattle.statements.specs.Sets.{joined}
use Rattle.listing.specs.Text.{state_text}
use Rattle.listing.specs.Buffers.{Wrote}
use Rattle.listing.proofs.text.put_book.Given as goal

-- the lines of the states so far are put
abbrev pub invariant-loop-state : goal.invariant-loop-state
invariant-loop-state l = record {
  same : l.printer.out.ghost_name ≡ l.initial.printer.out.ghost_name;
  wrote : Wrote l.initial.printer.out.now l.initial.printer.at (joined l.state 0 (state_text l.book)) l.printer.at
      l.printer.out.now;
}
