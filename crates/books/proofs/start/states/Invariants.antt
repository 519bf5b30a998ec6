-- After x turns the first x states are listed.
use Rattle.std.proofs.Common.{◌≡◌, ◌≤◌, length}
use Rattle.statements.specs.Sets.{numbers, over}
use Rattle.books.proofs.start.states.Given as goal

abbrev pub invariant-loop-x : goal.invariant-loop-x
invariant-loop-x l =
    record {
      room : l.count ≤ length l.fn.list;
      listed : l.list ≡ over (numbers l.x 0) l.fn.list;
    }
