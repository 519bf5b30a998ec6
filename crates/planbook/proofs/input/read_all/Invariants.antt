-- What is read lies within the buffer. The measure is the room that is left, less at each turn, since a read that puts
-- nothing ends the loop.
use Rattle.std.proofs.Common.{◌-◌, ◌≤◌, length}
use Rattle.planbook.proofs.input.read_all.Given as goal

abbrev pub invariant-loop-done : goal.invariant-loop-done
invariant-loop-done g l = l.done ≤ length l.buf

abbrev pub decreases-loop-done : goal.decreases-loop-done
decreases-loop-done g l = length l.buf - l.done
