-- After some turns the places listed so far hold 0.
use Rattle.std.proofs.Common.{◌≡◌, take}
use Rattle.arrays.specs.Lists.{zeroed}
use Rattle.arrays.proofs.mark.Given as goal

abbrev pub invariant-loop-x : goal.invariant-loop-x
invariant-loop-x l = l.to ≡ zeroed (take l.x-index l.listed) l.fn.to
