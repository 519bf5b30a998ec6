-- After k numbers these are copied.
use Rattle.std.proofs.Common.{◌≡◌, take}
use Rattle.statements.specs.Sets.{over}
use Rattle.arrays.proofs.copy.Given as goal

abbrev pub invariant-loop-k : goal.invariant-loop-k
invariant-loop-k l = l.to ≡ over (take l.k l.from) l.fn.to
