-- After x turns the first x labels are written.
use Rattle.std.proofs.Common.{◌≡◌, take, drop}
use Rattle.statements.specs.Sets.{over}
use Rattle.statements.specs.Plants.{words}
use Rattle.format.proofs.plant.labels_to.Given as goal

abbrev pub invariant-loop-x : goal.invariant-loop-x
invariant-loop-x l = l.to ≡ over (take l.x (words l.count (drop 16 l.plant))) l.fn.to
