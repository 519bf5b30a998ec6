-- The labels joined so far and those after them stand for all.
use Rattle.format.proofs.Parts.{Joined}
use Rattle.format.proofs.plant.labels_within.Given as goal

abbrev pub invariant-loop-k : goal.invariant-loop-k
invariant-loop-k l = Joined l.free l.goals l.plant l.count l.k l.all
