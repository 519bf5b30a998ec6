-- After x turns the first x lengths are summed up.
use Rattle.layout.proofs.Lengths.{Summed}
use Rattle.layout.proofs.sums.bound.Given as goal

abbrev pub invariant-loop-x : goal.invariant-loop-x
invariant-loop-x l = Summed l.fn.first l.first l.x l.sum
