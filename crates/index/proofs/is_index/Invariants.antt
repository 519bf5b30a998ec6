-- The numbers left decide.
use Rattle.index.proofs.Passing.{Passed}
use Rattle.index.proofs.is_index.Given as goal

abbrev pub invariant-loop-k : goal.invariant-loop-k
invariant-loop-k l = Passed l.plant l.index l.count l.ends l.k l.least
