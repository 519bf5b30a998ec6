-- The values of the numbers passed are listed, and the numbers left decide.
use Rattle.index.proofs.Gathering.{Listed}
use Rattle.index.proofs.gather.Given as goal

abbrev pub invariant-loop-k : goal.invariant-loop-k
invariant-loop-k l = Listed l.plant l.index l.by l.fn.out l.out l.count l.ends l.k l.least
