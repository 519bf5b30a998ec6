-- The arrows passed are listed.
use Rattle.index.proofs.Filling.{Listed}
use Rattle.index.proofs.list_ends.Given as goal

abbrev pub invariant-loop-n : goal.invariant-loop-n
invariant-loop-n l = Listed l.plant l.count l.ends l.numbers l.n
