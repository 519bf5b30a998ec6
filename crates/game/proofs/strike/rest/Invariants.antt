use Rattle.game.proofs.Cutting.{Resting}
use Rattle.game.proofs.strike.rest.Given as goal

-- the nodes below x that the list leaves out are written, and those that it has are passed
abbrev pub invariant-loop-x : goal.invariant-loop-x
invariant-loop-x l = Resting l.list l.n l.fn.out l.out l.x l.k l.count
