use Rattle.game.specs.Cuts.{waits_all}
use Rattle.game.proofs.Cutting.{Cutting}
use Rattle.game.proofs.strike.cut.Given as goal

-- the front holds those of the first k nodes with a wait for each goal, and the others are listed
abbrev pub invariant-loop-k : goal.invariant-loop-k
invariant-loop-k l = Cutting (waits_all l.waits l.n l.goals) l.count l.fn.list l.fn.gone l.list l.gone l.kept l.k
