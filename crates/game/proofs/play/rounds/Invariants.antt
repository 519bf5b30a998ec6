-- The set of the next round stands at the front of the list, marked; the measure is how many nodes it has.
use Rattle.game.proofs.Plays.{Outset}
use Rattle.game.proofs.play.rounds.Given as goal

abbrev pub invariant-loop-kept : goal.invariant-loop-kept
invariant-loop-kept l =
    Outset l.graph l.game.nodes l.game.groups l.game.positions l.game.goals l.start
    l.fn.waits l.member l.live l.dead l.waits l.scratch l.queue l.list l.kept

abbrev pub decreases-loop-kept : goal.decreases-loop-kept
decreases-loop-kept l = l.kept
