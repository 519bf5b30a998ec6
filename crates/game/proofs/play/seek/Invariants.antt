-- The goals so far are reached.
use Rattle.game.proofs.Seeking.{Seeking}
use Rattle.game.proofs.play.seek.Given as goal

abbrev pub invariant-loop-goal : goal.invariant-loop-goal
invariant-loop-goal l =
    Seeking l.graph l.game.nodes l.game.groups l.game.positions l.game.first l.game.goals l.set l.fn.scratch l.fn.waits
    l.scratch l.waits l.goal
