-- The groups with an end at one of the positions passed are dead.
use Rattle.std.proofs.Common.{◌+◌}
use Rattle.game.proofs.Emptying.{Taking}
use Rattle.game.proofs.worklist.Game.take_off.Given as goal

abbrev pub invariant-loop-group : goal.invariant-loop-group
invariant-loop-group l =
    Taking l.self.graph.now l.self.figures.nodes l.self.figures.groups l.self.figures.positions l.fn.member l.fn.live l.fn.dead l.fn.list l.head
    l.initial.tail l.member l.live l.dead l.list (l.lo + l.group-index) l.tail
