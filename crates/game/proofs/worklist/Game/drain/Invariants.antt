-- Some nodes are taken off the worklist.
use Rattle.std.proofs.Common.{◌-◌, length}
use Rattle.game.proofs.Emptied.{Running}
use Rattle.game.proofs.worklist.Game.drain.Given as goal

abbrev pub invariant-loop-head : goal.invariant-loop-head
invariant-loop-head l =
    Running l.self.graph.now l.self.figures.nodes l.self.figures.groups l.self.figures.positions l.first l.fn.member l.fn.live l.fn.dead l.fn.list l.member
    l.live l.dead l.list l.head l.tail

abbrev pub decreases-loop-head : goal.decreases-loop-head
decreases-loop-head l = length l.fn.list - l.head
