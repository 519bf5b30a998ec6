-- The set of the next turn stands at the front of the list, marked, and the goals of the last turns, as many as have
-- struck nothing out in a row, are forced from each node of it.
use Rattle.std.proofs.Common.{◌+◌, ◌-◌, ◌*◌, take}
use Rattle.game.specs.Playing.{last_eight}
use Rattle.game.proofs.Plays.{Outset}
use Rattle.game.proofs.Goals.{Quiet}
use Rattle.game.proofs.play.turns.Given as goal

abbrev pub invariant-loop-still : goal.invariant-loop-still
invariant-loop-still l = record {
  outset : Outset l.graph l.game.nodes l.game.groups l.game.positions l.game.goals
      l.start l.fn.waits l.member l.live l.dead l.waits l.scratch l.queue
      l.list l.kept;
  quiet : Quiet l.graph l.game.nodes l.game.groups l.game.positions l.game.goals (take l.kept l.list)
      (last_eight l.scratch) l.waits l.goal l.still;
}

abbrev pub decreases-loop-still : goal.decreases-loop-still
decreases-loop-still l = l.kept * 9 + (8 - l.still)
