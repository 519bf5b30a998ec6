use Rattle.game.specs.Packed.{goal_of}
use Rattle.game.proofs.Aiming.{Aimed}
use Rattle.game.proofs.reach.aim.Given as goal

-- those of the nodes read at which a reach begins are in line
abbrev pub invariant-loop-node : goal.invariant-loop-node
invariant-loop-node l = Aimed (goal_of l.bits l.goal) l.list l.fn.queue l.queue l.tail l.node-index
