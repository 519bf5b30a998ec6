-- Those of the nodes read at which a reach begins are in line.
use Rattle.std.proofs.Common.{arith, sym, ◌∙◌, add-one}
use Rattle.game.specs.Packed.{goal_of}
use Rattle.game.proofs.Aiming.{listed, aim_none, aim_few, aim_yes, aim_no, aim_end}
use Rattle.game.proofs.reach.aim.Goals as goal
use Rattle.game.proofs.reach.aim.Goals.{then-bit_in, else-bit_in}

pub loop-node-init : goal.loop-node-init
loop-node-init c = aim_none _ _ _

pub bounds-queue-tail : goal.bounds-queue-tail
bounds-queue-tail c = omega (arith, aim_few _ _ _ _ _ _ c.loop-node.invariant, c.loop-node.invariant.size)

pub bounds-bits-node : goal.bounds-bits-node
bounds-bits-node c = c.requires.nodes _ (listed c.args.list.now c.loop-node.node-index (omega arith))

pub overflow_add-tail : goal.overflow_add-tail
overflow_add-tail c = omega (arith, aim_few _ _ _ _ _ _ c.loop-node.invariant)

pub loop-node-preserved : goal.loop-node-preserved
unfolding goal_of
loop-node-preserved c =
    let inv = c.loop-node.invariant in
    let may = sym (rw (add-one c.args.goal, c.from.ensures) at c.bit_in.ensures) in
    elim c.if-bit_in.branch [
      | then-bit_in w ↦ rw w.tail-is (aim_yes _ _ _ _ _ _ inv (omega arith) (may ∙ w.if-bit_in.true) (omega (arith, aim_few _ _ _ _ _ _ inv, inv.size)))
      | else-bit_in w ↦ rw w.tail-is (aim_no _ _ _ _ _ _ inv (omega arith) (may ∙ w.if-bit_in.false))
    ]

pub returns : goal.returns
returns c =
    let end = aim_end _ _ _ _ _ _ c.loop-node.invariant (omega arith) in
    record { number = end.0; list = end.1 }
