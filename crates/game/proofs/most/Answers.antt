-- The nodes so far are counted.
use Rattle.std.proofs.Common.{ℕ, ◌+◌, arith, ap, sym, ◌∙◌}
use Rattle.game.proofs.Lining.{possible_none, possible_few, possible_yes, possible_no}
use Rattle.game.proofs.most.Goals as goal
use Rattle.game.proofs.most.Goals.{then-member-x, else-member-x}

pub loop-x-init : goal.loop-x-init
loop-x-init c = sym (possible_none _ _)

pub overflow_add-count : goal.overflow_add-count
overflow_add-count c = omega (arith, possible_few c.args.member.now c.args.waits.now c.loop-x.x)

pub loop-x-preserved : goal.loop-x-preserved
loop-x-preserved c =
    elim c.if-member-x.branch [
      | then-member-x w ↦ w.count-is ∙ (ap (λ (k : ℕ). k + 1) c.loop-x.invariant ∙ sym (possible_yes _ _ _ w.if-member-x.true))
      | else-member-x w ↦ w.count-is ∙ (c.loop-x.invariant ∙ sym (possible_no _ _ _ w.if-member-x.false))
    ]
