-- The nodes below x that the list leaves out are written, and those that it has are passed.
use Rattle.std.proofs.Common.{arith, sym, ◌∙◌}
use Rattle.game.proofs.Cutting.{at_is, rest_start, rest_few, rest_in, rest_out, rest_end}
use Rattle.game.proofs.strike.rest.Goals as goal
use Rattle.game.proofs.strike.rest.Goals.{then-is_at, else-is_at}

pub loop-x-init : goal.loop-x-init
loop-x-init c = rest_start _ _ _ c.requires.1.1

pub overflow_add-k : goal.overflow_add-k
overflow_add-k c = omega (arith, rest_few c.loop-x.invariant)

pub offset_bounds-out-count : goal.offset_bounds-out-count
offset_bounds-out-count c = omega (arith, rest_few c.loop-x.invariant)

pub bounds-out-count : goal.bounds-out-count
bounds-out-count c = omega (arith, rest_few c.loop-x.invariant, c.loop-x.invariant.size)

pub overflow_add-count : goal.overflow_add-count
overflow_add-count c = omega (arith, rest_few c.loop-x.invariant)

pub loop-x-preserved : goal.loop-x-preserved
loop-x-preserved c =
    let inv = c.loop-x.invariant in
    let is = sym (c.is_at.ensures ∙ at_is _ _ _ _ c.requires.0 (omega arith) inv.place) in
    elim c.if-is_at.branch [
      | then-is_at w ↦ rw (w.out-is, w.k-is, w.count-is) (rest_in inv (omega arith) (is ∙ w.if-is_at.true))
      | else-is_at w ↦ rw (w.out-is, w.k-is, w.count-is) (rest_out inv (omega arith) (is ∙ w.if-is_at.false))
    ]

pub returns : goal.returns
returns c = rest_end c.loop-x.invariant (omega arith)
