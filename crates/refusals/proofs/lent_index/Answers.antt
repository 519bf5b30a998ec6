-- The plant's own answer first, then 10 or 0 by the index.
use mathlib.Core.Path.{◌≡◌, sym, ap, ◌∙◌}
use mathlib.Core.Bool.{Bool, not}
use Rattle.statements.specs.Plants.{when}
use Rattle.refusals.proofs.Refusals.{lent_10}
use Rattle.refusals.proofs.lent_index.Goals as goal

pub returns-then-not-is_index : goal.returns-then-not-is_index
returns-then-not-is_index c =
    sym
    (lent_10 c.args.plant.now c.args.index.now (sym c.in_ok-check_plant.ensures)
    (c.is_index.ensures.exact (sym c.in_ok-check_plant.ensures))
    ∙ ap (λ (t : Bool). when (not t) 10) c.if-not-is_index.true)

pub returns : goal.returns
returns c =
    sym
    (lent_10 c.args.plant.now c.args.index.now (sym c.in_ok-check_plant.ensures)
    (c.is_index.ensures.exact (sym c.in_ok-check_plant.ensures))
    ∙ ap (λ (t : Bool). when (not t) 10) c.if-not-is_index.false)
