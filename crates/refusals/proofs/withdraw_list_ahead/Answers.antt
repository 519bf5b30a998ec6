-- The list's length is tested, and one withdrawal of all moves that its masks name.
use mathlib.Core.Path.{ap, ap₂, ◌∙◌}
use mathlib.Core.Bool.{Bool, ◌&&◌}
use Prim.Native.Nat.{ℕ}
use Rattle.refusals.specs.Ahead.{withdraw_ahead, list_ahead}
use Rattle.refusals.proofs.withdraw_list_ahead.Goals as goal

pub returns : goal.returns
unfolding list_ahead
returns c =
    let a = c.args in
    ap₂ (λ (t u : Bool). t && u) c.whole_masks.ensures
    (c.withdraw_ahead.ensures
    ∙ ap (λ (gone : ℕ). withdraw_ahead a.plant.now a.book.now gone a.room a.drops)
    c.union.ensures)
