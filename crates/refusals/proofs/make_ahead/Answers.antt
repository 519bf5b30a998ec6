-- It joins the tests of the plant, the mask and the buffer.
use mathlib.Core.Path.{ap, ap₂, ◌∙◌}
use mathlib.Core.Bool.{Bool, ◌&&◌}
use Prim.Native.Nat.{ℕ}
use Rattle.statements.specs.Plants.{plant_of}
use Rattle.statements.specs.Books.{mask_ok}
use Rattle.refusals.specs.Ahead.{make_ahead}
use Rattle.refusals.proofs.make_ahead.Goals as goal

pub returns : goal.returns
unfolding make_ahead plant_of
returns c =
    ap₂ (λ (t u : Bool). t && u) c.head_ok.ensures
    (ap₂ (λ (t u : Bool). t && u)
    (c.mask_ok.ensures ∙ ap (λ (u : ℕ). mask_ok u c.args.mask) c.number.ensures)
    c.book_room.ensures)
