-- The book is tested where the plant, the mask and the buffers pass.
use mathlib.Core.Path.{sym, ap, ap₂, ◌∙◌}
use mathlib.Core.Bool.{Bool, ◌&&◌}
use Prim.Native.Nat.{ℕ}
use lib.Dec.{eqb}
use Rattle.refusal.proofs.Refused.{ok_exactly}
use Rattle.refusals.specs.Ahead.{withdraw_ahead}
use Rattle.refusals.proofs.withdraw_ahead.Goals as goal

pub returns-then-not-make_ahead-drop_room : goal.returns-then-not-make_ahead-drop_room
unfolding withdraw_ahead
returns-then-not-make_ahead-drop_room c =
    rw (ap₂ (λ (t u : Bool). t && u) (sym c.make_ahead.ensures) (sym c.drop_room.ensures) ∙ c.if-not-make_ahead-drop_room.true)

pub returns : goal.returns
unfolding withdraw_ahead
returns c =
    rw (ap₂ (λ (t u : Bool). t && u) (sym c.make_ahead.ensures) (sym c.drop_room.ensures) ∙ c.if-not-make_ahead-drop_room.false)
    (ap₂ (λ (t u : Bool). t && u) c.alike.ensures
    (c.is_ok.ensures.value ∙ ok_exactly _ ∙ ap (λ (n : ℕ). eqb n 0) c.check_book.ensures))
