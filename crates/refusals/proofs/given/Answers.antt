-- 6 for the mask, and for a good one 7 or 0 by the room.
use mathlib.Core.Path.{sym, ap, ap₂, ◌∙◌}
use mathlib.Core.Bool.{Bool, ◌&&◌, not}
use Prim.Native.Nat.{ℕ}
use Rattle.statements.specs.Plants.{when, plant_of}
use Rattle.statements.specs.Books.{mask_ok}
use Rattle.statements.specs.Calls.{book_room, drop_room, room_fault}
use Rattle.refusals.proofs.Refusals.{told_6, told_room}
use Rattle.refusals.proofs.given.Goals as goal

pub returns-then-not-mask_ok : goal.returns-then-not-mask_ok
unfolding plant_of room_fault
returns-then-not-mask_ok c =
    let a = c.args in
    let p = plant_of a.plant.now in
    sym
    (told_6 p a.gone (book_room p a.room && drop_room p a.drops)
    (ap (λ (u : ℕ). mask_ok u a.gone) (sym c.number.ensures) ∙ sym c.mask_ok.ensures ∙ c.if-not-mask_ok.true))

pub returns-then-not-book_room-drop_room : goal.returns-then-not-book_room-drop_room
unfolding plant_of room_fault
returns-then-not-book_room-drop_room c =
    let a = c.args in
    let p = plant_of a.plant.now in
    sym
    (told_room p a.gone (book_room p a.room && drop_room p a.drops)
    (ap (λ (u : ℕ). mask_ok u a.gone) (sym c.number.ensures) ∙ sym c.mask_ok.ensures ∙ c.if-not-mask_ok.false)
    ∙ ap (λ (t : Bool). when (not t) 7)
    (ap₂ (λ (t u : Bool). t && u) (sym c.book_room.ensures) (sym c.drop_room.ensures) ∙ c.if-not-book_room-drop_room.true))

pub returns : goal.returns
unfolding plant_of room_fault
returns c =
    let a = c.args in
    let p = plant_of a.plant.now in
    sym
    (told_room p a.gone (book_room p a.room && drop_room p a.drops)
    (ap (λ (u : ℕ). mask_ok u a.gone) (sym c.number.ensures) ∙ sym c.mask_ok.ensures ∙ c.if-not-mask_ok.false)
    ∙ ap (λ (t : Bool). when (not t) 7)
    (ap₂ (λ (t u : Bool). t && u) (sym c.book_room.ensures) (sym c.drop_room.ensures) ∙ c.if-not-book_room-drop_room.false))
