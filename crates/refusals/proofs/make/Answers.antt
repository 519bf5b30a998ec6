-- The plant's own answer first, then 6 for the mask and 7 for the buffer.
use mathlib.Core.Path.{◌≡◌, sym, ap, ◌∙◌}
use mathlib.Core.Bool.{Bool, not}
use Prim.Native.Nat.{ℕ}
use Rattle.std.proofs.Common.{rules}
use Rattle.statements.specs.Plants.{when, plant_of}
use Rattle.statements.specs.Books.{mask_ok}
use Rattle.statements.specs.Calls.{make_fault}
use Rattle.refusals.proofs.Refusals.{first_err, make_6, make_room}
use Rattle.refusals.proofs.make.Goals as goal

pub returns-in_err-check_plant : goal.returns-in_err-check_plant
unfolding make_fault
returns-in_err-check_plant c = search (rules, first_err, c.in_err-check_plant.ensures)

pub returns-then-not-mask_ok : goal.returns-then-not-mask_ok
unfolding plant_of
returns-then-not-mask_ok c =
    let a = c.args in
    sym
    (make_6 a.plant.now a.mask a.room (sym c.in_ok-check_plant.ensures)
    (ap (λ (u : ℕ). mask_ok u a.mask) (sym c.number.ensures) ∙ sym c.mask_ok.ensures ∙ c.if-not-mask_ok.true))

pub returns-then-not-book_room : goal.returns-then-not-book_room
unfolding plant_of
returns-then-not-book_room c =
    let a = c.args in
    sym
    (make_room a.plant.now a.mask a.room (sym c.in_ok-check_plant.ensures)
    (ap (λ (u : ℕ). mask_ok u a.mask) (sym c.number.ensures) ∙ sym c.mask_ok.ensures ∙ c.if-not-mask_ok.false)
    ∙ ap (λ (t : Bool). when (not t) 7) (sym c.book_room.ensures ∙ c.if-not-book_room.true))

pub returns : goal.returns
unfolding plant_of
returns c =
    let a = c.args in
    sym
    (make_room a.plant.now a.mask a.room (sym c.in_ok-check_plant.ensures)
    (ap (λ (u : ℕ). mask_ok u a.mask) (sym c.number.ensures) ∙ sym c.mask_ok.ensures ∙ c.if-not-mask_ok.false)
    ∙ ap (λ (t : Bool). when (not t) 7) (sym c.book_room.ensures ∙ c.if-not-book_room.false))
