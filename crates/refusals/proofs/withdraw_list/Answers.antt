-- The answer for what is lent; 9 for the list; or the answer to all its masks joined.
use mathlib.Core.Path.{sym, ap, ◌∙◌}
use Prim.Native.Nat.{ℕ}
use Rattle.std.proofs.Common.{rules}
use Rattle.statements.specs.Plants.{first_of, plant_of}
use Rattle.statements.specs.Calls.{mask_fault, room_fault, withdraw_list_fault}
use Rattle.refusals.proofs.Refusals.{first_err, list_9, list_given}
use Rattle.refusals.proofs.withdraw_list.Goals as goal

pub returns-in_err-lent : goal.returns-in_err-lent
unfolding withdraw_list_fault
returns-in_err-lent c = search (rules, first_err, c.in_err-lent.ensures)

pub returns-then-not-whole_masks : goal.returns-then-not-whole_masks
returns-then-not-whole_masks c =
    let a = c.args in
    sym
    (list_9 a.plant.now a.book.now a.masks.now a.room a.drops (sym c.in_ok-lent.ensures)
    (sym c.whole_masks.ensures ∙ c.if-not-whole_masks.true))

pub returns : goal.returns
returns c =
    let a = c.args in
    let p = plant_of a.plant.now in
    c.given.ensures
    ∙ ap (λ (gone : ℕ). first_of (mask_fault p gone) (room_fault p a.room a.drops)) c.union.ensures
    ∙ sym
    (list_given a.plant.now a.book.now a.masks.now a.room a.drops (sym c.in_ok-lent.ensures)
    (sym c.whole_masks.ensures ∙ c.if-not-whole_masks.false))
