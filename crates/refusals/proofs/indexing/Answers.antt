-- The plant's own answer first, then 7 or 0 by the room.
use mathlib.Core.Path.{◌≡◌, sym, ap, ◌∙◌}
use mathlib.Core.Bool.{Bool, not}
use Prim.Native.Nat.{◌+◌, ◌*◌}
use borrow.Author.Tests.{lt-leb, le-leb}
use Rattle.std.proofs.Common.{rules}
use Rattle.statements.specs.Plants.{when}
use Rattle.statements.specs.Calls.{indexing_fault}
use Rattle.refusals.proofs.Refusals.{first_err, indexing_room}
use Rattle.refusals.proofs.indexing.Goals as goal

pub returns-in_err-check_plant : goal.returns-in_err-check_plant
unfolding indexing_fault
returns-in_err-check_plant c = search (rules, first_err, c.in_err-check_plant.ensures)

pub returns-then-not-number-room : goal.returns-then-not-number-room
returns-then-not-number-room c =
    let a = c.args in
    sym
    (indexing_room a.plant.now a.room c.number.result (sym c.in_ok-check_plant.ensures) c.number.ensures
    ∙ ap (λ (t : Bool). when (not t) 7) (lt-leb (8 + 2 * c.number.result) a.room c.if-not-number-room.true))

pub returns : goal.returns
returns c =
    let a = c.args in
    sym
    (indexing_room a.plant.now a.room c.number.result (sym c.in_ok-check_plant.ensures) c.number.ensures
    ∙ ap (λ (t : Bool). when (not t) 7) (le-leb (8 + 2 * c.number.result) a.room c.if-not-number-room.false))
