-- Past the tests the arrows decide whether the layout is filled.
use Rattle.std.proofs.Common.{Some, None, Bool, sym, ap, ◌∙◌}
use Rattle.statements.specs.Sets.{pick}
use Rattle.statements.specs.Plants.{plant_of}
use Rattle.sets.proofs.Tests.{and_iff}
use Rattle.layout.specs.Loading.{loaded_of}
use Rattle.layout.proofs.Accepted.{load_test, room_of, load_yes, load_no}
use Rattle.layout.proofs.load.Goals as goal

pub fill-requires-clause-room : goal.fill-requires-clause-room
fill-requires-clause-room c =
    let test = load_test _ c.args.table.now c.args.states.now (c.from-count.ensures ∙ c.number.ensures)
    c.table_room-room.ensures.value c.before_arrows_ok.ensures in
    let k = (and_iff _ _).0 (sym test ∙ c.if-fine.true) in
    rw c.table_room-room.ensures.value (room_of _ _ _ k.0)

pub returns-then-fine-clause-loaded : goal.returns-then-fine-clause-loaded
returns-then-fine-clause-loaded c =
    let test = load_test _ c.args.table.now c.args.states.now (c.from-count.ensures ∙ c.number.ensures)
    c.table_room-room.ensures.value c.before_arrows_ok.ensures in
    let k = (and_iff _ _).0 (sym test ∙ c.if-fine.true) in
    c.fill.ensures.loaded
    ∙ ap (λ (b : Bool). pick b (Some (loaded_of (plant_of c.args.plant.now) c.args.mask)) None) (load_yes _ _ k.0 k.1)

pub returns-else-fine-clause-loaded : goal.returns-else-fine-clause-loaded
returns-else-fine-clause-loaded c =
    let test = load_test _ c.args.table.now c.args.states.now (c.from-count.ensures ∙ c.number.ensures)
    c.table_room-room.ensures.value c.before_arrows_ok.ensures in
    ap (λ (b : Bool). pick b (Some (loaded_of (plant_of c.args.plant.now) c.args.mask)) None)
    (load_no _ _ (sym test ∙ c.if-fine.false))
