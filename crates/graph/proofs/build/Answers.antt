-- With room, and the layout loaded, the links are packed; then what is lent is good.
use Rattle.std.proofs.Common.{true, false, ◌-◌, ◌/◌, ◌++◌, length, drop, sym, ap, ◌∙◌, refl, arith}
use Rattle.std.proofs.Math.Seq.{length_front}
use Rattle.statements.specs.Plants.{plant_of}
use Rattle.sets.proofs.Tests.{and_none}
use Rattle.layout.specs.Layout.{table_room}
use Rattle.layout.proofs.Options.{some_picked, none_picked}
use Rattle.game.specs.Packed.{part, places_in}
use Rattle.graph.proofs.Building.{room_none, both_fit, loads_no, opened, places_size, linkable, packed}
use Rattle.graph.proofs.build.Goals as goal

pub returns-then-graph-lt2049-clause-loaded : goal.returns-then-graph-lt2049-clause-loaded
returns-then-graph-lt2049-clause-loaded c =
    none_picked _ _ (and_none _ _ (room_none (plant_of c.args.plant.now) c.args.table.now c.args.graph.now (omega arith)))

pub returns-in_err-loaded-clause-loaded : goal.returns-in_err-loaded-clause-loaded
returns-in_err-loaded-clause-loaded c =
    let no = loads_no c.args.plant.now c.args.way.mask c.args.table.now c.args.graph.now (omega arith)
    c.in_err-loaded.ensures.loaded in
    c.from_residual.ensures
    ∙ none_picked _ _ (sym (both_fit _ _ c.args.plant.now _ false _ (sym no) refl))

pub link-good-requires : goal.link-good-requires
unfolding part
link-good-requires c =
    let o = opened c.args.plant.now c.args.way.mask c.args.table.now c.args.graph.now (omega arith)
    c.in_ok-loaded.loaded c.in_ok-loaded.ensures.loaded in
    let g = c.args.graph.now in
    let room = c.table_room-room.ensures.value in
    let loaded = c.in_ok-loaded.ensures.room in
    let fits = o.table_fits in
    let places = o.graph_fits in
    let same = ap table_room c.load.auto.table in
    let whole = length_front g c.load.new.states ((length g - 2049) / 2) c.load.auto.states in
    linkable c.args.plant.now c.args.way.mask c.from-count.result c.table_room-room.result c.load.new.table
    (c.from-count.ensures ∙ o.arrows_are) room c.in_ok-loaded.ensures.laid o.fine (omega arith) (omega arith)
    (c.load.new.states ++ drop ((length g - 2049) / 2) g) (omega arith) (rw whole places)

pub returns-then-good-clause-loaded : goal.returns-then-good-clause-loaded
returns-then-good-clause-loaded c =
    let o = opened c.args.plant.now c.args.way.mask c.args.table.now c.args.graph.now (omega arith)
    c.in_ok-loaded.loaded c.in_ok-loaded.ensures.loaded in
    let good = sym c.link-good.ensures.lent ∙ c.if-good.true in
    some_picked _ _ _ (sym (both_fit _ _ c.args.plant.now _ true true (sym o.roomy) good)) o.counted

pub returns-then-good-clause-packed : goal.returns-then-good-clause-packed
unfolding part
returns-then-good-clause-packed c =
    let o = opened c.args.plant.now c.args.way.mask c.args.table.now c.args.graph.now (omega arith)
    c.in_ok-loaded.loaded c.in_ok-loaded.ensures.loaded in
    let g = c.args.graph.now in
    let whole = length_front g c.load.new.states ((length g - 2049) / 2) c.load.auto.states in
    let long = sym (c.link-good.auto.graph ∙ whole) in
    let size = c.load.auto.states
    ∙ places_size c.args.plant.now c.args.way.mask c.args.table.now g (omega arith) ∙ ap places_in long in
    packed c.args.plant.now c.args.way.mask c.from-count.result c.table_room-room.result c.load.new.table
    (c.from-count.ensures ∙ o.arrows_are) c.table_room-room.ensures.value c.in_ok-loaded.ensures.laid
    (drop ((length g - 2049) / 2) g) c.link-good.new.graph size (c.link-good.ensures.linked c.if-good.true)

pub returns-else-good-clause-loaded : goal.returns-else-good-clause-loaded
returns-else-good-clause-loaded c =
    let o = opened c.args.plant.now c.args.way.mask c.args.table.now c.args.graph.now (omega arith)
    c.in_ok-loaded.loaded c.in_ok-loaded.ensures.loaded in
    let bad = sym c.link-good.ensures.lent ∙ c.if-good.false in
    none_picked _ _ (sym (both_fit _ _ c.args.plant.now _ true false (sym o.roomy) bad))
