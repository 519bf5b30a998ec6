-- The pass lays the arrows out over zeros, and then the sums are made.
use Rattle.std.proofs.Common.{Some, sym, ap, ◌∙◌, arith, length, length-take-le}
use Rattle.std.proofs.Math.Seq.{length_front}
use Rattle.statements.specs.Plants.{plant_of}
use Rattle.decoding.proofs.Order.{arrows_length}
use Rattle.format.proofs.Header.{plant_head, plant_states}
use Rattle.layout.specs.Layout.{table_room}
use Rattle.layout.specs.Passing.{part, first_part, Room}
use Rattle.layout.proofs.Closing.{loaded_is, count_sum, closed}
use Rattle.layout.proofs.Lengths.{cleared}
use Rattle.layout.proofs.Storing.{room_same}
use Rattle.layout.proofs.fill.Goals as goal

pub slice_bounds-fill-end : goal.slice_bounds-fill-end
slice_bounds-fill-end c =
    let head = plant_head _ c.requires.head in
    omega arith

pub slice_bounds-fill-end-2 : goal.slice_bounds-fill-end-2
slice_bounds-fill-end-2 c =
    let head = plant_head _ c.requires.head in
    sym (length-take-le c.from.result c.args.table.now (omega arith))

pub lay-requires-clause-clear : goal.lay-requires-clause-clear
lay-requires-clause-clear c =
    let head = plant_head _ c.requires.head in
    rw (← c.number-count.ensures, ← c.from.ensures)
    (cleared c.args.table.now c.fill.new.self _ (omega arith) (c.fill.ensures.after (λ y h. h)))

pub slice_bounds-bound-end-2 : goal.slice_bounds-bound-end-2
slice_bounds-bound-end-2 c = sym (length-take-le 1025 c.lay.new.table (omega arith))

pub bound-requires-clause-room : goal.bound-requires-clause-room
bound-requires-clause-room c =
    let head = plant_head _ c.requires.head in
    omega (arith, length-take-le 1025 c.lay.new.table (omega arith))

pub bound-requires-clause-small : goal.bound-requires-clause-small
unfolding first_part part
bound-requires-clause-small c =
    let head = plant_head _ c.requires.head in
    rw (c.number-count.ensures, ← plant_states c.args.plant.now)
    (omega (arith, count_sum c.in_ok-laid.ensures.laid, arrows_length c.args.plant.now, head.arrows_most))

pub bounds-table-from : goal.bounds-table-from
bounds-table-from c =
    let front = length-take-le 1025 c.lay.new.table (omega arith) in
    let long = length_front c.lay.new.table c.bound.new.first 1025 c.bound.auto.first in
    omega (arith, c.in_ok-laid.ensures.laid.groups_few, arrows_length c.args.plant.now)

pub returns-clause-loaded : goal.returns-clause-loaded
returns-clause-loaded c =
    rw (← c.in_ok-laid.ensures.fits) (ap Some (loaded_is c.in_ok-laid.ensures.laid))

pub returns-clause-room : goal.returns-clause-room
returns-clause-room c =
    rw (← c.requires.place) (omega (arith, c.in_ok-laid.ensures.laid.arrows_few, arrows_length c.args.plant.now))

pub returns-clause-laid : goal.returns-clause-laid
unfolding first_part part
returns-clause-laid c =
    let head = plant_head _ c.requires.head in
    let room : Room (length (plant_of c.args.plant.now).arrows) c.args.room c.lay.new.table c.lay.new.states =
    rw arrows_length (room_same c.requires.room (omega arith) (omega arith)) in
    let states = c.number-count.ensures ∙ sym (plant_states c.args.plant.now) in
    let front = length-take-le 1025 c.lay.new.table (omega arith) in
    rw c.from-2.ensures
    (closed c.in_ok-laid.ensures.laid room c.bound.new.first (c.bound.auto.first ∙ front) c.number-count.result states
    (omega arith) (c.requires.place ∙ ap table_room (omega arith)) c.bound.ensures)
