-- Where the start rises and there is room, the rows are worked out in arrays of a length that fits the plant's arrows.
use Rattle.std.proofs.Common.{arith}
use Rattle.statements.specs.Plants.{plant_of}
use Rattle.decoding.proofs.Order.{arrows_length}
use Rattle.graph.proofs.Links.{arrows_few}
use Rattle.graph.specs.Packed.{accepts_by}
use Rattle.solve.proofs.Answers as laws
use Rattle.solve.proofs.solve.Goals as goal

pub returns-then-rises-out-clause-count : goal.returns-then-rises-out-clause-count
unfolding plant_of
returns-then-rises-out-clause-count c =
    (laws.not_solved _ c.args.plant.now c.args.way.mask c.args.start.now c.args.out.now
    (laws.short_unsolvable (accepts_by c.args.way.index c.args.plant.now) c.args.plant.now
    c.args.start.now c.args.out.now _ _ c.number-states.ensures c.book_long.ensures _ c.rises.ensures
    c.if-rises-out.true)).0

pub returns-then-rises-out-clause-rows : goal.returns-then-rises-out-clause-rows
unfolding plant_of
returns-then-rises-out-clause-rows c =
    (laws.not_solved _ c.args.plant.now c.args.way.mask c.args.start.now c.args.out.now
    (laws.short_unsolvable (accepts_by c.args.way.index c.args.plant.now) c.args.plant.now
    c.args.start.now c.args.out.now _ _ c.number-states.ensures c.book_long.ensures _ c.rises.ensures
    c.if-rises-out.true)).1

pub nothing-requires : goal.nothing-requires
unfolding plant_of
nothing-requires c =
    (laws.fitting (accepts_by c.args.way.index c.args.plant.now) c.args.plant.now c.args.start.now
    c.args.out.now _ _ c.number-states.ensures c.book_long.ensures _ c.rises.ensures c.if-rises-out.false).1

pub in_arrays-requires-clause-wide : goal.in_arrays-requires-clause-wide
in_arrays-requires-clause-wide c =
    λ _. laws.wide_small _ (omega (arith, arrows_length c.args.plant.now, c.number.ensures, c.if-number-le2048.true))

pub in_arrays-requires-clause-set : goal.in_arrays-requires-clause-set
unfolding plant_of
in_arrays-requires-clause-set c =
    (laws.fitting (accepts_by c.args.way.index c.args.plant.now) c.args.plant.now c.args.start.now
    c.args.out.now _ _ c.number-states.ensures c.book_long.ensures _ c.rises.ensures c.if-rises-out.false).0

pub in_arrays-requires-clause-room : goal.in_arrays-requires-clause-room
unfolding plant_of
in_arrays-requires-clause-room c =
    (laws.fitting (accepts_by c.args.way.index c.args.plant.now) c.args.plant.now c.args.start.now
    c.args.out.now _ _ c.number-states.ensures c.book_long.ensures _ c.rises.ensures c.if-rises-out.false).1

pub in_arrays-requires-2-clause-wide : goal.in_arrays-requires-2-clause-wide
in_arrays-requires-2-clause-wide c = λ fine. laws.wide_large _ (arrows_few _ fine)

pub in_arrays-requires-2-clause-set : goal.in_arrays-requires-2-clause-set
unfolding plant_of
in_arrays-requires-2-clause-set c =
    (laws.fitting (accepts_by c.args.way.index c.args.plant.now) c.args.plant.now c.args.start.now
    c.args.out.now _ _ c.number-states.ensures c.book_long.ensures _ c.rises.ensures c.if-rises-out.false).0

pub in_arrays-requires-2-clause-room : goal.in_arrays-requires-2-clause-room
unfolding plant_of
in_arrays-requires-2-clause-room c =
    (laws.fitting (accepts_by c.args.way.index c.args.plant.now) c.args.plant.now c.args.start.now
    c.args.out.now _ _ c.number-states.ensures c.book_long.ensures _ c.rises.ensures c.if-rises-out.false).1
