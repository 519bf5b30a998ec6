-- A goal's column stands in the columns, and its entry behind those of the goals before.
use Rattle.std.proofs.Common.{arith}
use Rattle.statements.specs.Plants.{plant_of}
use Rattle.solve.proofs.RowEntries.{column_is, column_in, entered_none, entered_next, entered_all}
use Rattle.solve.proofs.moves.Moves.put_entries.Goals as goal

pub loop-i-init : goal.loop-i-init
loop-i-init c = entered_none

pub overflow_mul-from : goal.overflow_mul-from
overflow_mul-from c =
    omega (
      arith,
      column_in (plant_of c.args.self.now.plant.now) c.args.waits.now c.args.self.now.states_is
          c.args.self.now.goals_is c.requires.long c.loop-i.i c.loop-i-test.true,
    )

pub overflow_add-column : goal.overflow_add-column
overflow_add-column c =
    omega (
      arith,
      column_in (plant_of c.args.self.now.plant.now) c.args.waits.now c.args.self.now.states_is
          c.args.self.now.goals_is c.requires.long c.loop-i.i c.loop-i-test.true,
    )

pub offset_bounds-waits-from : goal.offset_bounds-waits-from
offset_bounds-waits-from c =
    omega (
      arith,
      column_in (plant_of c.args.self.now.plant.now) c.args.waits.now c.args.self.now.states_is
          c.args.self.now.goals_is c.requires.long c.loop-i.i c.loop-i-test.true,
    )

pub slice_bounds-column-end : goal.slice_bounds-column-end
slice_bounds-column-end c =
    column_in (plant_of c.args.self.now.plant.now) c.args.waits.now c.args.self.now.states_is
    c.args.self.now.goals_is c.requires.long c.loop-i.i c.loop-i-test.true

pub loop-i-preserved : goal.loop-i-preserved
loop-i-preserved c =
    let p = plant_of c.args.self.now.plant.now in
    entered_next c.loop-i.invariant c.requires.in_range (omega (arith, c.loop-i-test.true, c.args.self.now.goals_is))
    (column_is p c.args.waits.now c.loop-i.i c.args.self.now.states_is) c.listed-action.ensures.zero
    c.listed-action.ensures.more c.put.ensures c.put-in-loop-i.ensures

pub returns : goal.returns
returns c = entered_all c.loop-i.invariant (omega (arith, c.loop-i-test.false, c.args.self.now.goals_is))
