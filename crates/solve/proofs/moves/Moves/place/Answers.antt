-- The row of a new state is put, and any other state is passed over.
use Rattle.std.proofs.Common.{◌∙◌, arith}
use Rattle.statements.specs.Plants.{plant_of}
use Rattle.decoding.proofs.Faults.{plant_ok}
use Rattle.decoding.proofs.Sizes.{row_within}
use Rattle.solve.proofs.RowPlaces.{new_now, placed_skip, placed_put, placed_all}
use Rattle.solve.proofs.moves.Moves.place.Goals as goal
use Rattle.solve.proofs.moves.Moves.place.Goals.{then-waits-x, else-waits-x}

pub bounds-waits-x : goal.bounds-waits-x
bounds-waits-x c =
    let p = plant_of c.args.self.now.plant.now in
    let goals = (plant_ok c.args.self.now.plant.now c.args.self.now.given.accepted).sizes.goals_least in
    omega (
      arith,
      row_within {s = p.goals} 0 p.states goals,
      c.requires.long.0,
      c.loop-x-test.true,
      c.args.self.now.states_is,
    )

pub overflow_cast-x : goal.overflow_cast-x
overflow_cast-x c =
    let few = (plant_ok c.args.self.now.plant.now c.args.self.now.given.accepted).sizes.states_most in
    omega (arith, few, c.loop-x-test.true, c.args.self.now.states_is)

pub loop-x-preserved : goal.loop-x-preserved
loop-x-preserved c =
    let r = c.loop-x.invariant in
    elim c.if-waits-x.branch [
      | then-waits-x w ↦
          placed_put r c.args.self.now.frame.size c.args.self.now.size_is (new_now r w.if-waits-x.true)
          (omega (arith, c.loop-x-test.true, c.args.self.now.states_is)) c.requires.long.2 c.requires.room
          w.stage-is (w.out-is ∙ w.put_row.ensures)
      | else-waits-x w ↦ rw (w.stage-is, w.out-is) (placed_skip r (new_now r w.if-waits-x.false))
    ]

pub returns : goal.returns
returns c = placed_all c.loop-x.invariant (omega (arith, c.loop-x-test.false, c.args.self.now.states_is))
