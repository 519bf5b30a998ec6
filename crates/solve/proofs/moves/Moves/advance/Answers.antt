-- The game of the states that a stage may pass leaves the states of one stage more.
use Rattle.std.proofs.Common.{refl, arith}
use Rattle.statements.specs.Plants.{plant_of}
use Rattle.sets.proofs.Iterate.{sifted_few}
use Rattle.decoding.proofs.Faults.{plant_ok}
use Rattle.solve.proofs.StageSteps.{first_set}
use Rattle.solve.proofs.StageRows.{advanced, advanced_count}
use Rattle.solve.proofs.Worked.{opened_exits, columns_room}
use Rattle.solve.proofs.moves.Moves.advance.Goals as goal

pub admit-count-requires-clause-room : goal.admit-count-requires-clause-room
admit-count-requires-clause-room c =
    let small = (plant_ok c.args.self.now.plant.now c.args.self.now.given.accepted).sizes.states_most in
    let few = sifted_few (plant_of c.args.self.now.plant.now).states c.args.start.now c.requires.set in
    (c.requires.room.1, small, omega (arith, small, few))

pub play-kept-requires-clause-set : goal.play-kept-requires-clause-set
play-kept-requires-clause-set c = (first_set c.admit-count.ensures.opened c.requires.set).1

pub play-kept-requires-clause-exits : goal.play-kept-requires-clause-exits
play-kept-requires-clause-exits c = (
  _,
  opened_exits c.args.self.now.plant.now _ _ _ _ _ c.admit-count.new.graph _ c.admit-count.ensures.opened
      c.admit-count.ensures.exits,
)

pub place-requires-clause-long : goal.place-requires-clause-long
place-requires-clause-long c =
    let p = plant_of c.args.self.now.plant.now in
    let small = (plant_ok c.args.self.now.plant.now c.args.self.now.given.accepted).sizes.states_most in
    let wide = columns_room c.args.self.now.plant.now c.args.self.now.given.accepted p.states p.goals refl refl in (
      omega (arith, wide, c.play-kept.auto.waits),
      omega (arith, small, c.admit-count.auto.leave),
      c.requires.room.1,
    )

pub returns : goal.returns
returns c =
    let s = c.args.self.now in
    let p = plant_of s.plant.now in
    let sizes = (plant_ok s.plant.now s.given.accepted).sizes in
    let o = c.admit-count.ensures.opened in
    let played = c.play-kept.ensures _
    (opened_exits s.plant.now _ _ _ _ _ c.admit-count.new.graph _ o c.admit-count.ensures.exits) in
    record {
      graphed = c.admit-count.ensures.graphed;
      staged = λ old so_far.
          advanced p s.frame.mask c.args.start.now sizes.goals_least c.requires.settling sizes.states_most
          c.requires.set c.args.done c.requires.room.2 o played.0 played.1 old _ so_far c.place.ensures;
      count = λ old so_far.
          advanced_count p s.frame.mask c.args.start.now sizes.goals_least c.requires.settling sizes.states_most
          c.requires.set c.args.done c.requires.room.2 o played.0 played.1 old _ so_far;
    }
