-- The rows of the new ones of the states below x are placed.
use Rattle.statements.specs.Plants.{plant_of}
use Rattle.solve.proofs.RowPlaces.{PlacedTo}
use Rattle.solve.proofs.moves.Moves.place.Given as goal

abbrev pub invariant-loop-x : goal.invariant-loop-x
invariant-loop-x l =
    PlacedTo (plant_of l.self.plant.now) l.self.frame.mask l.leave l.waits l.number l.initial.stage l.initial.out l.stage
    l.out l.x
