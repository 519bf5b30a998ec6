-- The entries of the first goals are written.
use Rattle.statements.specs.Plants.{plant_of}
use Rattle.solve.proofs.RowEntries.{Entered}
use Rattle.solve.proofs.moves.Moves.put_entries.Given as goal

abbrev pub invariant-loop-i : goal.invariant-loop-i
invariant-loop-i l =
    Entered (plant_of l.self.plant.now) l.self.frame.mask l.own l.waits l.state l.at l.initial.out l.out l.i
