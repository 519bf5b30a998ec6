-- None of the states read so far can newly leave.
use Rattle.std.proofs.Common.{take}
use Rattle.statements.specs.Plants.{plant_of}
use Rattle.solve.specs.Stages.{Calm}
use Rattle.solve.proofs.moves.Moves.grows.Given as goal

abbrev pub invariant-loop-state : goal.invariant-loop-state
invariant-loop-state l = Calm (plant_of l.self.plant.now) l.self.frame.mask (take l.state-index l.start) l.stage
