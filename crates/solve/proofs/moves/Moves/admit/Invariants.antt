-- What is promised holds of the states of the start read so far.
use Rattle.std.proofs.Common.{take}
use Rattle.statements.specs.Plants.{plant_of}
use Rattle.solve.specs.Given.{below}
use Rattle.solve.specs.Graphed.{Graphed, Exits}
use Rattle.solve.specs.Stages.{Opened}
use Rattle.solve.proofs.moves.Moves.admit.Given as goal

abbrev pub invariant-loop-state : goal.invariant-loop-state
invariant-loop-state l =
    let p = plant_of l.self.plant.now in
    let done = take l.state-index l.start in
    record {
      opened : Opened p l.self.frame.mask done (below l.stage 65535 p.states) l.leave l.all l.count;
      graphed : Graphed p l.self.frame.mask l.self.frame.groups l.self.frame.positions l.graph;
      exits : Exits p l.leave done l.graph;
    }
