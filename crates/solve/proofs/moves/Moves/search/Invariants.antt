-- At each group the moves left decide which move is found, and at each end of a group the ends left decide whether its
-- move goes below the limit.
use Rattle.std.proofs.Common.{◌+◌}
use Rattle.statements.specs.Plants.{plant_of}
use Rattle.solve.specs.Given.{below}
use Rattle.solve.proofs.Searching.{Left, Ends}
use Rattle.solve.proofs.moves.Moves.search.Given as goal

abbrev pub invariant-groups : goal.invariant-groups
invariant-groups l =
    let p = plant_of l.self.plant.now in
    Left p l.self.frame.mask (below l.waits l.limit p.states) l.state l.last l.g

abbrev pub invariant-loop-end : goal.invariant-loop-end
invariant-loop-end l =
    let p = plant_of l.self.plant.now in
    Ends p l.self.frame.mask (below l.waits l.limit p.states) l.state l.last l.g l.stop (l.at + l.end-index)
