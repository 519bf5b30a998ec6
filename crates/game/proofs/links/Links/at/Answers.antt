-- A node's positions end where those of the next begin, and all end within the list.
use Rattle.std.proofs.Common.{◌+◌, arith}
use Rattle.game.specs.Walked.{nodes}
use Rattle.game.proofs.Nodes.{starts_rise}
use Rattle.game.proofs.links.Links.at.Goals as goal

pub bounds-self-x : goal.bounds-self-x
unfolding nodes
bounds-self-x c = omega (arith, c.requires)

pub bounds-self-x-2 : goal.bounds-self-x-2
unfolding nodes
bounds-self-x-2 c = omega (arith, c.requires)

pub slice_bounds-result-end : goal.slice_bounds-result-end
slice_bounds-result-end c =
    let s = c.args.self.now in
    omega (arith, starts_rise s.rev.now s.starts.now s.gs.now s.index (c.args.node + 1) (nodes s.starts.now) (omega (arith, c.requires)) (omega arith), s.index.last_is)
