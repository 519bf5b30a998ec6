-- The parts of the game are those that strike out, by the equations of `of`.
use Rattle.std.proofs.Common.{arith}
use Rattle.game.proofs.Parts.{starts_nodes}
use Rattle.game.proofs.play.strike_in.Goals as goal

pub strike-requires-clause-inside : goal.strike-requires-clause-inside
strike-requires-clause-inside c =
    rw c.of.ensures.starts
    (λ x m. omega (arith, starts_nodes c.args.graph.now c.requires.ready.fits, c.requires.inside x m))

pub returns : goal.returns
returns c = rw (c.of.ensures.rev, c.of.ensures.starts, c.of.ensures.gs) at c.strike.ensures
