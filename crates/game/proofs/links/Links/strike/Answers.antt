-- The nodes of the list so far are struck out.
use Rattle.std.proofs.Common.{arith}
use Rattle.game.proofs.Cutting.{place_in}
use Rattle.game.proofs.Strikes.{struck_start, struck_more, struck_end}
use Rattle.game.proofs.links.Links.strike.Goals as goal

pub loop-node-init : goal.loop-node-init
loop-node-init c = struck_start _ _ _ _ _ _ _

pub strike_one-requires : goal.strike_one-requires
strike_one-requires c =
    let marked = c.requires.marked in
    record {
      inside = c.requires.inside _ (place_in c.args.gone.now c.loop-node.node-index (omega arith));
      marked = (_, c.loop-node.invariant.marked marked.0 marked.1);
    }

pub loop-node-preserved : goal.loop-node-preserved
loop-node-preserved c =
    let kept = c.strike_one.auto in
    struck_more _ _ _ _ _ _ _ c.loop-node.invariant (omega arith) kept.member kept.live kept.dead c.strike_one.ensures

pub returns : goal.returns
returns c = struck_end _ _ _ _ _ _ _ c.loop-node.invariant (omega arith)
