-- The counts are those of the positions so far.
use Rattle.std.proofs.Common.{arith}
use Rattle.sort.proofs.Steps.{tally_start, tally_most, tally_step, tally_end}
use Rattle.game.proofs.tally.Goals as goal

pub loop-g-init : goal.loop-g-init
loop-g-init c = tally_start _ c.args.rev.now c.args.counts.now c.requires.2

pub overflow_add-counts : goal.overflow_add-counts
overflow_add-counts c =
    omega (arith, tally_most _ _ _ _ c.loop-g.invariant (c.requires.1 c.loop-g.g-index (omega arith)))

pub loop-g-preserved : goal.loop-g-preserved
loop-g-preserved c =
    let low = c.requires.1 c.loop-g.g-index (omega arith) in
    tally_step _ _ _ _ c.loop-g.invariant (omega arith) low (omega arith)

pub returns : goal.returns
returns c = tally_end _ _ _ _ c.loop-g.invariant (omega arith)
