-- The answer for one number more, and for all of them.
use Rattle.std.proofs.Common.{ltb, get_or}
use Rattle.arrays.proofs.Gathered.{gathered_none, gathered_more, gathered_all}
use Rattle.game.proofs.play.covered.Goals as goal

pub loop-size-init : goal.loop-size-init
loop-size-init c = gathered_none _ _

pub loop-size-preserved : goal.loop-size-preserved
loop-size-preserved c =
    let l = c.loop-size in
    gathered_more _ (λ k. ltb 0 (get_or c.args.sizes.now k 0)) l.size-index l.invariant c.loop-size-test.true

pub returns : goal.returns
returns c =
    let l = c.loop-size in
    gathered_all _ (λ k. ltb 0 (get_or c.args.sizes.now k 0)) l.size-index l.invariant c.loop-size-test.false
