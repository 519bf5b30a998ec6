-- The answer is that for the numbers so far.
use Rattle.std.proofs.Common.{get_or, arith, ltb}
use Rattle.arrays.proofs.Gathered.{gathered_none, gathered_more, gathered_all}
use Rattle.game.specs.Walked.{all_below}
use Rattle.game.proofs.below.Goals as goal

pub loop-x-init : goal.loop-x-init
loop-x-init c = gathered_none _ _

pub loop-x-preserved : goal.loop-x-preserved
loop-x-preserved c =
    let s = c.args in
    gathered_more _ (λ k. ltb (get_or s.xs.now k 0) s.limit) c.loop-x.x-index c.loop-x.invariant (omega arith)

pub returns : goal.returns
unfolding all_below
returns c =
    let s = c.args in
    gathered_all _ (λ k. ltb (get_or s.xs.now k 0) s.limit) c.loop-x.x-index c.loop-x.invariant (omega arith)
