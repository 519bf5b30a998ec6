-- Each number is copied after those before it.
use Rattle.std.proofs.Common.{arith}
use lib.Seq.{take_all}
use Rattle.sets.proofs.Over.{over_none, copy_more}
use Rattle.arrays.proofs.Guards.{fitting_yes, fitting_no}
use Rattle.arrays.proofs.copy.Goals as goal

pub returns-then-from-to : goal.returns-then-from-to
returns-then-from-to c = fitting_no _ _ c.if-from-to.true

pub loop-k-init : goal.loop-k-init
loop-k-init c = over_none c.args.to.now

pub loop-k-preserved : goal.loop-k-preserved
loop-k-preserved c =
    copy_more c.args.from.now c.args.to.now _ c.loop-k.k (omega arith) (omega arith) c.loop-k.invariant

pub returns : goal.returns
returns c =
    rw (fitting_yes c.args.from.now c.args.to.now (omega arith))
    (rw (take_all c.loop-k.k c.args.from.now (omega arith)) at c.loop-k.invariant)
