-- The sums are those of the first lengths, of which there are few enough.
use Rattle.std.proofs.Common.{◌≡◌, arith, refl}
use Rattle.layout.proofs.Lengths.{sum_start, sum_read, sum_most, sum_one, sum_end}
use Rattle.layout.proofs.sums.bound.Goals as goal

pub overflow_add-sum : goal.overflow_add-sum
overflow_add-sum c =
    let l = c.loop-x.invariant in
    omega (arith, sum_read l, sum_most l c.args.count (omega arith) (omega arith))

pub loop-x-init : goal.loop-x-init
loop-x-init c = sum_start _

pub loop-x-preserved : goal.loop-x-preserved
loop-x-preserved c = sum_one c.loop-x.invariant (omega arith) _ refl

pub returns : goal.returns
returns c =
    let last : c.from-last.result ≡ c.loop-x.x = omega arith in
    let end : c.args.count ≡ c.loop-x.x = omega arith in
    rw (last, end) (sum_end c.loop-x.invariant c.loop-x.x refl (omega arith))
