use Rattle.std.proofs.Common.{◌-◌, ◌<◌, ◌&&◌, ◌∙◌, Bool, ltb, length, get_or, ap, arith}
use Rattle.std.proofs.lemmas.Bool.Decides.{nat_tests}
use Rattle.arrays.proofs.Gathered.{gathered_none, gathered_more, gathered_all}
use Rattle.arrays.proofs.Ordered.{climbs, climbs_rising, rising_empty}
use Rattle.arrays.proofs.rises.Goals as goal

pub returns-then-is_empty : goal.returns-then-is_empty
returns-then-is_empty c = rising_empty _ _ (grind (arith, nat_tests))

pub loop-k-init : goal.loop-k-init
loop-k-init c = gathered_none _ _

pub loop-k-preserved : goal.loop-k-preserved
loop-k-preserved c = gathered_more _ (climbs c.args.list.now) c.loop-k.k c.loop-k.invariant (omega arith)

pub returns : goal.returns
returns c =
    let list = c.args.list.now in
    let last = ltb (get_or list (length list - 1) 0) c.args.limit in
    let some : 0 < length list = grind (arith, nat_tests) in
    rw c.from.ensures
    (ap (λ (b : Bool). b && last) (gathered_all _ (climbs list) c.loop-k.k c.loop-k.invariant (omega arith))
    ∙ climbs_rising c.args.limit list some)
