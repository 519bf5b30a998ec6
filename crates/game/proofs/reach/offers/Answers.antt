-- What the nodes so far offer is written.
use Rattle.std.proofs.Common.{arith}
use Rattle.game.proofs.Aiming.{offers_more}
use Rattle.game.proofs.reach.offers.Goals as goal

pub loop-x-preserved : goal.loop-x-preserved
loop-x-preserved c =
    let a = c.args in
    let l = c.loop-x in
    offers_more a.labels.now a.member.now l.bits l.x _ l.invariant (omega arith) c.offer.ensures
