-- One node more is put on the worklist, and has its mark taken away.
use Rattle.std.proofs.Common.{◌<◌, length, get_or, refl, arith}
use Rattle.game.proofs.Cutting.{place_in}
use Rattle.game.proofs.Emptying.{front_more, unmark_none, unmark_more}
use Rattle.game.proofs.worklist.load.Goals as goal

pub loop-node-init : goal.loop-node-init
loop-node-init c = (refl, (refl, unmark_none c.args.gone.now _))

pub push-tail-requires-clause-room : goal.push-tail-requires-clause-room
push-tail-requires-clause-room c =
    let l = c.loop-node in (
      omega (arith, c.requires.room.0, l.invariant.0, l.auto.list, c.loop-node-test.true),
      omega (
        arith,
        c.requires.room.1 _ (place_in c.args.gone.now l.node-index c.loop-node-test.true),
        l.auto.member,
      ),
    )

pub loop-node-preserved : goal.loop-node-preserved
loop-node-preserved c =
    let l = c.loop-node in
    let p = c.push-tail.ensures in
    let more = c.loop-node-test.true in
    let low : get_or c.args.gone.now l.node-index 0 < length l.member =
    omega (arith, c.requires.room.1 _ (place_in c.args.gone.now l.node-index more), l.auto.member) in (
      omega (arith, p.number, l.invariant.0),
      (
        rw (p.list, l.invariant.0)
            (front_more c.args.gone.now l.list l.node-index l.invariant.1.0 more
            (omega (arith, c.requires.room.0, l.auto.list, more))),
        rw p.member (unmark_more c.args.gone.now _ _ l.node-index l.invariant.1.1 more low),
      ),
    )
