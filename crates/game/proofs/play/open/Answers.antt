-- The next node is marked where it has a group.
use Rattle.std.proofs.Common.{◌<◌, arith}
use Rattle.std.proofs.lemmas.List.{get_or-take, length-take-le}
use Rattle.game.proofs.Opening.{open_none, open_no, open_yes}
use Rattle.game.proofs.play.open.Goals as goal
use Rattle.game.proofs.play.open.Goals.{then-groups-ne0, else-groups-ne0}

pub loop-x-init : goal.loop-x-init
loop-x-init c = open_none _ _ _ c.requires.1.1

pub loop-x-preserved : goal.loop-x-preserved
loop-x-preserved c =
    let l = c.loop-x in
    let size = length-take-le c.args.n c.args.live.now c.requires.0 in
    let low : l.x < c.args.n = omega (arith, size, c.loop-x-test.true) in
    let is = get_or-take c.args.n c.args.live.now l.x 0 low in
    elim c.if-groups-ne0.branch [
      | then-groups-ne0 w ↦
          rw w.member-is
          (open_yes _ _ _ _ l.invariant low (rw is at w.if-groups-ne0.true)
          (omega (arith, c.requires.1.0, l.auto.member)))
      | else-groups-ne0 w ↦ rw w.member-is (open_no _ _ _ _ l.invariant low (rw is at w.if-groups-ne0.false))
    ]

pub returns : goal.returns
returns c x h =
    c.loop-x.invariant.marked x
    (omega (arith, length-take-le c.args.n c.args.live.now c.requires.0, c.loop-x-test.false))
