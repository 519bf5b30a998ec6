-- The front holds those of the first k nodes with a wait for each goal, and the others are listed.
use Rattle.std.proofs.Common.{arith, sym, ◌∙◌}
use Rattle.game.proofs.Cutting.{cut_start, cut_in, cut_yes, cut_no, cut_end}
use Rattle.game.proofs.strike.cut.Goals as goal
use Rattle.game.proofs.strike.cut.Goals.{then-waits_all, else-waits_all}

pub loop-k-init : goal.loop-k-init
loop-k-init c = cut_start _ _ _ _ c.requires.room.0 c.requires.room.1

pub waits_all-requires : goal.waits_all-requires
waits_all-requires c = (c.requires.nodes _ (cut_in c.loop-k.invariant (omega arith)), c.requires.small)

pub loop-k-preserved : goal.loop-k-preserved
loop-k-preserved c =
    let inv = c.loop-k.invariant in
    let is = c.waits_all.ensures in
    elim c.if-waits_all.branch [
      | then-waits_all w ↦ rw (w.list-is, w.gone-is, w.kept-is) (cut_yes inv (omega arith) (sym is ∙ w.if-waits_all.true))
      | else-waits_all w ↦ rw (w.list-is, w.gone-is, w.kept-is) (cut_no inv (omega arith) (sym is ∙ w.if-waits_all.false))
    ]

pub returns : goal.returns
returns c =
    let end = cut_end c.loop-k.invariant (omega arith) in
    record { number = end.0; still = end.1.0; gone = end.1.1 }
