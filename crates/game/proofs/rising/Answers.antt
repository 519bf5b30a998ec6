-- The answer is that for the starts so far, and then that for the two ends.
use Rattle.std.proofs.Common.{◌+◌, ◌-◌, length, get_or, arith, leb, Bool, ap, eqb, ◌&&◌}
use Rattle.arrays.proofs.Gathered.{gathered_none, gathered_more, gathered_all}
use Rattle.game.specs.Walked.{nodes, ordered}
use Rattle.game.proofs.rising.Goals as goal

pub loop-t-init : goal.loop-t-init
loop-t-init c = gathered_none _ _

pub loop-t-preserved : goal.loop-t-preserved
loop-t-preserved c =
    let starts = c.args.starts.now in
    gathered_more _ (λ k. leb (get_or starts k 0) (get_or starts (k + 1) 0)) c.loop-t.t c.loop-t.invariant (omega arith)

pub returns : goal.returns
unfolding nodes ordered
returns c =
    let l = c.loop-t in
    let s = c.args in
    let starts = s.starts.now in
    let ends = eqb (get_or starts 0 0) 0 && eqb (get_or starts (length starts - 1) 0) s.positions in
    ap (λ (b : Bool). b && ends)
    (gathered_all _ (λ k. leb (get_or starts k 0) (get_or starts (k + 1) 0)) l.t l.invariant (omega arith))
