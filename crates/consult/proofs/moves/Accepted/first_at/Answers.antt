-- The arrow in the middle is of a lower rank, or is not.
use Rattle.std.proofs.Common.{arith}
use Rattle.consult.proofs.Ascending.{between_up, between_down}
use Rattle.consult.proofs.moves.Accepted.first_at.Goals as goal

pub loop-low-preserved-then-rank_at-rank : goal.loop-low-preserved-then-rank_at-rank
loop-low-preserved-then-rank_at-rank c =
    between_up c.args.self.now.fine c.loop-low.invariant _ (omega arith) (omega arith)
    (omega (arith, c.rank_at.ensures, c.if-rank_at-rank.true))

pub loop-low-preserved : goal.loop-low-preserved
loop-low-preserved c =
    between_down c.args.self.now.fine c.loop-low.invariant _ (omega arith) (omega arith)
    (omega (arith, c.rank_at.ensures, c.if-rank_at-rank.false))
