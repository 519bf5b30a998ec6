use Rattle.std.proofs.Common.{length}
use Rattle.sort.proofs.Steps.{Tallied}
use Rattle.game.proofs.tally.Given as goal

-- the counts are those of the positions so far
abbrev pub invariant-loop-g : goal.invariant-loop-g
invariant-loop-g l = Tallied (length l.fn.counts) l.rev l.counts l.g-index
