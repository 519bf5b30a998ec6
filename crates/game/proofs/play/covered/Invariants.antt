-- The answer is that for the numbers so far.
use Rattle.std.proofs.Common.{ltb, length, get_or}
use Rattle.arrays.proofs.Gathered.{Gathered}
use Rattle.game.proofs.play.covered.Given as goal

abbrev pub invariant-loop-size : goal.invariant-loop-size
invariant-loop-size l = Gathered (length l.sizes) (λ k. ltb 0 (get_or l.sizes k 0)) l.size-index l.good
