use Rattle.std.proofs.Common.{length, get_or, ltb}
use Rattle.arrays.proofs.Gathered.{Gathered}
use Rattle.game.proofs.below.Given as goal

-- the answer is that for the numbers so far
abbrev pub invariant-loop-x : goal.invariant-loop-x
invariant-loop-x l = Gathered (length l.xs) (λ k. ltb (get_or l.xs k 0) l.limit) l.x-index l.good
