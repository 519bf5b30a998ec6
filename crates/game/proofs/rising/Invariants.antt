use Rattle.std.proofs.Common.{◌+◌, get_or, leb}
use Rattle.arrays.proofs.Gathered.{Gathered}
use Rattle.game.proofs.rising.Given as goal

-- the answer is that for the starts so far
abbrev pub invariant-loop-t : goal.invariant-loop-t
invariant-loop-t l = Gathered l.n (λ k. leb (get_or l.starts k 0) (get_or l.starts (k + 1) 0)) l.t l.good
