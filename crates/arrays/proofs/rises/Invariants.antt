-- After some turns the answer is that for the numbers so far, each against the next.
use Rattle.std.proofs.Common.{◌-◌, length}
use Rattle.arrays.proofs.Gathered.{Gathered}
use Rattle.arrays.proofs.Ordered.{climbs}
use Rattle.arrays.proofs.rises.Given as goal

abbrev pub invariant-loop-k : goal.invariant-loop-k
invariant-loop-k l = Gathered (length l.list - 1) (climbs l.list) l.k l.good
