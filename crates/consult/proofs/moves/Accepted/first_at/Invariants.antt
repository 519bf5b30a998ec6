-- The arrows before `low` are of a lower rank, and those from `high` on are not.
use Rattle.std.proofs.Common.{◌-◌}
use Rattle.consult.proofs.Ascending.{Between}
use Rattle.consult.proofs.moves.Accepted.first_at.Given as goal

abbrev pub invariant-loop-low : goal.invariant-loop-low
invariant-loop-low l = Between l.self.plant.now l.rank l.low l.high

abbrev pub decreases-loop-low : goal.decreases-loop-low
decreases-loop-low l = l.high - l.low
