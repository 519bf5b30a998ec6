-- It is at the goal as many places on as were passed, and what is left to search says how many are passed in all.
use Rattle.consult.proofs.Arriving.{Passing}
use Rattle.consult.proofs.goals.arrive.Given as goal

abbrev pub invariant-loop-passed : goal.invariant-loop-passed
invariant-loop-passed l = Passing l.book l.state l.goal l.goals l.at l._passed
