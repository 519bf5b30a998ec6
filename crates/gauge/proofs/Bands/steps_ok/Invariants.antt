-- The bands passed are right.
use Rattle.std.proofs.Common.{true}
use Rattle.gauge.specs.Bands.{band_of, step_ok}
use Rattle.gauge.proofs.Loops.{Passed}
use Rattle.gauge.proofs.Bands.steps_ok.Given as goal

abbrev pub invariant-loop-i : goal.invariant-loop-i
invariant-loop-i l = Passed (step_ok (band_of l.self.kinds.now l.self.ends.now l.self.states.now) l.limit) true l.i
