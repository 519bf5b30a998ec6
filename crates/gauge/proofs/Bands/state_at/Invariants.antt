-- No band passed holds the deviation.
use Rattle.std.proofs.Common.{false}
use Rattle.gauge.specs.Bands.{band_of, holds}
use Rattle.gauge.proofs.Loops.{Passed}
use Rattle.gauge.proofs.Bands.state_at.Given as goal

abbrev pub invariant-loop-i : goal.invariant-loop-i
invariant-loop-i l = Passed (λ k. holds l.d (band_of l.self.kinds.now l.self.ends.now l.self.states.now k)) false l.i
