-- Whether each kind passed is 0 or 1.
use Rattle.std.proofs.Common.{◌≡◌, leb, get_or}
use Rattle.statements.specs.Sets.{every}
use Rattle.gauge.proofs.Bands.kinds_ok.Given as goal

abbrev pub invariant-loop-kind : goal.invariant-loop-kind
invariant-loop-kind l = l.ok ≡ every l.kind-index 0 (λ k. leb (get_or l.self.kinds.now k 0) 1)
