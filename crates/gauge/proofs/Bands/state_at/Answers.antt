-- The band that holds the deviation is the first that does.
use Rattle.std.proofs.Common.{sym, ap, ◌∙◌, length, get_or, arith}
use Rattle.gauge.specs.Bands.{holds, band_at}
use Rattle.gauge.proofs.Loops.{first_found}
use Rattle.gauge.proofs.Bands.state_at.Goals as goal

pub returns-then-holds : goal.returns-then-holds
unfolding band_at
returns-then-holds c =
    let l = c.loop-i in
    let here =
    first_found _ l.i (length c.args.self.now.states.now) l.invariant c.loop-i-test.true
    (ap (holds _) (sym c.band.ensures) ∙ sym c.holds.ensures ∙ c.if-holds.true) in
    (omega (arith, here, c.loop-i-test.true), ap (λ j. get_or c.args.self.now.states.now j 0) here)
