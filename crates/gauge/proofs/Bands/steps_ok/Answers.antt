-- A band that is not right ends the search.
use Rattle.std.proofs.Common.{sym, ◌∙◌}
use Rattle.gauge.proofs.Loops.{every_fails}
use Rattle.gauge.proofs.Bands.steps_ok.Goals as goal

pub returns-then-not-step_ok : goal.returns-then-not-step_ok
returns-then-not-step_ok c =
    sym (every_fails _ c.loop-i.i _ c.loop-i-test.true (sym c.step_ok.ensures ∙ c.if-not-step_ok.true))
