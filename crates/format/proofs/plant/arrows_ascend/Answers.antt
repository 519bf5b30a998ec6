-- Each turn takes the next arrow off the front: it passes with its rank, or fails, and then so do all of them.
use Rattle.std.proofs.Common.{◌≡◌, sym, ap, ◌∙◌}
use Rattle.statements.specs.Plants.{arrows_ok}
use Rattle.format.specs.Checks.{least_after}
use Rattle.format.proofs.Parts.{ascend_end, ascend_pass, ascend_fail}
use Rattle.format.proofs.plant.arrows_ascend.Goals as goal

pub loop-arrow-init : goal.loop-arrow-init
loop-arrow-init c =
    rw c.into_iter-arrow-iterator.ensures.into_iter_gives
    (sym (ap (arrows_ok c.args.states c.args.moves 0) c.new-arrow-items.ensures))

pub returns-then-least-eq0 : goal.returns-then-least-eq0
returns-then-least-eq0 c =
    let a = c.args in
    let told : least_after a.states a.moves c.loop-arrow.least c.in-Some.arrow ≡ 0 =
    rw (← c.least_after-least.ensures) c.if-least-eq0.true in
    sym (c.loop-arrow.invariant ∙ ap (arrows_ok a.states a.moves c.loop-arrow.least) c.in-Some.ensures.steps
    ∙ ascend_fail a.states a.moves c.loop-arrow.least c.in-Some.arrow _ told)

pub loop-arrow-preserved : goal.loop-arrow-preserved
loop-arrow-preserved c =
    let a = c.args in
    rw c.least_after-least.ensures
    (c.loop-arrow.invariant ∙ ap (arrows_ok a.states a.moves c.loop-arrow.least) c.in-Some.ensures.steps
    ∙ ascend_pass a.states a.moves c.loop-arrow.least c.in-Some.arrow _
    (λ e. c.if-least-eq0.false (c.least_after-least.ensures ∙ e)))

pub returns : goal.returns
returns c =
    let a = c.args in
    sym (c.loop-arrow.invariant ∙ ascend_end a.states a.moves c.loop-arrow.least _ c.in-None.ensures.steps.0)
