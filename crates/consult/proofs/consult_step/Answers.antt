-- Refused for what is held or for the state that followed, or the advice for that one after a lost state or a kept one.
use Rattle.std.proofs.Common.{◌≡◌, ℕ, ◌<◌, refl, sym, ap, ◌∙◌, arith}
use Rattle.std.specs.Prelude.{Option, Some, None, Ok}
use Rattle.refusal.specs.declared.Refusal.TheVariants.{Number}
use Rattle.promises.specs.declared.NextMove.{NextMove}
use Rattle.statements.specs.Books.{book_states}
use Rattle.promises.proofs.Numbered.{number_ok, number_err}
use Rattle.consult.proofs.Consulted.{silent, silent_err}
use Rattle.consult.proofs.Stepping.{step_refused, step_past, step_lost, step_kept, next_fine, step_given}
use Rattle.consult.proofs.consult_step.Goals as goal

pub returns-in-Err-clause-step_says : goal.returns-in-Err-clause-step_says
returns-in-Err-clause-step_says c =
    let a = c.args in
    step_refused a.plant.now a.book.now a.state a.goal a.end c.consult_plant-here.ensures.consult_plant_says
    (number_err _ _ c.in-Err.is) (silent_err _ _ c.in-Err.is)

pub returns-then-from-end-clause-step_says : goal.returns-then-from-end-clause-step_says
unfolding book_states
returns-then-from-end-clause-step_says c =
    let a = c.args in
    step_past a.plant.now a.book.now a.state a.goal a.end c.in-Ok.ensures.consult_plant_says
    (number_ok (Ok c.in-Ok.advised) _ refl) (omega (arith, c.number.ensures, c.from.ensures, c.if-from-end.true)) (silent Number)

pub answer-requires : goal.answer-requires
unfolding book_states
answer-requires c =
    let a = c.args in
    let e = c.in-Ok.is ∙ ap (λ (o : Option NextMove). Ok o) c.in-None.is in
    next_fine a.plant.now a.book.now a.state a.goal a.end (rw e at c.consult_plant-here.ensures.consult_plant_says) refl
    (omega (arith, c.number.ensures, c.from.ensures, c.if-from-end.false))

pub returns-in-None-clause-step_says : goal.returns-in-None-clause-step_says
unfolding book_states
returns-in-None-clause-step_says c =
    let a = c.args in
    let e = c.in-Ok.is ∙ ap (λ (o : Option NextMove). Ok o) c.in-None.is in
    rw c.in-None.is
    (step_lost a.plant.now a.book.now a.state a.goal a.end (rw e at c.consult_plant-here.ensures.consult_plant_says) refl
    (omega (arith, c.number.ensures, c.from.ensures, c.if-from-end.false)) c.answer.ensures refl)

pub leads-requires-clause-fine : goal.leads-requires-clause-fine
unfolding book_states
leads-requires-clause-fine c =
    let a = c.args in
    let e = c.in-Ok.is ∙ ap (λ (o : Option NextMove). Ok o) c.in-Some.is in
    (step_given a.plant.now a.book.now a.state a.goal a.end (rw e at c.consult_plant-here.ensures.consult_plant_says) refl
    (omega (arith, c.number.ensures, c.from.ensures, c.if-from-end.false))).0

pub leads-requires-clause-from_low : goal.leads-requires-clause-from_low
unfolding book_states
leads-requires-clause-from_low c =
    let a = c.args in
    let e = c.in-Ok.is ∙ ap (λ (o : Option NextMove). Ok o) c.in-Some.is in
    (step_given a.plant.now a.book.now a.state a.goal a.end (rw e at c.consult_plant-here.ensures.consult_plant_says) refl
    (omega (arith, c.number.ensures, c.from.ensures, c.if-from-end.false))).1.0

pub leads-requires-clause-end_low : goal.leads-requires-clause-end_low
unfolding book_states
leads-requires-clause-end_low c =
    let a = c.args in
    let e = c.in-Ok.is ∙ ap (λ (o : Option NextMove). Ok o) c.in-Some.is in
    (step_given a.plant.now a.book.now a.state a.goal a.end (rw e at c.consult_plant-here.ensures.consult_plant_says) refl
    (omega (arith, c.number.ensures, c.from.ensures, c.if-from-end.false))).1.1

pub answer-requires-in-Some : goal.answer-requires-in-Some
unfolding book_states
answer-requires-in-Some c =
    let a = c.args in
    let e = c.in-Ok.is ∙ ap (λ (o : Option NextMove). Ok o) c.in-Some.is in
    rw c.from-in-Some.ensures
    (next_fine a.plant.now a.book.now a.state a.goal a.end (rw e at c.consult_plant-here.ensures.consult_plant_says) refl
    (omega (arith, c.number.ensures, c.from.ensures, c.if-from-end.false)))

pub returns-in-Some-clause-step_says : goal.returns-in-Some-clause-step_says
unfolding book_states
returns-in-Some-clause-step_says c =
    let a = c.args in
    let e = c.in-Ok.is ∙ ap (λ (o : Option NextMove). Ok o) c.in-Some.is in
    rw c.in-Some.is
    (step_kept a.plant.now a.book.now a.state a.goal a.end (rw e at c.consult_plant-here.ensures.consult_plant_says) refl
    (omega (arith, c.number.ensures, c.from.ensures, c.if-from-end.false))
    (rw c.from-in-Some.ensures at c.answer-in-Some.ensures) refl c.leads.ensures)
