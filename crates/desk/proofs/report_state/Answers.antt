-- Refused by the step, refused with 13, or the advice for the state reported. What it cites comes from the call's own
-- clauses.
use Rattle.std.proofs.Common.{refl}
use Rattle.std.specs.Prelude.{Ok}
use Rattle.promises.proofs.Numbered.{number_ok, number_err}
use Rattle.desk.proofs.Answers.{report_none, report_strays, report_shown}
use Rattle.desk.proofs.Sessions.{of_desk}
use Rattle.desk.proofs.report_state.Goals as goal

pub returns-in-Err : goal.returns-in-Err
returns-in-Err c =
    let told = c.consult_step-step.ensures in
    let cited = of_desk (told.step_arriving, (told.step_steps, told.step_determined)) in
    record {
      report_says = report_none told.step_says (number_err _ _ c.in-Err.is);
      report_answering = cited.0;
      report_following = cited.1;
    }

pub returns-then-not-leads : goal.returns-then-not-leads
returns-then-not-leads c =
    let told = c.consult_step-step.ensures in
    let cited = of_desk (told.step_arriving, (told.step_steps, told.step_determined)) in
    record {
      report_says =
          report_strays told.step_says (number_ok _ _ c.in-Ok.is) c.if-not-leads.true (refl, refl, refl, refl, refl);
      report_answering = cited.0;
      report_following = cited.1;
    }

pub returns : goal.returns
returns c =
    let told = c.consult_step-step.ensures in
    let cited = of_desk (told.step_arriving, (told.step_steps, told.step_determined)) in
    record {
      report_says =
          report_shown (rw c.in-Ok.is at told.step_says) (number_ok (Ok c.in-Ok.given) _ refl) told.step_steps
          c.if-not-leads.false _ (rw c.sought.ensures at c.held.ensures);
      report_answering = cited.0;
      report_following = cited.1;
    }
