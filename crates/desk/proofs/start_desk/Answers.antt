-- Refused by consult, or the advice for the state and the goal held with it.
use Rattle.std.proofs.Common.{refl}
use Rattle.std.specs.Prelude.{Ok}
use Rattle.promises.proofs.Numbered.{number_ok, number_err}
use Rattle.desk.proofs.Answers.{start_none, start_shown}
use Rattle.desk.proofs.Sessions.{of_desk}
use Rattle.desk.proofs.start_desk.Goals as goal

pub returns-in-Err : goal.returns-in-Err
returns-in-Err c =
    let told = c.consult_plant-advice.ensures in
    let cited = of_desk (told.plant_arriving, (told.plant_steps, told.plant_determined)) in
    record {
      start_says = start_none told.consult_plant_says (number_err _ _ c.in-Err.is);
      start_answering = cited.0;
      start_following = cited.1;
    }

pub returns-in-Ok : goal.returns-in-Ok
returns-in-Ok c =
    let told = c.consult_plant-advice.ensures in
    let cited = of_desk (told.plant_arriving, (told.plant_steps, told.plant_determined)) in
    record {
      start_says =
          start_shown c.in-Ok.ensures.consult_plant_says _ (number_ok (Ok c.in-Ok.given) _ refl) c.held.ensures;
      start_answering = cited.0;
      start_following = cited.1;
    }
