-- Refused, or the advice of an accepted call, which consult accepts too.
use Rattle.std.proofs.Common.{rules, sym}
use Rattle.promises.proofs.Steps.{alone}
use Rattle.promises.proofs.Demands.{of_step}
use Rattle.consult.proofs.Consulted.{advises_fine, refused_advice}
use Rattle.consult.proofs.consult_plant.Goals as goal

pub returns-in_err-moves : goal.returns-in_err-moves
returns-in_err-moves c =
    record {
      consult_plant_says = refused_advice _ _ (search rules) c.in_err-moves.ensures;
      plant_arriving = of_step.0;
      plant_steps = of_step.1.0;
      plant_determined = of_step.1.1;
    }

pub answer-requires : goal.answer-requires
answer-requires c = alone c.args.plant.now c.args.book.now c.args.state c.args.goal (sym c.in_ok-moves.ensures)

pub returns : goal.returns
returns c =
    let a = c.args in
    let fine = sym c.in_ok-moves.ensures in
    record {
      consult_plant_says = advises_fine fine (alone a.plant.now a.book.now a.state a.goal fine) c.answer.ensures;
      plant_arriving = of_step.0;
      plant_steps = of_step.1.0;
      plant_determined = of_step.1.1;
    }
