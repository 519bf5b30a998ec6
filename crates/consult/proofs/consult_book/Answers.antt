-- Refused, or the advice of an accepted call.
use Rattle.std.proofs.Common.{rules}
use Rattle.promises.proofs.Demands.{of_consult}
use Rattle.consult.proofs.Consulted.{advises_consult, refused_advice}
use Rattle.consult.proofs.consult_book.Goals as goal

pub returns-in_err-consult : goal.returns-in_err-consult
returns-in_err-consult c =
    record {
      consult_says = advises_consult (refused_advice _ _ (search rules) c.in_err-consult.ensures);
      consult_arriving = of_consult.0;
      consult_walks = of_consult.1.0;
      consult_determined = of_consult.1.1;
    }

pub returns : goal.returns
returns c =
    record {
      consult_says = c.answer.ensures;
      consult_arriving = of_consult.0;
      consult_walks = of_consult.1.0;
      consult_determined = of_consult.1.1;
    }
