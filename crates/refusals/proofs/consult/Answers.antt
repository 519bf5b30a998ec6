-- The first answer, or where there is none the second.
use Rattle.std.proofs.Common.{rules}
use Rattle.statements.specs.Calls.{consult_fault}
use Rattle.refusals.proofs.Refusals.{first_err, first_ok}
use Rattle.refusals.proofs.consult.Goals as goal

pub returns-in_err-check_book : goal.returns-in_err-check_book
unfolding consult_fault
returns-in_err-check_book c = search (rules, first_err, c.in_err-check_book.ensures)

pub returns : goal.returns
unfolding consult_fault
returns c = first_ok _ c.in_ok-check_book.ensures c.asked.ensures
