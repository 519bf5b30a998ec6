-- The first answer, or where there is none the second.
use Rattle.std.proofs.Common.{rules}
use Rattle.statements.specs.Calls.{moves_fault}
use Rattle.refusals.proofs.Refusals.{first_err, first_ok}
use Rattle.refusals.proofs.moves.Goals as goal

pub returns-in_err-lent : goal.returns-in_err-lent
unfolding moves_fault
returns-in_err-lent c = search (rules, first_err, c.in_err-lent.ensures)

pub returns : goal.returns
unfolding moves_fault
returns c = first_ok _ c.in_ok-lent.ensures c.asked.ensures
