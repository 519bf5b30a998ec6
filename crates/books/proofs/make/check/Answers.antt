-- By the index where one is lent, and otherwise the plain checks.
use Rattle.books.proofs.make.check.Goals as goal

pub returns-in-Some : goal.returns-in-Some
returns-in-Some c = rw c.in-Some.is c.make_by.ensures

pub returns : goal.returns
returns c = rw c.in_default.is c.make.ensures
