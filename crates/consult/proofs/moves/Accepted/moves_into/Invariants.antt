-- The arrows before arrow k are tried, and those from there up to the last are the state's.
use Rattle.statements.specs.Books.{book_mask}
use Rattle.consult.specs.Checks.{leads_in}
use Rattle.consult.proofs.Turns.{Turn}
use Rattle.consult.proofs.moves.Accepted.moves_into.Given as goal

abbrev pub invariant-loop-k : goal.invariant-loop-k
invariant-loop-k l =
    Turn l.self.plant.now (book_mask l.fn.book) l.fn.state (leads_in l.fn.book l.fn.early l.fn.state l.fn.goal)
    l.last l.k l.seen l.bad
