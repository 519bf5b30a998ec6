-- The arrows of a state begin with its lowest rank.
use Rattle.consult.proofs.Ascending.{begins}
use Rattle.consult.proofs.moves.Accepted.first_from.Goals as goal

pub returns : goal.returns
returns c = begins c.args.state c.args.self.now.fine (rw c.from.ensures at c.first_at.ensures)
