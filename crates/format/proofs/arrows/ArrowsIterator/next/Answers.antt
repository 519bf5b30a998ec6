use Rattle.std.proofs.Common.{arith}
use Rattle.format.proofs.Parts.{none_left, arrow_taken}
use Rattle.format.proofs.arrows.ArrowsIterator.next.Goals as goal

pub returns-then-self-eq0-clause-steps : goal.returns-then-self-eq0-clause-steps
returns-then-self-eq0-clause-steps c =
    let r = c.args.self.now in
    let none = none_left r.left _ (omega arith) in
    (none, none)

pub returns-clause-steps : goal.returns-clause-steps
returns-clause-steps c =
    let r = c.args.self.now in
    rw c.arrow_in-arrow.ensures (arrow_taken r.plant.now r.at r.left (omega arith))
