-- The six bytes of the arrow's three numbers are read.
use Rattle.layout.proofs.Passed.{arrow_bytes}
use Rattle.layout.proofs.pass.arrow_from.Goals as goal

pub returns : goal.returns
returns c =
    arrow_bytes _ _ _ c.requires.place (rw c.from.ensures at c.pair-from.ensures)
    (rw c.from.ensures at c.pair-action.ensures) (rw c.from.ensures at c.pair-to.ensures)
