use Rattle.format.specs.Arrows.{arrow_from}
use Rattle.format.proofs.arrows.arrow_in.Goals as goal

pub returns : goal.returns
unfolding arrow_from
returns c = rw (c.word_in-from.ensures, c.word_in-action.ensures, c.word_in-to.ensures)
