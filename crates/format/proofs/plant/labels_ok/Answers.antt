use Rattle.std.proofs.Common.{◌∙◌}
use Rattle.statements.specs.Plants.{plant_of}
use Rattle.format.proofs.plant.labels_ok.Goals as goal

pub returns : goal.returns
unfolding plant_of
returns c =
    c.labels_within.ensures
    ∙ simp (c.from.ensures, c.number.ensures, c.from-2.ensures, c.number-2.ensures, c.settles.ensures)
