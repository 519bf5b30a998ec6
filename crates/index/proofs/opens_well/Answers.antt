use mathlib.Core.Bool.{and_assoc}
use Rattle.statements.specs.Index.{index_long}
use Rattle.index.specs.Checked.{opens_well}
use Rattle.index.proofs.opens_well.Goals as goal

pub returns : goal.returns
unfolding opens_well index_long
returns c =
    simp (
      and_assoc,
      c.from.ensures,
      c.from-fourth.ensures,
      c.number-first.ensures,
      c.number-second.ensures,
      c.number-third.ensures,
      c.number.ensures,
    )
