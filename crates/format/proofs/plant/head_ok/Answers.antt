use mathlib.Core.Bool.{and_assoc}
use borrow.Author.Tests.{le-leb, lt-leb}
use Rattle.statements.specs.Plants.{head_ok}
use Rattle.format.proofs.plant.head_ok.Goals as goal

pub returns-then-plant-lt16 : goal.returns-then-plant-lt16
unfolding head_ok
returns-then-plant-lt16 c = simp (lt-leb 16 _ c.if-plant-lt16.true)

pub returns : goal.returns
unfolding head_ok
returns c =
    simp (
      le-leb 16 _ c.if-plant-lt16.false,
      and_assoc,
      c.from-s.ensures,
      c.from-e.ensures,
      c.from-arrows.ensures,
      c.from-total.ensures,
      c.number.ensures,
      c.number-u.ensures,
      c.number-n.ensures,
      c.number-2.ensures,
      c.number-labels.ensures,
      c.number-3.ensures,
      c.number-4.ensures,
      c.number-last.ensures,
    )
