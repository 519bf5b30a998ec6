-- Marks stand from the header to the end of the rows.
use Rattle.std.proofs.Common.{arith}
use Rattle.statements.specs.Plants.{plant_of}
use Rattle.solve.proofs.RowMarks.{blank_all}
use Rattle.solve.proofs.rows.blank.Goals as goal

pub returns : goal.returns
returns c mask kept =
    blank_all (plant_of c.args.plant.now) mask kept c.args.out.now c.args.count c.requires.count (omega (arith, c.requires.count, c.requires.room))
    (c.fill.ensures.after (λ y e. cc))
