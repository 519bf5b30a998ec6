-- A copy of a number's two bytes is two stores, one after the other.
use Rattle.std.proofs.Common.{◌∙◌, arith}
use Rattle.format.proofs.Stores.{copied}
use Rattle.solve.proofs.rows.put.Goals as goal

pub returns : goal.returns
returns c =
    copied c.args.out.now c.args.at c.args.v (omega arith) c.requires
    (c.copy_from_slice.ensures.after ∙ c.to_le_bytes.ensures)
