use Rattle.std.proofs.Common.{◌∙◌, arith}
use Rattle.index.proofs.Passing.{least_passed, end_bytes}
use Rattle.index.proofs.least_next.Goals as goal

pub returns : goal.returns
returns c =
    let a = c.args in (
      omega arith,
      least_passed a.plant.now a.count a.least a.n c.pair.result
          (c.pair.ensures ∙ end_bytes a.plant.now a.n a.ends c.requires.place) (omega arith) (omega arith),
    )
