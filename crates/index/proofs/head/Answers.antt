use Rattle.std.proofs.Common.{◌+◌, ◌*◌}
use Rattle.statements.specs.Index.{index_long}
use Rattle.index.proofs.Filling.{four}
use Rattle.index.proofs.head.Goals as goal

pub returns : goal.returns
unfolding index_long
returns c =
    let a = c.args in four a.numbers.now a.states a.count 8 (8 + 2 * a.count) c.requires.0
