-- The plant's index is written, or the call is refused and changes nothing.
use Rattle.std.proofs.Common.{◌∙◌}
use Rattle.books.proofs.Answered.{index_none, index_done}
use Rattle.books.proofs.index_plant.Goals as goal

pub returns-then-not-write-clause-index_says : goal.returns-then-not-write-clause-index_says
returns-then-not-write-clause-index_says c =
    index_none c.args.plant.now c.args.out.now c.write.ensures.fits c.write.ensures.bytes _ c.if-not-write.true
    c.refused.ensures c.indexing.ensures

pub returns-clause-index_says : goal.returns-clause-index_says
returns-clause-index_says c =
    index_done c.args.plant.now c.args.out.now c.write.ensures.fits c.write.ensures.bytes c.from.result
    c.if-not-write.false (c.from.ensures ∙ c.number.ensures)
