use Rattle.std.proofs.Common.{sym, ◌∙◌}
use Rattle.index.proofs.Passing.{no_head, past_head}
use Rattle.index.proofs.opens.Goals as goal

pub returns-then-not-head_ok : goal.returns-then-not-head_ok
returns-then-not-head_ok c =
    no_head c.args.plant.now c.args.index.now (sym c.head_ok.ensures ∙ c.if-not-head_ok.true)

pub returns : goal.returns
returns c =
    c.opens_well.ensures
    ∙ past_head c.args.plant.now c.args.index.now (sym c.head_ok.ensures ∙ c.if-not-head_ok.false) c.number.result
    c.number-2.result c.number.ensures c.number-2.ensures
