use Rattle.std.proofs.Common.{◌+◌, Bool, sym, ap, ◌∙◌}
use Rattle.statements.specs.Sets.{pick}
use Rattle.format.proofs.Parts.{least_is}
use Rattle.format.proofs.plant.least_after.Goals as goal

pub returns-then-arrow-states : goal.returns-then-arrow-states
returns-then-arrow-states c =
    let a = c.args in
    sym (least_is a.states a.moves a.least a.arrow c.rank_of-rank.ensures
    ∙ ap (λ (b : Bool). pick b (c.rank_of-rank.result + 1) 0) c.if-arrow-states.true)

pub returns : goal.returns
returns c =
    let a = c.args in
    sym (least_is a.states a.moves a.least a.arrow c.rank_of-rank.ensures
    ∙ ap (λ (b : Bool). pick b (c.rank_of-rank.result + 1) 0) c.if-arrow-states.false)
