-- An accepted plant is good with no index, and with one that is its own.
use Rattle.std.proofs.Common.{[], is_some, sym, ◌∙◌}
use Rattle.refusal.proofs.Refused.{accepted, not_accepted}
use Rattle.graph.specs.Packed.{lent_bytes}
use Rattle.solve.proofs.Answers.{accepts_not, accepts_lent, accepts_plain}
use Rattle.solve.proofs.is_good.Goals as goal

pub returns-then-is_err : goal.returns-then-is_err
returns-then-is_err c =
    let a = c.args in
    sym
    (accepts_not (is_some a.index) (lent_bytes a.index) a.plant.now
    (not_accepted _ c.check_plant.ensures c.is_err.ensures.value c.if-is_err.true))

pub returns-in-Some : goal.returns-in-Some
returns-in-Some c =
    let fine = accepted _ c.check_plant.ensures c.is_err.ensures.value c.if-is_err.false in
    rw c.in-Some.is (c.is_index.ensures.exact fine ∙ sym (accepts_lent c.in-Some.index.now c.args.plant.now fine))

pub returns : goal.returns
returns c =
    let fine = accepted _ c.check_plant.ensures c.is_err.ensures.value c.if-is_err.false in
    rw c.in_default.is (sym (accepts_plain [] c.args.plant.now fine))
