use Rattle.std.proofs.Common.{ltb, ap₂, ◌∙◌, arith}
use Rattle.format.proofs.Words.{power_next}
use Rattle.format.proofs.Parts.{labels_start, labels_next, labels_end}
use Rattle.format.proofs.plant.labels_within.Goals as goal

pub loop-k-init : goal.loop-k-init
loop-k-init c = labels_start c.args.free c.args.goals c.args.plant.now c.args.count

pub loop-k-preserved : goal.loop-k-preserved
loop-k-preserved c =
    let a = c.args in
    labels_next a.free a.goals a.plant.now a.count c.loop-k.k c.loop-k.all _ c.loop-k-test.true c.word_in-all.ensures
    c.loop-k.invariant

pub returns : goal.returns
returns c =
    let a = c.args in
    ap₂ ltb (c.from.ensures ∙ c.checked.ensures) (power_next a.goals (omega arith))
    ∙ labels_end a.free a.goals a.plant.now a.count c.loop-k.k c.loop-k.all c.loop-k-test.false c.loop-k.invariant
