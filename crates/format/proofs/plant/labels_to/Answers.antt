use Rattle.std.proofs.Common.{◌+◌, ◌*◌, ◌≤◌, length, ◌∙◌, arith}
use borrow.Author.Tests.{ltb-false}
use Rattle.sets.proofs.Over.{over_none}
use Rattle.sets.proofs.Tests.{or_neither}
use Rattle.format.specs.Checks.{labels_fit}
use Rattle.format.proofs.Parts.{labels_put, labels_done}
use Rattle.format.proofs.plant.labels_to.Goals as goal

pub returns-then-plant-count : goal.returns-then-plant-count
unfolding labels_fit
returns-then-plant-count c = rw (← c.number.ensures, ← c.from-count.ensures, c.if-plant-count.true)

pub word_in-requires : goal.word_in-requires
word_in-requires c =
    let tests = or_neither _ _ c.if-plant-count.false in
    let there : 16 + 2 * c.from-count.result ≤ length c.args.plant.now = ltb-false _ _ tests.0 in
    omega arith

pub bounds-to-x : goal.bounds-to-x
bounds-to-x c =
    let tests = or_neither _ _ c.if-plant-count.false in
    let room : c.from-count.result ≤ length c.args.to.now = ltb-false _ _ tests.1 in
    omega arith

pub loop-x-init : goal.loop-x-init
loop-x-init c = over_none _

pub loop-x-preserved : goal.loop-x-preserved
loop-x-preserved c =
    let tests = or_neither _ _ c.if-plant-count.false in
    labels_put _ _ c.loop-x.to _ c.loop-x.x c.word_in.result c.loop-x-test.true (ltb-false _ _ tests.1)
    c.loop-x.invariant c.word_in.ensures

pub returns : goal.returns
unfolding labels_fit
returns c =
    rw (← c.number.ensures, ← c.from-count.ensures, c.if-plant-count.false)
    (labels_done _ _ c.loop-x.to {x = c.loop-x.x} (c.from-count.ensures ∙ c.number.ensures) (omega arith)
    c.loop-x.invariant)
