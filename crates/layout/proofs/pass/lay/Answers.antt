-- Each turn lays out the next arrow, if that is accepted.
use Rattle.std.proofs.Common.{sym, arith}
use Rattle.layout.proofs.Passed.{pass_refused, pass_move, pass_fine, pass_end}
use Rattle.format.proofs.Header.{plant_head}
use Rattle.layout.proofs.Storing.{start_in, room_same, taken_of, small_in, count_in, again_in}
use Rattle.layout.proofs.pass.lay.Goals as goal

pub loop-k-init : goal.loop-k-init
loop-k-init c =
    record {
      room = c.requires.room;
      passed = start_in _ _ _ _ _ (plant_head _ c.requires.head) c.requires.clear;
    }

pub arrow_from-arrow-requires-clause-long : goal.arrow_from-arrow-requires-clause-long
arrow_from-arrow-requires-clause-long c =
    let head = plant_head _ c.requires.head in
    omega arith

pub returns-then-next-eq0-clause-fits : goal.returns-then-next-eq0-clause-fits
returns-then-next-eq0-clause-fits c =
    let r = taken_of c.requires.head c.number-limit.ensures c.number-actions.ensures c.number-k-end.ensures
    c.loop-k-test.true c.arrow_from-arrow.ensures c.least_after-next.ensures in
    sym (pass_refused c.loop-k.invariant.passed r c.if-next-eq0.true)

pub serves-on-requires : goal.serves-on-requires
serves-on-requires c =
    let r = taken_of c.requires.head c.number-limit.ensures c.number-actions.ensures c.number-k-end.ensures
    c.loop-k-test.true c.arrow_from-arrow.ensures c.least_after-next.ensures in
    pass_move c.loop-k.invariant.passed r c.if-next-eq0.false

pub add-requires : goal.add-requires
add-requires c =
    let l = c.loop-k.invariant in
    let r = taken_of c.requires.head c.number-limit.ensures c.number-actions.ensures c.number-k-end.ensures
    c.loop-k-test.true c.arrow_from-arrow.ensures c.least_after-next.ensures in
    let few = count_in l.room l.passed r c.if-next-eq0.false c.serves-on.ensures c.opens-new.ensures in
    record { room = omega arith; small = few.1 }

pub overflow_sub-groups : goal.overflow_sub-groups
overflow_sub-groups c =
    let l = c.loop-k.invariant in
    let r = taken_of c.requires.head c.number-limit.ensures c.number-actions.ensures c.number-k-end.ensures
    c.loop-k-test.true c.arrow_from-arrow.ensures c.least_after-next.ensures in
    (small_in l.room l.passed r c.if-next-eq0.false c.serves-on.ensures c.opens-new.ensures).2

pub loop-k-preserved : goal.loop-k-preserved
loop-k-preserved c =
    let l = c.loop-k.invariant in
    let r = taken_of c.requires.head c.number-limit.ensures c.number-actions.ensures c.number-k-end.ensures
    c.loop-k-test.true c.arrow_from-arrow.ensures c.least_after-next.ensures in
    record {
      room = room_same l.room (omega arith) (omega arith);
      passed =
          again_in l.room l.passed r c.if-next-eq0.false c.serves-on.ensures c.opens-new.ensures c.add.ensures
          c.open.ensures.states c.open.ensures.table c.append.ensures;
    }

pub returns-clause-fits : goal.returns-clause-fits
returns-clause-fits c = sym (pass_fine c.loop-k.invariant.passed (omega arith))

pub returns-clause-laid : goal.returns-clause-laid
returns-clause-laid c = pass_end c.loop-k.invariant.passed (omega arith)
