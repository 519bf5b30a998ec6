use Rattle.std.proofs.Common.{refl, ◌∙◌, arith}
use Rattle.index.proofs.Passing.{number_low}
use Rattle.index.proofs.Gathering.{gather_not, gather_start, gather_turn, gather_fail, gather_end}
use Rattle.index.proofs.Taken.{gathered}
use Rattle.index.proofs.gather.Goals as goal

pub returns-then-not-opens-room : goal.returns-then-not-opens-room
returns-then-not-opens-room c =
    let a = c.args in
    let no = gather_not a.plant.now a.index.now a.by.now a.out.now c.from-count.result
    (c.from-count.ensures ∙ c.number.ensures) c.opens.result c.opens.ensures c.if-not-opens-room.true in
    record {
      fits = no.0;
      list = no.1;
      exact = gathered c.args.plant.now c.args.index.now c.args.by.now c.args.out.now (λ k. omega (arith, c.type_inv.index k)) no.0;
    }

pub loop-k-init : goal.loop-k-init
loop-k-init c =
    let a = c.args in
    rw c.from.ensures
    (gather_start a.plant.now a.index.now a.by.now a.out.now c.from-count.result
    (c.from-count.ensures ∙ c.number.ensures) c.opens.result c.opens.ensures c.if-not-opens-room.false
    c.number-2.result c.number-2.ensures)

pub least_next-requires : goal.least_next-requires
least_next-requires c =
    let i = c.loop-k.invariant.passed in
    record {
      place = i.place;
      long = i.plant_long;
    }

pub returns-in_default : goal.returns-in_default
returns-in_default c =
    let no = gather_fail c.loop-k.invariant c.loop-k-test.true c.pair-n.ensures c.in_default.ensures refl in
    record {
      fits = no.0;
      list = no.1;
      exact = gathered c.args.plant.now c.args.index.now c.args.by.now c.args.out.now (λ k. omega (arith, c.type_inv.index k)) no.0;
    }

pub bounds-by-from : goal.bounds-by-from
bounds-by-from c =
    let i = c.loop-k.invariant in
    omega (
      arith,
      i.by_room,
      number_low i.passed c.loop-k-test.true c.pair-n.ensures c.in-Some.ensures.1 (λ e. omega (arith, c.in-Some.ensures.0)),
    )

pub bounds-out-k : goal.bounds-out-k
bounds-out-k c = omega (arith, c.loop-k.invariant.room)

pub loop-k-preserved : goal.loop-k-preserved
loop-k-preserved c =
    rw c.from-in-loop-k.ensures
    (gather_turn c.loop-k.invariant c.loop-k-test.true c.pair-n.ensures c.in-Some.ensures.1
    (λ e. omega (arith, c.in-Some.ensures.0)))

pub returns : goal.returns
returns c =
    let yes = gather_end c.loop-k.invariant c.loop-k-test.false in
    record {
      fits = yes.0;
      list = yes.1;
      exact = gathered c.args.plant.now c.args.index.now c.args.by.now c.args.out.now (λ k. omega (arith, c.type_inv.index k)) yes.0;
    }
