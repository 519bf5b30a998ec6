use Rattle.std.proofs.Common.{true, false, refl, sym, ◌∙◌, arith}
use Rattle.index.proofs.Exact.{index_exactly}
use Rattle.index.proofs.Passing.{no_opening, checked, pass_start, pass_next, pass_fail, pass_end}
use Rattle.index.proofs.is_index.Goals as goal

pub returns-then-not-opens : goal.returns-then-not-opens
returns-then-not-opens c =
    let no = no_opening _ _ (sym c.opens.ensures ∙ c.if-not-opens.true) in
    record {
      value = no;
      exact = λ fine. no ∙ index_exactly c.args.plant.now fine c.args.index.now (λ k. omega (arith, c.type_inv.index k));
    }

pub loop-k-init : goal.loop-k-init
loop-k-init c =
    rw (c.from-count.ensures, c.from.ensures)
    (pass_start _ _ c.number.result c.number-2.result c.number.ensures c.number-2.ensures
    (sym c.opens.ensures ∙ c.if-not-opens.false))

pub least_next-requires : goal.least_next-requires
least_next-requires c =
    record {
      place = c.loop-k.invariant.place;
      long = c.loop-k.invariant.plant_long;
    }

pub returns-in_default : goal.returns-in_default
returns-in_default c =
    let i = c.loop-k.invariant in
    let no = checked _ _ i.opened false (pass_fail i c.loop-k-test.true c.pair-n.ensures c.in_default.ensures refl) in
    record {
      value = no;
      exact = λ fine. no ∙ index_exactly c.args.plant.now fine c.args.index.now (λ k. omega (arith, c.type_inv.index k));
    }

pub loop-k-preserved : goal.loop-k-preserved
loop-k-preserved c =
    pass_next c.loop-k.invariant c.loop-k-test.true c.pair-n.ensures c.in-Some.ensures.1 (λ e. omega (arith, c.in-Some.ensures.0))

pub returns : goal.returns
returns c =
    let i = c.loop-k.invariant in
    let yes = checked _ _ i.opened true (pass_end i c.loop-k-test.false) in
    record {
      value = yes;
      exact = λ fine. yes ∙ index_exactly c.args.plant.now fine c.args.index.now (λ k. omega (arith, c.type_inv.index k));
    }
