-- A state is read, written to its place, and counted off if it is struck out.
use Rattle.std.proofs.Common.{sym, ap, ◌∙◌, arith}
use Rattle.statements.specs.Sets.{bit}
use Rattle.books.proofs.Struck.{strike_start, strike_yes, strike_no, strike_end}
use Rattle.books.proofs.start.strike_out.Goals as goal
use Rattle.books.proofs.start.strike_out.Goals.{then-not-stays, else-not-stays}

pub loop-k-init : goal.loop-k-init
loop-k-init c = strike_start _ _ _ c.requires

pub loop-k-preserved : goal.loop-k-preserved
loop-k-preserved c =
    let inv = c.loop-k.invariant in
    let may = c.bit_at-stays.ensures ∙ ap (bit 0) (c.from.ensures ∙ c.label_of.ensures) in
    elim c.if-not-stays.branch [
      | then-not-stays w ↦ rw w.kept-is (strike_no inv (omega arith) (sym may ∙ w.if-not-stays.true))
      | else-not-stays w ↦ rw w.kept-is (strike_yes inv (omega arith) (sym may ∙ w.if-not-stays.false))
    ]

pub returns : goal.returns
returns c =
    let end = strike_end c.loop-k.invariant (omega (arith, c.loop-k.invariant.within)) in
    record { number = end.0; still = end.1 }
