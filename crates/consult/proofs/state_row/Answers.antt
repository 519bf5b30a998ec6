-- An accepted state's row stands within the book.
use Rattle.std.proofs.Common.{◌≡◌, refl, sym, ap, ◌∙◌, arith, List, ℕ, length}
use lib.Dec.{eqb}
use Rattle.refusal.proofs.Refused.{accepted, not_accepted}
use Rattle.promises.proofs.Rows.{no_row, no_start, empty_row, start_given, row_fits, full_row}
use Rattle.promises.proofs.Demands.{of_row}
use Rattle.statements.specs.Calls.{consult_fault}
use Rattle.consult.proofs.Consulted.{row_is}
use Rattle.consult.proofs.state_row.Goals as goal

pub returns-then-is_err : goal.returns-then-is_err
returns-then-is_err c =
    let a = c.args in
    let refused : consult_fault a.book.now a.state 0 ≡ 0 → ⊥ =
    not_accepted _ c.consult.ensures c.is_err.ensures.value c.if-is_err.true
    in
    record {
      row_says =
          record {
            bytes = sym (no_row a.book.now a.state refused);
            block = refl;
            place = omega (arith, no_start a.book.now a.state refused);
            empty = sym (empty_row a.book.now a.state refused);
          };
      row_reads = of_row.0;
      row_determined = of_row.1;
    }

pub overflow_add-end : goal.overflow_add-end
overflow_add-end c =
    omega (arith, row_fits c.args.book.now c.args.state (accepted _ c.consult.ensures c.is_err.ensures.value c.if-is_err.false))

pub slice_bounds-result-end-2 : goal.slice_bounds-result-end-2
slice_bounds-result-end-2 c =
    omega (arith, row_fits c.args.book.now c.args.state (accepted _ c.consult.ensures c.is_err.ensures.value c.if-is_err.false))

pub returns : goal.returns
returns c =
    let a = c.args in
    let given : consult_fault a.book.now a.state 0 ≡ 0 = accepted _ c.consult.ensures c.is_err.ensures.value c.if-is_err.false in
    let part = row_is a.book.now a.state _ _ given c.row_place-start.ensures (omega arith) in
    record {
      row_says =
          record {
            bytes = part;
            block = refl;
            place = omega (arith, start_given a.book.now a.state given);
            empty = ap (λ (l : List ℕ). eqb (length l) 0) part ∙ full_row a.book.now a.state given;
          };
      row_reads = of_row.0;
      row_determined = of_row.1;
    }
