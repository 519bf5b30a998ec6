-- Where a state's row stands in a book: nowhere when refused, otherwise at its place, as many bytes as the row handed
-- back. Assumes nothing.
use mathlib.Core.Path.{◌≡◌, sym, ◌∙◌, ap}
use mathlib.Core.Bool.{not}
use mathlib.Core.List.{List}
use Prim.Native.Nat.{ℕ, ◌+◌, ◌-◌, ◌<◌}
use native.Mathlib.Omega.{arith}
use lib.Dec.{eqb}
use lib.ListN.{length}
use borrow.Author.Tests.{eq-eqb, ne_eqb, eqb-true, eqb-false, not-true, not-false}
use Rattle.statements.specs.Books.{staged, row_place, row_long}
use Rattle.statements.specs.Calls.{consult_fault, row_part}
use Rattle.promises.specs.Says.{accepted}
use Rattle.decoding.proofs.Sizes.{long_most}
use Rattle.decoding.proofs.Asked.{fine}
use Rattle.promises.proofs.Rows.{no_row, no_start, start_given, length_row, row_fits}
use Rattle.consult.proofs.Consulted.{row_is}
use Rattle.planbook_c.specs.Flat.{PartSays}

-- a row that is handed back tells by its length whether the call is accepted
module _ (b : List ℕ) (x : ℕ) (row : List ℕ) (told : eqb (length row) 0 ≡ not (accepted b x 0)) where
  -- empty: refused
  pub row_none : length row ≡ 0 → (consult_fault b x 0 ≡ 0 → ⊥)
  unfolding accepted
  row_none e = eqb-false _ _ (not-true _ (sym told ∙ eq-eqb _ _ e))

  -- not empty: accepted
  pub row_some : (length row ≡ 0 → ⊥) → consult_fault b x 0 ≡ 0
  unfolding accepted
  row_some h = eqb-true _ _ (not-false _ (sym told ∙ ne_eqb _ _ h))

-- refused: the number, and 0 in the other fields
pub part_refused : (b : List ℕ) (x n : ℕ) → n ≡ consult_fault b x 0 → (consult_fault b x 0 ≡ 0 → ⊥) →
    PartSays b x (record { number = n; start = 0; length = 0 })
part_refused b x n e refused =
    let none = no_row b x refused in
    record { number = e; start = sym (no_start b x refused); long = sym (ap length none); bytes = sym none }

-- accepted: the place and the length of the row that is handed back
module _ (b : List ℕ) (x at : ℕ) (row : List ℕ) (given : consult_fault b x 0 ≡ 0) (place : at ≡ row_place b x)
    (is_row : row ≡ row_part b x) where
  -- it is as long as each row of the book
  long_row : length row ≡ row_long b
  long_row = ap length is_row ∙ length_row b x given

  pub part_given : PartSays b x (record { number = 0; start = at; length = length row })
  part_given =
      let size : at + length row - at ≡ length row = omega arith in
      record {
        number = sym given;
        start = place ∙ sym (start_given b x given);
        long = ap length is_row;
        bytes = rw size at (row_is b x at (length row) given place long_row);
      }

  -- both are within the book, whose length fits a header number
  pub part_fits : (at < 65536) × (length row < 65536)
  part_fits =
      let f = fine b x 0 given in
      let most = long_most f.head.sizes (staged b) in (
        omega (arith, row_fits b x given, f.head.size),
        omega (arith, row_fits b x given, f.head.size, long_row),
      )
