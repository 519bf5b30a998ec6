-- A book's answers, as the first check that fails gives them. Assumes nothing.
use mathlib.Core.Path.{◌≡◌}
use mathlib.Core.Bool.{true, false}
use mathlib.Core.List.{List}
use Prim.Native.Nat.{ℕ}
use Rattle.statements.specs.Books.{book_head_ok, rows_ok, book_fault}

-- a book's answer, by the first check that fails
module _ (b : List ℕ) where
  -- a bad header
  pub fault_4 : book_head_ok b ≡ false → book_fault b ≡ 4
  unfolding book_fault
  fault_4 h = rw h

  -- a bad row, or a wrong count of kept states
  pub fault_5 : book_head_ok b ≡ true → rows_ok b ≡ false → book_fault b ≡ 5
  unfolding book_fault
  fault_5 h r = rw (h, r)

  -- nothing bad
  pub no_book_fault : book_head_ok b ≡ true → rows_ok b ≡ true → book_fault b ≡ 0
  unfolding book_fault
  no_book_fault h r = rw (h, r)
