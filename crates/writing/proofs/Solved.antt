-- What the solver leaves for a start, and what the book's bytes then are. Assumes nothing.
use mathlib.Core.Path.{◌≡◌, sym, ap, ◌∙◌}
use mathlib.Core.Logic.{inl, inr}
use mathlib.Core.Bool.{Bool, true, false}
use mathlib.Core.List.{List}
use Prim.Native.Nat.{ℕ, ◌≤◌}
use native.Mathlib.Omega.{arith}
use lib.ListN.{length}
use borrow.Author.Tests.{le-leb, leb-true}
use Rattle.std.specs.Prelude.{Some, None}
use Rattle.statements.specs.Sets.{over}
use Rattle.statements.specs.Plants.{plant_of}
use Rattle.statements.specs.Kept.{kept_within}
use Rattle.statements.specs.Books.{book_long, head_of, book_within}
use Rattle.sets.proofs.Tests.{decided, and_true, and_left, and_right}
use Rattle.solve.specs.Rows.{rows_over, solvable, among, rising, solved_kept, solved_rows}
use Rattle.solve.proofs.Answers.{book_rows, not_solved, solved}
use Rattle.writing.specs.Written.{writable, written_long, written_book}
use Rattle.writing.proofs.Written.{book_written}

-- no number is none, and a number says which it is
pub some_other : {n : ℕ} → None ≡ Some n → ⊥
some_other e = cc

pub some_same : {m n : ℕ} → Some m ≡ Some n → m ≡ n
some_same e = cc

module _ (good : Bool) (s start o : List ℕ) where
  -- a book can be written where the solver can work
  as_solvable : solvable good s start o ≡ writable good s start o
  unfolding writable solvable
  as_solvable = rw book_rows

  -- that is where what is lent is good, from a rising list of its states, with room for it
  pub can_write : good ≡ true → rising 0 (plant_of s).states start ≡ true
      → book_long (plant_of s).settles (plant_of s).states (plant_of s).goals ≤ length o → writable good s start o ≡ true
  unfolding writable
  can_write fine rise room = and_true fine (and_true rise (le-leb _ _ room))

  -- where it can be, what is lent is good
  pub writable_fine : writable good s start o ≡ true → good ≡ true
  unfolding writable
  writable_fine t = and_left good _ t

  -- and there is room
  pub room_of : writable good s start o ≡ true → book_long (plant_of s).settles (plant_of s).states (plant_of s).goals ≤ length o
  unfolding writable
  room_of t =
      leb-true _ _ (and_right (rising 0 (plant_of s).states start) _ (and_right good _ t))

-- the length returned is no longer than the buffer
pub written_fits : (good : Bool) (s start o : List ℕ) {long : ℕ} → Some long ≡ written_long good s start o
    → long ≤ length o
unfolding written_long
written_fits good s start o {long} e =
    elim (decided (writable good s start o)) [
      | inl t ↦
          let same : long ≡ book_long (plant_of s).settles (plant_of s).states (plant_of s).goals = some_same (rw t at e) in
          rw same (room_of good s start o t)
      | inr t ↦ absurd (some_other (sym (rw t at e)))
    ]

module _ (good : Bool) (s : List ℕ) (mask : ℕ) (start o : List ℕ) where
  -- the states kept
  abbrev Kept : List ℕ
  Kept = kept_within (plant_of s) mask (among start)

  -- it cannot be written: None, and the buffer stays
  pub not_written : writable good s start o ≡ false → (None ≡ written_long good s start o) × (o ≡ written_book good s mask start o)
  unfolding written_long written_book
  not_written e = (rw e, rw e)

  -- it can: the book's length, and the buffer with the book written
  pub written : writable good s start o ≡ true
      → (written_long good s start o ≡ Some (book_long (plant_of s).settles (plant_of s).states (plant_of s).goals))
      × (written_book good s mask start o ≡ over (book_within (plant_of s) mask (among start)) o)
  unfolding written_long written_book
  written e = (rw e, rw e)

  -- what the solver then returns and leaves, and what otherwise
  works : writable good s start o ≡ true
      → (Some (length Kept) ≡ solved_kept good s mask start o)
      × (rows_over (plant_of s) mask Kept o ≡ solved_rows good s mask start o)
  works t = solved good s mask start o (as_solvable good s start o ∙ t)

  fails : writable good s start o ≡ false → (None ≡ solved_kept good s mask start o) × (o ≡ solved_rows good s mask start o)
  fails t = not_solved good s mask start o (as_solvable good s start o ∙ t)

  -- no number: it cannot, and the buffer stays
  pub none_unwritten : None ≡ solved_kept good s mask start o → {o₁ : List ℕ} → o₁ ≡ solved_rows good s mask start o
      → (None ≡ written_long good s start o) × (o₁ ≡ written_book good s mask start o)
  none_unwritten count rows =
      elim (decided (writable good s start o)) [
        | inl t ↦ absurd (some_other (count ∙ sym (works t).0))
        | inr t ↦ ((not_written t).0, rows ∙ sym (fails t).1 ∙ (not_written t).1)
      ]

  module _ {r : ℕ} (count : Some r ≡ solved_kept good s mask start o) where
    -- a number: the book can be written
    pub has_solved : writable good s start o ≡ true
    has_solved =
        elim (decided (writable good s start o)) [
          | inl t ↦ t
          | inr t ↦ absurd (some_other ((fails t).0 ∙ sym count))
        ]

    -- it is that of the states kept
    kept_is : r ≡ length Kept
    kept_is = let e = count ∙ sym (works has_solved).0 in cc

    -- it is written: the rows that the solver left, and the header with the number that it returned
    pub book_done : {o₁ : List ℕ} → o₁ ≡ solved_rows good s mask start o
        → {long : ℕ} → long ≡ book_long (plant_of s).settles (plant_of s).states (plant_of s).goals
        → {o₂ : List ℕ} → ((kept : List ℕ) → length kept ≡ r → o₂ ≡ over (head_of (plant_of s) mask kept) o₁)
        → (Some long ≡ written_long good s start o) × (o₂ ≡ written_book good s mask start o)
    unfolding book_within
    book_done rows e head =
        let t = has_solved in (
          ap Some e ∙ sym (written t).0,
          book_written (plant_of s) mask Kept o (omega (arith, room_of good s start o t, book_rows (plant_of s)))
              (rows ∙ sym (works t).1) (head Kept (sym kept_is))
              ∙ sym (written t).1,
        )
