-- Bytes written over the first of a buffer, one two-byte number after the other, and a book's bytes as the numbers of
-- its header and of its rows. Assumes nothing.
use mathlib.Core.Path.{◌≡◌, refl, sym, ap, ap₂, ◌∙◌}
use mathlib.Core.Logic.{inl, inr}
use mathlib.Core.Bool.{Bool, true, false}
use mathlib.Core.List.{List, [], ◌∷◌, ◌++◌, append_assoc}
use Prim.Native.Nat.{ℕ, ◌+◌, ◌*◌, ◌/◌, ◌%◌, ◌≤◌}
use native.Mathlib.Omega.{arith}
use lib.ListN.{length, take, drop, length-append}
use lib.Seq.{length-take-le, drop_at}
use Rattle.statements.specs.Sets.{pick, joined, is_in, over}
use Rattle.statements.specs.Plants.{Plant}
use Rattle.statements.specs.Kept.{stage_of}
use Rattle.statements.specs.Books.{two, bytes_of, lost_mark, book_long, entry_of, stage_part, row_of, head_of, book_bytes}
use Rattle.solve.specs.Rows.{entry_numbers, stage_numbers, one_row, row_numbers, row_size, rows_long, rows_over}
use Rattle.sets.proofs.Tests.{decided}
use Rattle.sets.proofs.Joined.{joined_length, joined_same}
use Rattle.decoding.proofs.Sizes.{bytes_length, bytes_append}
use Rattle.solve.proofs.RowBytes.{bytes_joined}
use Rattle.solve.proofs.RowMarks.{one_size}

-- numbers written before others
over_before : (xs ys old : List ℕ) → length xs ≤ length old
    → over xs (take (length xs) old ++ (ys ++ drop (length xs + length ys) old)) ≡ over (xs ++ ys) old
unfolding over
over_before xs ys old h =
    let rest = ys ++ drop (length xs + length ys) old in
    rw (drop_at (take (length xs) old) rest (length xs) (length-take-le (length xs) old h), length-append, append_assoc)

-- a book's header, stored as eight numbers
pub head_stored : (p : Plant) (mask : ℕ) (kept o : List ℕ) (s u n k : ℕ) {o' : List ℕ} → s ≡ p.states → u ≡ p.moves
    → n ≡ p.goals → k ≡ length kept → (long : ℕ) → long ≡ book_long p.settles p.states p.goals
    → o' ≡ over (bytes_of (s ∷ u ∷ n ∷ k ∷ mask % 65536 ∷ mask / 65536 ∷ 16 ∷ long ∷ [])) o
    → o' ≡ over (head_of p mask kept) o
unfolding head_of bytes_of two over
head_stored p mask kept o s u n k es eu en ek long el w = w ∙ rw (el, es, eu, en, ek)

module _ (p : Plant) (mask : ℕ) (kept : List ℕ) where
  -- an entry's bytes are those of its two numbers, and a row's those of its entries
  entry_split : (x i : ℕ) → bytes_of (entry_numbers p mask kept x i) ≡ entry_of p mask kept x i
  unfolding entry_numbers entry_of bytes_of two
  entry_split x i = elim (decided (is_in x kept)) [ inl h ↦ rw h | inr h ↦ rw h ]

  -- what it opens with
  stage_by : (t : Bool) (v : ℕ) → bytes_of (pick t (v ∷ []) []) ≡ pick t (two v) []
  unfolding bytes_of two
  stage_by true v = refl
  stage_by false v = refl

  stage_split : (x : ℕ) → bytes_of (stage_numbers p mask kept x) ≡ stage_part p mask kept x
  unfolding stage_numbers stage_part
  stage_split x = stage_by p.settles (pick (is_in x kept) (stage_of p mask kept x) lost_mark)

  row_split : (x : ℕ) → bytes_of (one_row p mask kept x) ≡ row_of p mask kept x
  unfolding one_row row_of
  row_split x =
      bytes_append (stage_numbers p mask kept x) (joined p.goals 0 (entry_numbers p mask kept x))
      ∙ ap₂ (λ (xs ys : List ℕ). xs ++ ys) (stage_split x)
      (bytes_joined (entry_numbers p mask kept x) p.goals 0 ∙ joined_same _ _ p.goals 0 (λ i l h. entry_split x i))

  -- a book is its header and the bytes of its rows' numbers
  pub book_split : book_bytes p mask kept ≡ head_of p mask kept ++ bytes_of (row_numbers p mask kept)
  unfolding book_bytes row_numbers
  book_split =
      let rows = bytes_joined (one_row p mask kept) p.states 0
      ∙ joined_same _ _ p.states 0 (λ x l h. row_split x) in
      ap (λ (ys : List ℕ). head_of p mask kept ++ ys) (sym rows)

  -- as many numbers as all rows have
  rows_count : length (row_numbers p mask kept) ≡ rows_long p
  unfolding row_numbers rows_long
  rows_count = joined_length (one_row p mask kept) (row_size p) (one_size p mask kept) p.states 0

  -- the rows written, and then the header before them
  pub book_written : (o : List ℕ) {o₁ o₂ : List ℕ} → 16 ≤ length o → o₁ ≡ rows_over p mask kept o
      → o₂ ≡ over (head_of p mask kept) o₁ → o₂ ≡ over (book_bytes p mask kept) o
  unfolding rows_over head_of two
  book_written o room e₁ e₂ =
      let rows = bytes_of (row_numbers p mask kept) in
      let many : 2 * rows_long p ≡ length rows = omega (arith, rows_count, bytes_length (row_numbers p mask kept)) in
      e₂
      ∙ ap (over (head_of p mask kept)) (e₁ ∙ ap (λ (n : ℕ). take 16 o ++ (rows ++ drop (16 + n) o)) many)
      ∙ over_before (head_of p mask kept) rows o room
      ∙ ap (λ (ys : List ℕ). over ys o) (sym book_split)
