-- Marks written over all rows, and the bytes of a book once the rows of all states kept are written. Assumes nothing.
use mathlib.Core.Path.{◌≡◌, refl, sym, ap, ap₂, ◌∙◌}
use mathlib.Core.Logic.{⊎_elim}
use mathlib.Core.Bool.{Bool, true, false}
use mathlib.Core.List.{List, [], ◌∷◌, ◌++◌}
use Prim.Native.Nat.{ℕ, zero, suc, ◌+◌, ◌-◌, ◌*◌, ◌≤◌, ◌<◌}
use native.Mathlib.Nat.{zero-add}
use native.Mathlib.Omega.{arith}
use lib.ListN.{length, get_or, take, drop, replicate, length-drop, take-append-drop}
use lib.Seq.{drop-drop, length-take-le}
use borrow.Rule.Slice.PartMut.{mid_of, post_of, put_mid, same_len_mid}
use Rattle.std.proofs.lemmas.List.{get_or_append_left, get_or-append_right, get_or-replicate, length-replicate}
use Rattle.std.proofs.lemmas.Slice.{take-put_mid_below, drop-put_mid}
use Rattle.statements.specs.Sets.{pick, joined, is_in}
use Rattle.statements.specs.Plants.{Plant}
use Rattle.statements.specs.Kept.{stage_of}
use Rattle.statements.specs.Books.{lost_mark, bytes_of}
use Rattle.sets.proofs.Tests.{decided}
use Rattle.sets.proofs.Pieces.{joined_take}
use Rattle.decoding.proofs.Sizes.{row_within}
use Rattle.solve.specs.Rows.{entry_numbers, stage_numbers, one_row, row_numbers, row_size, rows_long, number_at}
use Rattle.solve.specs.Rows.{Rowed, rows_over}
use Rattle.solve.proofs.RowBytes.{bytes_joined, bytes_read}
use Rattle.solve.proofs.RowEntries.{row_fits, row_long_lem}

-- the numbers of a row stand among those of all rows
number_in : (p : Plant) (x j : ℕ) → x < p.states → j < row_size p → x * row_size p + j < rows_long p
number_in p x j h l = omega (arith, row_fits p refl x h)

-- all rows have so many bytes
rows_total : (p : Plant) → 2 * rows_long p ≡ p.states * (2 * row_size p)
unfolding rows_long
rows_total p = omega arith

-- marks from the header to the end of the rows are written
pub blank_all : (p : Plant) (mask : ℕ) (kept old : List ℕ) (n : ℕ) → n ≡ rows_long p → 16 + 2 * n ≤ length old
    → {marks : List ℕ} → marks ≡ replicate (length (mid_of 16 (16 + 2 * n - 16) old)) 255
    → Rowed p mask kept [] old (put_mid 16 (16 + 2 * n - 16) old marks)
unfolding number_at is_in
blank_all p mask kept old n count room {marks} is =
    let k = 16 + 2 * n - 16 in
    let part = length (mid_of 16 k old) in
    let whole : part ≡ k = length-take-le k (drop 16 old) (omega (arith, length-drop 16 old)) in
    let many : length marks ≡ part = ap length is ∙ length-replicate part 255 in
    let mark : (i : ℕ) → 16 ≤ i → i < 16 + 2 * n → get_or (put_mid 16 k old marks) i 0 ≡ 255 = λ i l h.
    get_or-append_right (take 16 old) (marks ++ post_of 16 k old) 16 i 0 (length-take-le 16 old (omega arith)) l
    ∙ get_or_append_left marks (post_of 16 k old) 0 (i - 16) (omega arith)
    ∙ ap (λ (ys : List ℕ). get_or ys (i - 16) 0) is
    ∙ get_or-replicate part (i - 16) 255 0 (omega arith) in
    record {
      row = λ x j h l.
          let m = x * row_size p + j in
          let inside = number_in p x j h l in
          ap₂ (λ (u v : ℕ). u + 256 * v) (mark (16 + 2 * m) (omega arith) (omega arith))
          (mark (16 + 2 * m + 1) (omega arith) (omega arith));
      around = record {
        long = same_len_mid 16 k old marks many;
        head = take-put_mid_below 16 k old marks 16 (omega arith) (omega arith);
        rest = drop-put_mid 16 k old marks (16 + 2 * rows_long p) (omega arith) (omega arith) (many ∙ whole);
      };
    }

-- marks, two by two
joined_marks : (part : ℕ → List ℕ) → ((k : ℕ) → part k ≡ lost_mark ∷ (lost_mark ∷ [])) → (n x j : ℕ) → j < 2 * n
    → get_or (joined n x part) j 0 ≡ lost_mark
unfolding joined
joined_marks part marks zero x j h = absurd (omega arith)
joined_marks part marks (suc n) x zero h = rw (marks x) refl
joined_marks part marks (suc n) x (suc zero) h = rw (marks x) refl
joined_marks part marks (suc n) x (suc (suc j)) h = rw (marks x) (joined_marks part marks n (suc x) j (omega arith))

-- a row of marks
row_marks : (t : Bool) (n : ℕ) (part : ℕ → List ℕ) → ((k : ℕ) → part k ≡ lost_mark ∷ (lost_mark ∷ [])) → (j : ℕ)
    → j < pick t (2 * n + 1) (2 * n) → get_or (pick t (lost_mark ∷ []) [] ++ joined n 0 part) j 0 ≡ lost_mark
row_marks true n part marks zero h = refl
row_marks true n part marks (suc j) h = joined_marks part marks n 0 j (omega arith)
row_marks false n part marks j h = joined_marks part marks n 0 j h

module _ (p : Plant) (mask : ℕ) (kept : List ℕ) where
  -- a row's entries have two numbers each
  entry_count : (x i : ℕ) → length (entry_numbers p mask kept x i) ≡ 2
  unfolding entry_numbers
  entry_count x i = ⊎_elim (λ e. rw e refl) (λ e. rw e refl) (decided (is_in x kept))

  -- and a row the size of any
  pub one_size : (x : ℕ) → length (one_row p mask kept x) ≡ row_size p
  unfolding one_row stage_numbers
  one_size x =
      row_long_lem p (pick (is_in x kept) (stage_of p mask kept x) lost_mark) (entry_numbers p mask kept x) (entry_count x)

  -- a lost state's entries are marks
  entry_lost : (x : ℕ) → is_in x kept ≡ false → (i : ℕ) → entry_numbers p mask kept x i ≡ lost_mark ∷ (lost_mark ∷ [])
  unfolding entry_numbers
  entry_lost x m i = rw m refl

  -- and so is its row
  pub row_lost : (x : ℕ) → is_in x kept ≡ false → (j : ℕ) → j < row_size p → get_or (one_row p mask kept x) j 0 ≡ lost_mark
  unfolding one_row stage_numbers row_size
  row_lost x m j h = rw m (row_marks p.settles p.goals (entry_numbers p mask kept x) (entry_lost x m) j h)

  module _ {old new : List ℕ} (r : Rowed p mask kept kept old new)
      (small : (k : ℕ) → k < length new → get_or new k 0 < 256) (room : 16 + 2 * rows_long p ≤ length old) where
    -- the rows of all states kept are written: each number is that of its row
    row_numbers_lem : (x j : ℕ) → x < p.states → j < row_size p
        → number_at new (x * row_size p + j) ≡ get_or (one_row p mask kept x) j 0
    row_numbers_lem x j h l =
        r.row x j h l
        ∙ ⊎_elim (λ m. rw m refl) (λ m. rw m (sym (row_lost x m j l))) (decided (is_in x kept))

    -- and so is each row's part of the bytes
    row_bytes_lem : (x : ℕ) → x < p.states
        → take (2 * row_size p) (drop (x * (2 * row_size p)) (drop 16 new)) ≡ bytes_of (one_row p mask kept x)
    unfolding number_at rows_long
    row_bytes_lem x h =
        let size = row_size p in
        let at = 16 + x * (2 * size) in
        let inside = row_within {s = p.states} x size h in
        let many = one_size x in
        let read = bytes_read (one_row p mask kept x) new at (omega (arith, r.around.long)) small
        (λ j l.
        let low : at + 2 * j ≡ 16 + 2 * (x * size + j) = omega arith in
        let high : at + 2 * j + 1 ≡ 16 + 2 * (x * size + j) + 1 = omega arith in
        ap₂ (λ (a b : ℕ). get_or new a 0 + 256 * get_or new b 0) low high ∙ row_numbers_lem x j h (omega arith)) in
        ap₂ (λ (n : ℕ) (l : List ℕ). take (2 * n) l) (sym many) (drop-drop (x * (2 * size)) 16 new) ∙ read

    -- so that the bytes are determined
    pub rows_bytes : new ≡ rows_over p mask kept old
    unfolding rows_over row_numbers
    rows_bytes =
        let total = 2 * rows_long p in
        let part : ℕ → List ℕ = λ x. bytes_of (one_row p mask kept x) in
        let all : total ≡ p.states * (2 * row_size p) = rows_total p in
        let rows : take total (drop 16 new) ≡ bytes_of (joined p.states 0 (one_row p mask kept)) =
        rw all (joined_take part (2 * row_size p) p.states 0 (drop 16 new) (λ x h. rw zero-add (row_bytes_lem x h)))
        ∙ sym (bytes_joined (one_row p mask kept) p.states 0) in
        sym (take-append-drop 16 new)
        ∙ ap₂ (λ (a b : List ℕ). a ++ b) r.around.head
        (sym (take-append-drop total (drop 16 new))
        ∙ ap₂ (λ (a b : List ℕ). a ++ b) rows (drop-drop total 16 new ∙ r.around.rest))
