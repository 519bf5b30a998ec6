-- Rows of a book, entry by entry: a state is lost or held when its entries are, each at its place. Assumes nothing.
use mathlib.Core.Path.{◌≡◌, refl, sym, ap, ◌∙◌}
use mathlib.Core.Bool.{Bool, true, false, ◌&&◌, ◌||◌, not}
use mathlib.Core.List.{List, [], ◌∷◌}
use Prim.Native.Nat.{ℕ, ◌+◌, ◌*◌, ◌≤◌, ◌<◌}
use native.Mathlib.Omega.{arith}
use lib.Dec.{eqb}
use borrow.Author.Tests.{eqb-true, ne_eqb}
use lib.ListN.{length, get_or, drop, get_or-eq_default, length-append}
use Rattle.statements.specs.Sets.{numbers, every, filter}
use Rattle.statements.specs.Plants.{word}
use Rattle.statements.specs.Books.{lost_mark, book_states, book_moves, book_goals, book_count, book_mask, book_kept}
use Rattle.statements.specs.Books.{staged, entry_place, stage_lost, stage_held, wait_at, move_at}
use Rattle.statements.specs.Books.{is_lost, is_held, rows_ok, book_long, mask_ok, book_head_ok}
use Rattle.sets.proofs.Tests.{and_none, and_iff, and_true}
use Rattle.sets.proofs.Numbers.{every_all, every_none, every_more}
use Rattle.sets.proofs.Members.{numbers_more, filter_snoc, filter_length, length_numbers}
use Rattle.decoding.proofs.Faults.{sort_size}
use Rattle.decoding.proofs.Sizes.{opening, long_is, entry_place_lem, row_within}
use Rattle.rows.specs.Checks.{lost_at, held_at, entry_in, entries_lost, lost_in, entries_held, held_in}
use Rattle.format.proofs.Words.{word_here, word_further, product_below}

-- products of numbers of 16 and of 32 bits with one of 16
pub words_product : (a b : ℕ) → a < 65536 → b < 65536 → a * b < 4294967296
words_product a b ha hb = product_below 16 16 ha hb

pub state_product : (a b : ℕ) → a < 4294967296 → b < 65536 → a * b < 281474976710656
state_product a b ha hb = product_below 32 16 ha hb

pub and_yes : (t : Bool) → t && true ≡ t
and_yes true = refl
and_yes false = refl

-- the move is the number two bytes further
pub move_place : (b : List ℕ) (x i : ℕ) → move_at b x i ≡ word 0 (drop (entry_place b x i + 2) b)
unfolding move_at
move_place b x i = word_further b (entry_place b x i) 1

-- what a good header says of the mask and of the length
pub record BookHead (b : List ℕ) : Type 0 where
  pub mask_ok_lem : mask_ok (book_moves b) (book_mask b) ≡ true
  pub size : length b ≡ book_long (staged b) (book_states b) (book_goals b)

pub head_given : (b : List ℕ) → book_head_ok b ≡ true → BookHead b
unfolding book_head_ok
head_given b h =
    let tests = simp and_iff at h in
    record { mask_ok_lem = search; size = sort_size b (omega (arith, eqb-true)) (search) }

module _ (b : List ℕ) (x : ℕ) where
  pub entry_known : (i : ℕ) (t : Bool) → t ≡ staged b → entry_in t b x i ≡ entry_place b x i
  unfolding entry_in entry_place
  entry_known i t e = rw e refl

  -- the entries of a state's row stand within a book with a good header
  pub entries_within : (t : Bool) (start n : ℕ) → t ≡ staged b → BookHead b → x < book_states b
      → start ≡ entry_in t b x 0 → n ≡ word 2 b → start + 4 * n ≤ length b
  unfolding book_goals
  entries_within t start n e head h place goals =
      let w = opening (staged b) + book_goals b * 4 in
      omega (
        arith,
        place,
        goals,
        entry_known 0 t e,
        entry_place_lem b x 0,
        head.size,
        long_is (staged b) (book_states b) (book_goals b),
        row_within x w h,
      )

  -- that a row is lost or held is told from whether there are stages
  pub lost_known : (t r : Bool) → t ≡ staged b → r ≡ lost_in t b x → r ≡ is_lost b x
  unfolding lost_in entries_lost entry_in lost_at is_lost stage_lost wait_at move_at entry_place
  lost_known t r e h = h ∙ rw e refl

  pub held_known : (t r : Bool) → t ≡ staged b → r ≡ held_in t b x → r ≡ is_held b x
  unfolding held_in entries_held entry_in held_at is_held stage_held wait_at move_at entry_place
  held_known t r e h = h ∙ rw e refl

-- an entry that is cut off by the book's end is not lost: its last byte counts as 0
pub lost_cut : (b : List ℕ) (at : ℕ) → ((k : ℕ) → get_or b k 0 < 256) → length b < at + 4 → false ≡ lost_at b at
unfolding lost_at
lost_cut b at bytes h =
    let high : get_or b (at + 2 + 1) 0 ≡ 0 = get_or-eq_default b 0 (omega arith) in
    let low : word 1 (drop at b) ≡ lost_mark → ⊥ =
    λ e. omega (arith, e, word_further b at 1, word_here b (at + 2), high, bytes (at + 2)) in
    sym (and_none (eqb (word 0 (drop at b)) lost_mark) _ (ne_eqb (word 1 (drop at b)) lost_mark low))

-- the entries of a row stand one after the other
pub entry_next : (t : Bool) (b : List ℕ) (x i : ℕ) {start : ℕ} → start ≡ entry_in t b x 0
    → start + 4 * i ≡ entry_in t b x i
unfolding entry_in
entry_next true b x i e = omega (arith, e)
entry_next false b x i e = omega (arith, e)

-- a row's entries are lost when each is, and not when one is not
module _ (t : Bool) (b : List ℕ) (x : ℕ) where
  pub lost_all : (n : ℕ) → n ≡ word 2 b → ((k : ℕ) → k < n → lost_at b (entry_in t b x k) ≡ true)
      → entries_lost t b x ≡ true
  unfolding entries_lost book_goals
  lost_all n e h =
      rw (← e) (every_all n 0 (λ i. lost_at b (entry_in t b x i)) (λ k low high. h k (omega arith)))

  pub lost_none : (n k : ℕ) → n ≡ word 2 b → k < n → lost_at b (entry_in t b x k) ≡ false → entries_lost t b x ≡ false
  unfolding entries_lost book_goals
  lost_none n k e h f =
      rw (← e) (every_none n 0 (λ i. lost_at b (entry_in t b x i)) k (omega arith) (omega arith) f)

  -- and they are held when the test holds of each
  pub held_each : (n u mask : ℕ) → n ≡ word 2 b → u ≡ book_moves b → mask ≡ book_mask b
      → every n 0 (λ i. held_at b u mask (entry_in t b x i)) ≡ entries_held t b x
  unfolding entries_held book_goals
  held_each n u mask e f g = rw (e, f, g) refl

-- a row that is wholly lost or held
unfoldable pub row_fine : List ℕ → ℕ → Bool
row_fine b x = is_lost b x || is_held b x

-- a row that is not lost
unfoldable pub not_lost : List ℕ → ℕ → Bool
not_lost b x = not (is_lost b x)

-- the rows of the states below x are fine, and so many of them are not lost
pub record RowsFine (b : List ℕ) (kept x : ℕ) : Type 0 where
  pub fine : every x 0 (row_fine b) ≡ true
  pub count : kept ≡ length (filter (not_lost b) (numbers x 0))

-- before the first row
pub rows_start : (b : List ℕ) → RowsFine b 0 0
unfolding every filter numbers
rows_start b = record { fine = refl; count = refl }

module _ {b : List ℕ} {kept x : ℕ} (r : RowsFine b kept x) where
  counted : length (filter (not_lost b) (numbers (x + 1) 0)) ≡ kept + length (filter (not_lost b) (x ∷ []))
  unfolding filter
  counted =
      ap (λ xs. length (filter (not_lost b) xs)) (numbers_more x)
      ∙ ap length (filter_snoc (not_lost b) (numbers x 0) x)
      ∙ length-append (filter (not_lost b) (numbers x 0)) (filter (not_lost b) (x ∷ []))
      ∙ ap (λ n. n + length (filter (not_lost b) (x ∷ []))) (sym r.count)

  -- no more are kept than there are states
  pub rows_few : kept ≤ x
  rows_few = omega (arith, r.count, filter_length (not_lost b) (numbers x 0), length_numbers x 0)

  -- the next row is lost
  pub rows_lost : is_lost b x ≡ true → RowsFine b kept (x + 1)
  unfolding row_fine not_lost filter
  rows_lost l =
      record {
        fine = every_more (row_fine b) x ∙ and_true r.fine (rw l refl);
        count = sym (counted ∙ rw l (omega arith));
      }

  -- it is held
  pub rows_held : is_lost b x ≡ false → is_held b x ≡ true → RowsFine b (kept + 1) (x + 1)
  unfolding row_fine not_lost filter
  rows_held l e =
      record {
        fine = every_more (row_fine b) x ∙ and_true r.fine (rw (l, e) refl);
        count = sym (counted ∙ rw l (omega arith));
      }

  -- no row is left
  pub rows_end : (n : ℕ) → x ≡ word 0 b → n ≡ word 3 b → eqb n kept ≡ rows_ok b
  unfolding rows_ok row_fine not_lost book_kept book_states book_count
  rows_end n e f = rw (f, r.count, ← e, r.fine) refl

-- a row that is neither
pub rows_fail : (b : List ℕ) (n x : ℕ) → n ≡ word 0 b → x < n → is_lost b x ≡ false → is_held b x ≡ false
    → rows_ok b ≡ false
unfolding rows_ok row_fine book_states
rows_fail b n x e h l f =
    let fails : every (word 0 b) 0 (row_fine b) ≡ false =
    every_none (word 0 b) 0 (row_fine b) x (omega arith) (omega (arith, e)) (rw (l, f) refl) in
    ap (λ (t : Bool). t && eqb (book_count b) (length (book_kept b))) fails
