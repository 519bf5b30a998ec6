-- A state's row, refused and handed back: an accepted state's row stands within the book, and its numbers are those
-- that are read there. Assumes nothing.
use mathlib.Core.Path.{◌≡◌, sym, ap, ap₂, ◌∙◌}
use mathlib.Core.Logic.{inl, inr}
use mathlib.Core.Bool.{true, false, not}
use mathlib.Core.List.{List, []}
use Prim.Native.Nat.{ℕ, ◌+◌, ◌*◌, ◌≤◌, ◌<◌}
use native.Mathlib.Omega.{arith}
use lib.Dec.{eqb}
use lib.ListN.{length, get_or, take, drop, length-drop}
use lib.Seq.{length-take-le, get_or-take, get_or-drop}
use borrow.Author.Tests.{eq-eqb, ne_eqb}
use Rattle.statements.specs.Plants.{word}
use Rattle.statements.specs.Books.{book_states, book_goals, staged, row_place, entry_place, row_long, wait_at, move_at}
use Rattle.statements.specs.Books.{stage_at}
use Rattle.statements.specs.Calls.{consult_fault, row_part}
use Rattle.promises.specs.Says.{accepted, row_start}
use Rattle.promises.specs.Rows.{opens, RowReads, Rows}
use Rattle.sets.proofs.Tests.{decided}
use Rattle.decoding.proofs.Sizes.{opening, long_is, row_place_lem, entry_place_lem, row_long_lem, row_within}
use Rattle.decoding.proofs.Asked.{fine}

-- refused
module _ (b : List ℕ) (x : ℕ) (refused : consult_fault b x 0 ≡ 0 → ⊥) where
  -- a call with an answer is not accepted
  not_accepted : accepted b x 0 ≡ false
  unfolding accepted
  not_accepted = ne_eqb _ _ refused

  -- no bytes are handed back
  pub no_row : row_part b x ≡ []
  unfolding row_part
  no_row = rw (ne_eqb _ _ refused)

  -- the part starts where the book does
  pub no_start : row_start b x ≡ 0
  unfolding row_start
  no_start = rw not_accepted

  -- the part is empty just when the call is not accepted
  pub empty_row : not (accepted b x 0) ≡ true
  empty_row = ap not not_accepted

-- two bytes are opened with for each number
opens_two : (b : List ℕ) → opening (staged b) ≡ 2 * opens b
unfolding opening
opens_two b =
    elim (decided (staged b)) [
      | inl e ↦ rw e (omega arith)
      | inr e ↦ rw e (omega arith)
    ]

-- a byte of a part of a list, and number k of it, which is number j from another place on
module _ (s : List ℕ) (at n : ℕ) where
  part_byte : (m : ℕ) → m < n → get_or (take n (drop at s)) m 0 ≡ get_or s (at + m) 0
  part_byte m h = get_or-take n (drop at s) m 0 h ∙ get_or-drop at s m 0

  part_word : (k there j : ℕ) → 2 * k + 1 < n → at + 2 * k ≡ there + 2 * j →
      word k (take n (drop at s)) ≡ word j (drop there s)
  unfolding word
  part_word k there j h e =
      let byte : (m r : ℕ) → m < n → at + m ≡ there + r → get_or (take n (drop at s)) m 0 ≡ get_or (drop there s) r 0 =
      λ m r l q. part_byte m l ∙ ap (λ (w : ℕ). get_or s w 0) q ∙ sym (get_or-drop there s r 0) in
      ap₂ (λ (low high : ℕ). low + 256 * high) (byte (2 * k) (2 * j) (omega arith) e)
      (byte (2 * k + 1) (2 * j + 1) h (omega arith))

-- handed back
module _ (b : List ℕ) (x : ℕ) (given : consult_fault b x 0 ≡ 0) where
  -- a call with no answer is accepted
  is_accepted : accepted b x 0 ≡ true
  unfolding accepted
  is_accepted = eq-eqb _ _ given

  -- the state's row is handed back
  pub row_given : row_part b x ≡ take (row_long b) (drop (row_place b x) b)
  unfolding row_part
  row_given = rw given

  -- the part starts where the row does
  pub start_given : row_start b x ≡ row_place b x
  unfolding row_start
  start_given = rw is_accepted

  -- the row stands within the book
  pub row_fits : row_place b x + row_long b ≤ length b
  row_fits =
      let f = fine b x 0 given in
      let w = opening (staged b) + book_goals b * 4 in
      omega (
        arith,
        f.head.size,
        long_is (staged b) (book_states b) (book_goals b),
        row_place_lem b x,
        row_long_lem b,
        row_within x w f.state,
      )

  -- it has four bytes for each goal, and a stage if there are stages
  pub length_row : length (row_part b x) ≡ row_long b
  length_row = ap length row_given ∙ length-take-le _ _ (rw length-drop (omega (arith, row_fits)))

  -- so it is not empty
  pub full_row : eqb (length (row_part b x)) 0 ≡ not (accepted b x 0)
  full_row =
      let f = fine b x 0 given in
      rw is_accepted (ne_eqb (length (row_part b x)) 0 (λ z. omega (arith, length_row, row_long_lem b, f.goal, z)))

  -- number k of the row, which is number j from another place of the book on
  row_number : (k there j : ℕ) → 2 * k + 1 < row_long b → row_place b x + 2 * k ≡ there + 2 * j →
      word k (row_part b x) ≡ word j (drop there b)
  row_number k there j h e = ap (word k) row_given ∙ part_word b (row_place b x) (row_long b) k there j h e

  -- so that it reads as it does in the book
  row_reads : RowReads b x (row_part b x)
  unfolding wait_at move_at stage_at
  row_reads =
      let o = opens_two b in
      let place = row_place_lem b x in
      let long = row_long_lem b in
      record {
        size = omega (arith, length_row, long, o);
        stage = λ e. rw e (row_number 0 (row_place b x) 0 (omega (arith, long, (fine b x 0 given).goal)) (omega arith));
        wait = λ i hi.
            row_number (opens b + 2 * i) (entry_place b x i) 0 (omega (arith, long, o, hi))
            (omega (arith, place, entry_place_lem b x i, o));
        move = λ i hi.
            row_number (opens b + 2 * i + 1) (entry_place b x i) 1 (omega (arith, long, o, hi))
            (omega (arith, place, entry_place_lem b x i, o));
        within = omega (arith, start_given, length_row, row_fits);
        each = λ k h.
            ap (λ (l : List ℕ). get_or l k 0) row_given
            ∙ part_byte b (row_place b x) (row_long b) k (omega (arith, h, length_row))
            ∙ ap (λ (w : ℕ). get_or b (w + k) 0) (sym start_given);
      }

pub rows : Rows
rows =
    record {
      reads = λ {b} {row} {x} says given. rw says.bytes (row_reads b x given);
      refused = λ {b} {row} {x} says no. says.bytes ∙ no_row b x no;
    }
