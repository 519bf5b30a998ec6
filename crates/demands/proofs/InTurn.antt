-- A list of withdrawals: its single ones are accepted in turn, each from an accepted book, and together they come to
-- one withdrawal of all moves that they name. Assumes nothing.
use mathlib.Core.Path.{◌≡◌, refl, ap, ap₂, ◌∙◌}
use mathlib.Core.Logic.{inl, inr}
use mathlib.Core.Bool.{true, false}
use mathlib.Core.List.{List, [], ◌∷◌}
use Prim.Native.Nat.{ℕ, zero, suc, ◌+◌, ◌-◌, ◌*◌, ◌/◌, ◌%◌, ◌<◌}
use native.Mathlib.Omega.{arith}
use lib.Dec.{eqb}
use lib.ListN.{length, get_or, drop}
use borrow.Author.Tests.{eqb-true, eqb-false, ne_eqb}
use Rattle.statements.specs.Sets.{is_in}
use Rattle.statements.specs.Plants.{word, plant_of}
use Rattle.statements.specs.Kept.{kept_within}
use Rattle.statements.specs.Books.{book_mask, mask_at, mask_ok, each_ok, less_mask, kept_before, book_within, withdrawn_book}
use Rattle.statements.specs.Books.{masks_in, masks_of, union_of, withdrawn_in_turn, withdrawn_list}
use Rattle.statements.specs.Calls.{mask_fault, whole_masks, room_fault, lent_fault, withdraw_fault, withdraw_list_fault}
use Rattle.statements.specs.Calls.{withdraws, answer_of, standing_after, standing, answers, singles}
use Rattle.statements.specs.Demands.{InTurn}
use Rattle.sets.proofs.Tests.{decided, and_left, and_right, or_cases}
use Rattle.sets.proofs.Members.{is_in_none}
use Rattle.decoding.proofs.Masks.{less_both, union_names}
use Rattle.decoding.proofs.Unique.{word_drop}
use Rattle.decoding.proofs.Accepted.{book_alike}
use Rattle.decoding.proofs.Faults.{LentOk, lent_ok, lent_fine, list_parts, list_masks, list_at_once}
use Rattle.demands.proofs.Plants.{before_allowed, given_before}
use Rattle.demands.proofs.Books.{accepted}
use Rattle.demands.proofs.Demand2.{demand_2}
use Rattle.demands.proofs.Afresh.{within_in_turn}

-- the first mask of a list, and the others
pub first_mask : (m : List ℕ) (n : ℕ) → eqb (length m) 0 ≡ false → length m / 4 ≡ suc n
    → masks_of m ≡ mask_at m 0 ∷ masks_in n (drop 4 m)
unfolding masks_of masks_in
first_mask m n some count = rw (some, count)

-- a whole list has a first mask, an empty one that of 0
some_mask : (m : List ℕ) → whole_masks m ≡ true → (first : ℕ) × (more : List ℕ) × (masks_of m ≡ first ∷ more)
unfolding whole_masks masks_of
some_mask m h =
    elim (decided (eqb (length m) 0)) [
      | inl e ↦ (0, [], rw e)
      | inr e ↦
          let whole = eqb-true (length m % 4) 0 (and_left (eqb (length m % 4) 0) _ h) in
          let n = length m / 4 - 1 in
          let count : length m / 4 ≡ suc n = omega (arith, eqb-false (length m) 0 e) in
          (mask_at m 0, masks_in n (drop 4 m), first_mask m n e count)
    ]

-- the masks of a list, by number
mask_past : (k : ℕ) (m : List ℕ) → mask_at (drop 4 m) k ≡ mask_at m (suc k)
unfolding mask_at
mask_past k m =
    let low : 2 + 2 * k ≡ 2 * suc k = omega arith in
    let high : 2 + (2 * k + 1) ≡ 2 * suc k + 1 = omega arith in
    ap₂ (λ (v w : ℕ). v + 65536 * w) (word_drop 2 (2 * k) m ∙ ap (λ n. word n m) low)
    (word_drop 2 (2 * k + 1) m ∙ ap (λ n. word n m) high)

masks_at : (n k : ℕ) (m : List ℕ) → k < n → get_or (masks_in n m) k 0 ≡ mask_at m k
unfolding masks_in
masks_at zero k m h = absurd (omega arith)
masks_at (suc n) zero m h = refl
masks_at (suc n) (suc k) m h = masks_at n k (drop 4 m) (omega arith) ∙ mask_past k m

masks_long : (n : ℕ) (m : List ℕ) → length (masks_in n m) ≡ n
unfolding masks_in
masks_long zero m = refl
masks_long (suc n) m = ap suc (masks_long n (drop 4 m))

module _ (s : List ℕ) where
  -- a book withdrawn from one that is accepted with the plant is accepted with it
  withdrawn_lent : (b : List ℕ) (gone : ℕ) → LentOk s b → lent_fault s (withdrawn_book (plant_of s) b gone) ≡ 0
  unfolding withdrawn_book book_within
  withdrawn_lent b gone ok =
      let p = plant_of s in
      let mask = less_mask (book_mask b) gone in
      lent_fine s (withdrawn_book p b gone) ok.plant (accepted (given_before s b gone ok))
      (book_alike p mask (kept_within p mask (kept_before p b)))

  -- withdrawals in turn, one or more, come to one of all moves that they name
  in_turn_at_once : (b masks : List ℕ) (first : ℕ) (more : List ℕ) → LentOk s b → masks ≡ first ∷ more →
      withdrawn_in_turn (plant_of s) b masks ≡ withdrawn_book (plant_of s) b (union_of masks)
  unfolding withdrawn_in_turn union_of withdrawn_book
  in_turn_at_once b masks first more ok e =
      let p = plant_of s in
      rw e
      (within_in_turn (given_before s b first ok) (before_allowed p b) more
      ∙ ap (λ n. book_within p n (kept_before p b)) (less_both (book_mask b) first (union_of more)))

  module _ (room drops : ℕ) (roomy : room_fault (plant_of s) room drops ≡ 0) where
    -- a single one with a mask of the plant's moves is accepted
    single_accepted : (b : List ℕ) (gone : ℕ) → lent_fault s b ≡ 0 → mask_ok (plant_of s).moves gone ≡ true →
        withdraw_fault s b gone room drops ≡ 0
    unfolding withdraw_fault mask_fault
    single_accepted b gone lent ok = rw (lent, ok, roomy)

    -- and its book stands
    single_stands : (b : List ℕ) (gone : ℕ) → lent_fault s b ≡ 0 → mask_ok (plant_of s).moves gone ≡ true →
        standing_after s b (record { ask = withdraws gone; room = room; drops = drops }) ≡ withdrawn_book (plant_of s) b gone
    unfolding standing_after answer_of
    single_stands b gone lent ok = rw (single_accepted b gone lent ok)

    -- each is accepted in turn
    each_accepted : (b masks : List ℕ) → lent_fault s b ≡ 0 → each_ok (plant_of s).moves masks ≡ true → (number : ℕ) →
        is_in number (answers s b (singles masks room drops)) ≡ true → number ≡ 0
    unfolding each_ok singles answers answer_of is_in
    each_accepted b [] lent ok number h = absurd (is_in_none number h)
    each_accepted b (gone ∷ more) lent ok number h =
        let here = and_left (mask_ok (plant_of s).moves gone) _ ok in
        let later = and_right (mask_ok (plant_of s).moves gone) _ ok in
        elim (or_cases (eqb number (withdraw_fault s b gone room drops)) _ h) [
          | inl e ↦ eqb-true number _ e ∙ single_accepted b gone lent here
          | inr e ↦
              each_accepted (withdrawn_book (plant_of s) b gone) more (withdrawn_lent b gone (lent_ok s b lent)) later
              number (rw (single_stands b gone lent here) at e)
        ]

    -- and the last book stands
    last_stands : (b masks : List ℕ) → lent_fault s b ≡ 0 → each_ok (plant_of s).moves masks ≡ true →
        standing s b (singles masks room drops) ≡ withdrawn_in_turn (plant_of s) b masks
    unfolding each_ok singles standing withdrawn_in_turn
    last_stands b [] lent ok = refl
    last_stands b (gone ∷ more) lent ok =
        let here = and_left (mask_ok (plant_of s).moves gone) _ ok in
        let later = and_right (mask_ok (plant_of s).moves gone) _ ok in
        ap (λ a. standing s a (singles more room drops)) (single_stands b gone lent here)
        ∙ last_stands (withdrawn_book (plant_of s) b gone) more (withdrawn_lent b gone (lent_ok s b lent)) later

-- the book of an accepted list is that of one withdrawal
pub list_book : (s b m : List ℕ) → lent_fault s b ≡ 0 → whole_masks m ≡ true →
    withdrawn_list (plant_of s) b m ≡ withdrawn_book (plant_of s) b (union_of (masks_of m))
unfolding withdrawn_list
list_book s b m lent whole =
    let some = some_mask m whole in
    in_turn_at_once s b (masks_of m) some.0 some.1 (lent_ok s b lent) some.2

-- request (vi)
pub in_turn_lem : InTurn
unfolding masks_of mask_at withdrawn_list
in_turn_lem =
    record {
      masks_are = λ m k h. rw (ne_eqb (length m) 0 (λ e. absurd (omega (arith, e, h)))) (masks_at (length m / 4) k m h);
      masks_count = λ m h. rw (ne_eqb (length m) 0 (λ e. absurd (omega (arith, e, h)))) (masks_long (length m / 4) m);
      no_masks = refl;
      each_accepted = λ s b m room drops h.
          let parts = list_parts s b m room drops h in
          each_accepted s room drops parts.2 b (masks_of m) parts.0 (list_masks s b m room drops h).1;
      stands = λ s b m room drops h.
          let parts = list_parts s b m room drops h in
          last_stands s room drops parts.2 b (masks_of m) parts.0 (list_masks s b m room drops h).1;
      at_once = λ s b m room drops h. (list_at_once s b m room drops h, book s b m room drops h);
      named = union_names;
      right = λ s b m room drops h.
          rw (book s b m room drops h)
          (demand_2.withdrawn s b (union_of (masks_of m)) room drops (list_at_once s b m room drops h));
      dropped = λ s b m room drops h x.
          rw (book s b m room drops h)
          (demand_2.dropped s b (union_of (masks_of m)) room drops (list_at_once s b m room drops h) x);
      adds_up = λ s b m room drops h.
          rw (book s b m room drops h)
          (demand_2.adds_up s b (union_of (masks_of m)) room drops (list_at_once s b m room drops h));
    }
  where
    book : (s b m : List ℕ) (room drops : ℕ) → withdraw_list_fault s b m room drops ≡ 0 →
        withdrawn_list (plant_of s) b m ≡ withdrawn_book (plant_of s) b (union_of (masks_of m))
    book s b m room drops h =
        list_book s b m (list_parts s b m room drops h).0 (list_masks s b m room drops h).0
