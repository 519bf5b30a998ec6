-- Withdrawing from a book within some allowed states gives the book within them for fewer moves, and so withdrawing
-- from the book of a making is making afresh: the states kept with fewer moves in service are among those kept with
-- more, so that a strategy which may not leave the latter loses nothing. A return makes afresh whatever the book keeps,
-- for the moves in service there and its own. Assumes nothing.
use mathlib.Core.Path.{◌≡◌, sym, ap, ◌∙◌}
use mathlib.Core.Bool.{Bool, true, not}
use mathlib.Core.List.{List, [], ◌∷◌}
use Prim.Native.Nat.{ℕ}
use lib.Bits.{bit_or}
use borrow.Author.Tests.{not-true}
use Rattle.statements.specs.Sets.{is_in}
use Rattle.statements.specs.Plants.{Plant, allowed}
use Rattle.statements.specs.Kept.{kept_within}
use Rattle.statements.specs.Books.{book_bytes, is_lost, book_fault, mask_ok, less_mask, kept_before}
use Rattle.statements.specs.Books.{book_within, made_book, withdrawn_book, union_of, withdrawn_in_turn, returned_book}
use Rattle.statements.specs.Calls.{alike}
use Rattle.sets.proofs.Tests.{and_true, and_left, and_right}
use Rattle.kept.proofs.Kept.{kept_within_lem, kept_more, kept_between}
use Rattle.decoding.proofs.Masks.{less_bit, less_ok, less_none, less_both}
use Rattle.decoding.proofs.Header.{same_mask}
use Rattle.decoding.proofs.Accepted.{book_alike}
use Rattle.decoding.proofs.Faults.{PlantOk, allowed_below}
use Rattle.demands.proofs.Plants.{Given, given_allowed, some_goal}
use Rattle.demands.proofs.Rows.{lost_kept, book_mask_lem}
use Rattle.demands.proofs.Books.{accepted}

-- equal books of makings have the same moves in service
pub made_same : (p : Plant) (m n : ℕ) → made_book p m ≡ made_book p n → m ≡ n
unfolding made_book book_within
made_same p m n e = same_mask p m n (kept_within p m (allowed p)) (kept_within p n (allowed p)) e

-- the book of a making is for as many states, moves and goals as the plant has
pub made_alike : (p : Plant) (m : ℕ) → alike p (made_book p m) ≡ true
unfolding made_book book_within
made_alike p m = book_alike p m (kept_within p m (allowed p))

module _ {p : Plant} {m : ℕ} {within : ℕ → Bool} (given : Given p m within)
    (inside : (x : ℕ) → within x ≡ true → allowed p x ≡ true) where
  -- the allowed states that the book within some of them keeps are among these
  kept_inside : (x : ℕ) → kept_before p (book_within p m within) x ≡ true → within x ≡ true
  unfolding kept_before
  kept_inside x h =
      let below = allowed_below p given.plant x (and_left (allowed p x) _ h) in
      let lost = not-true (is_lost (book_within p m within) x) (and_right (allowed p x) _ h) in
      (kept_within_lem p m within x ((lost_kept given x below).0 lost)).1

  -- what is kept with fewer moves in service is kept in it
  still_before :
      (gone x : ℕ) → is_in x (kept_within p (less_mask m gone) within) ≡ true →
      kept_before p (book_within p m within) x ≡ true
  unfolding kept_before
  still_before gone x h =
      let r = kept_within_lem p (less_mask m gone) within x h in
      let k =
      kept_more p (less_mask m gone) m within within (some_goal given) (λ u e. (less_bit u m gone e).0) (λ y e. e) x h in
      and_true (inside x r.1) (ap not ((lost_kept given x r.0).1 k))

  -- withdrawing from it gives the book within the same states
  pub withdrawn_within :
      (gone : ℕ) → withdrawn_book p (book_within p m within) gone ≡ book_within p (less_mask m gone) within
  unfolding withdrawn_book book_within
  withdrawn_within gone =
      rw (book_mask_lem given)
      (ap (book_bytes p (less_mask m gone))
      (kept_between p (less_mask m gone) (kept_before p (book_within p m within)) within (some_goal given) kept_inside
      (still_before gone)))

-- and so do withdrawals in turn, for the moves that none of them names
pub within_in_turn :
    {p : Plant} {m : ℕ} {within : ℕ → Bool} (given : Given p m within) →
    ((x : ℕ) → within x ≡ true → allowed p x ≡ true) → (masks : List ℕ) →
    withdrawn_in_turn p (book_within p m within) masks ≡ book_within p (less_mask m (union_of masks)) within
unfolding withdrawn_in_turn union_of
within_in_turn {p = p} {m = m} {within = within} given inside [] = ap (λ n. book_within p n within) (sym (less_none m))
within_in_turn {p = p} {m = m} {within = within} given inside (gone ∷ more) =
    let left : Given p (less_mask m gone) within =
    record {
      plant = given.plant;
      mask_ok_lem = less_ok p.moves m gone given.mask_ok_lem;
      below = given.below;
    } in
    ap (λ b. withdrawn_in_turn p b more) (withdrawn_within given inside gone)
    ∙ within_in_turn {m = less_mask m gone} left inside more
    ∙ ap (λ n. book_within p n within) (less_both m gone (union_of more))

module _ (p : Plant) (ok : PlantOk p) (m : ℕ) (mask_ok_lem : mask_ok p.moves m ≡ true) where
  -- the book of a making is accepted
  pub made_accepted : book_fault (made_book p m) ≡ 0
  unfolding made_book
  made_accepted = accepted (given_allowed p m ok mask_ok_lem)

  -- withdrawing from it is making afresh
  pub withdrawn_afresh : (gone : ℕ) → withdrawn_book p (made_book p m) gone ≡ made_book p (less_mask m gone)
  unfolding made_book
  withdrawn_afresh gone = withdrawn_within (given_allowed p m ok mask_ok_lem) (λ x e. e) gone

  -- and so it is in turn
  pub in_turn_afresh :
      (masks : List ℕ) → withdrawn_in_turn p (made_book p m) masks ≡ made_book p (less_mask m (union_of masks))
  unfolding made_book
  in_turn_afresh masks = within_in_turn (given_allowed p m ok mask_ok_lem) (λ x e. e) masks

  -- and moves returned to it
  pub returned_afresh : (back : ℕ) → returned_book p (made_book p m) back ≡ made_book p (bit_or m back)
  unfolding returned_book made_book
  returned_afresh back = ap (λ n. made_book p (bit_or n back)) (book_mask_lem (given_allowed p m ok mask_ok_lem))
