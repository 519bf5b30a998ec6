-- Moves returned: the book is that of a making for more moves, so that it keeps what a book of a making with fewer
-- keeps; the list is a drop list with the books in the other order; what a withdrawal took away comes back. Assumes
-- nothing.
use mathlib.Core.Path.{◌≡◌, refl, sym, ap, ◌∙◌}
use mathlib.Core.Logic.{◌↔◌, inl}
use mathlib.Core.Bool.{true, false}
use mathlib.Core.List.{List}
use Prim.Native.Nat.{ℕ, ◌+◌, ◌<◌}
use native.Mathlib.Omega.{arith}
use lib.ListN.{length}
use lib.Bits.{bit_or}
use Rattle.statements.specs.Sets.{is_in}
use Rattle.statements.specs.Plants.{plant_of, allowed}
use Rattle.statements.specs.Books.{book_count, book_mask, is_lost, less_mask, made_book, withdrawn_book, returned_book}
use Rattle.statements.specs.Books.{dropped_states, gained_states}
use Rattle.statements.specs.Calls.{make_fault, return_fault}
use Rattle.statements.specs.Demands.{Allowed, Right, Returning}
use Rattle.kept.proofs.Kept.{kept_more}
use Rattle.decoding.proofs.Masks.{less_ok, less_or, or_names}
use Rattle.decoding.proofs.Faults.{plant_ok, make_ok, return_make}
use Rattle.demands.proofs.Plants.{given_made, some_goal}
use Rattle.demands.proofs.Rows.{lost_kept}
use Rattle.demands.proofs.Demand2.{dropped_iff, dropped_rising, parts_add_up, demand_2}
use Rattle.demands.proofs.Afresh.{withdrawn_afresh, returned_afresh}

-- the states gained are those that would be dropped on the way back
pub gained_dropped : (b after : List ℕ) → gained_states b after ≡ dropped_states after b
unfolding gained_states dropped_states
gained_dropped b after = refl

-- the book of an accepted return is right
returned_right : (s b : List ℕ) (back room gained : ℕ) → return_fault s b back room gained ≡ 0
    → Right (plant_of s) (bit_or (book_mask b) back) (Allowed (plant_of s)) (returned_book (plant_of s) b back)
unfolding returned_book
returned_right s b back room gained h = demand_2.made s _ room (return_make s b back room gained h)

-- and its list has the states kept now and not before
gained_iff : (s b : List ℕ) (back room gained : ℕ) → return_fault s b back room gained ≡ 0 → (x : ℕ)
    → let after = returned_book (plant_of s) b back in
    (is_in x (gained_states b after) ≡ true)
    ↔ ((x < (plant_of s).states) × (is_lost b x ≡ true) × (is_lost after x ≡ false))
gained_iff s b back room gained h x =
    let after = returned_book (plant_of s) b back in
    let states = (returned_right s b back room gained h).is_book.states in
    let one = rw (states, ← gained_dropped b after) at (dropped_iff after b x) in
    (λ e. let r = one.0 e in (r.0, r.2, r.1), λ r. one.1 (r.0, r.2, r.1))

-- the book of a making
module _ (s : List ℕ) (mask room : ℕ) (h : make_fault s mask room ≡ 0) where
  abbrev Before : List ℕ
  Before = made_book (plant_of s) mask

  -- moves returned to it are put beside its own
  returned : (back : ℕ) → returned_book (plant_of s) Before back ≡ made_book (plant_of s) (bit_or mask back)
  returned back =
      let ok = make_ok s mask room h in
      returned_afresh (plant_of s) (plant_ok s ok.plant) mask ok.mask_ok_lem back

  module _ (back next_room gained : ℕ) (g : return_fault s Before back next_room gained ≡ 0) where
    -- its mask is read back
    mask_is : book_mask Before ≡ mask
    mask_is = (demand_2.made s mask room h).is_book.mask_is

    -- a making with both is accepted
    next : make_fault s (bit_or mask back) next_room ≡ 0
    next = rw mask_is at (return_make s Before back next_room gained g)

    -- and keeps what it keeps
    still_kept : (x : ℕ) → x < (plant_of s).states → is_lost Before x ≡ false
        → is_lost (returned_book (plant_of s) Before back) x ≡ false
    unfolding made_book
    still_kept x hx e =
        let p = plant_of s in
        let before = (lost_kept (given_made s mask room h) x hx).0 e in
        let now =
        kept_more p mask (bit_or mask back) (allowed p) (allowed p) (some_goal (given_made s mask room h))
        (λ u e. (or_names mask back u).1 (inl e)) (λ y e. e) x before in
        ap (λ b. is_lost b x) (returned back)
        ∙ (lost_kept (given_made s (bit_or mask back) next_room next) x hx).1 now

    adds_up :
        let after = returned_book (plant_of s) Before back in
        book_count Before + length (gained_states Before after) ≡ book_count after
    adds_up =
        let after = returned_book (plant_of s) Before back in
        let one = (demand_2.made s mask room h).is_book in
        let two = (returned_right s Before back next_room gained g).is_book in
        let parts =
        parts_add_up after Before (two.states ∙ sym one.states)
        (λ x hx e. still_kept x (omega (arith, hx, two.states)) e) in
        omega (arith, parts, one.count, two.count, ap length (gained_dropped Before after))

  -- moves in service withdrawn from it and returned
  undone : (gone : ℕ) → bit_or mask gone ≡ mask
      → let after = withdrawn_book (plant_of s) Before gone in
      let again = returned_book (plant_of s) after gone in
      (again ≡ Before) × (gained_states after again ≡ dropped_states Before after)
  undone gone e =
      let p = plant_of s in
      let ok = make_ok s mask room h in
      let plant = plant_ok s ok.plant in
      let after = withdrawn_book p Before gone in
      let less = less_mask mask gone in
      let again : returned_book p after gone ≡ Before =
      ap (λ b. returned_book p b gone) (withdrawn_afresh p plant mask ok.mask_ok_lem gone)
      ∙ returned_afresh p plant less (less_ok p.moves mask gone ok.mask_ok_lem) gone
      ∙ ap (made_book p) (less_or mask gone ∙ e) in
      (again, ap (gained_states after) again ∙ gained_dropped after Before)

-- request (vii)
pub returning : Returning
unfolding returned_book
returning =
    record {
      afresh = λ s b back room gained h. (return_make s b back room gained h, refl);
      named = or_names;
      right = returned_right;
      gained = gained_iff;
      rising = λ b after. rw (gained_dropped b after) (dropped_rising after b);
      still_kept = λ s mask room back next_room gained h g. still_kept s mask room h back next_room gained g;
      adds_up = λ s mask room back next_room gained h g. adds_up s mask room h back next_room gained g;
      undone = λ s mask room gone h e. undone s mask room h gone e;
    }
