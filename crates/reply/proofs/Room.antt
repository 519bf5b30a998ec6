-- The answer lies within the buffer, and one of 200,000 bytes has room for every answer. Assumes nothing.
use mathlib.Core.Path.{◌≡◌}
use mathlib.Core.Logic.{inl, inr}
use mathlib.Core.Bool.{Bool, true, false, ◌&&◌, not}
use mathlib.Core.List.{List}
use Prim.Native.Nat.{ℕ, zero, suc, ◌≤◌}
use native.Mathlib.Omega.{arith}
use lib.Dec.{eqb}
use lib.ListN.{length, take}
use borrow.Author.Tests.{leb-true, eqb-true, le-leb}
use Rattle.statements.specs.Plants.{Plant, plant_of, head_ok, labels_ok, arrows_ok, first_of, when, plant_fault}
use Rattle.statements.specs.Books.{mask_at, mask_ok, each_ok, less_mask, made_book, union_of}
use Rattle.sets.proofs.Tests.{decided, and_left}
use Rattle.sets.proofs.Over.{over_back}
use Rattle.decoding.proofs.Masks.{less_ok}
use Rattle.decoding.proofs.Faults.{PlantOk, plant_ok}
use Rattle.demands.proofs.Plants.{given_allowed}
use Rattle.demands.proofs.Books.{is_book}
use Rattle.demands.proofs.Afresh.{made_accepted, in_turn_afresh}
use Rattle.listing.specs.Text.{newline, listing, refused_text, bad_masks_text}
use Rattle.listing.specs.Buffers.{has_room, placed, placed_long}
use Rattle.listing.proofs.Digits.{figure_few}
use Rattle.listing.proofs.Texts.{text_most, listed}
use Rattle.reply.specs.Reply.{plant_part, mask_part, masks_ok, other_masks, in_turn, outcome_text, masks_text, reply_to}
use Rattle.reply.specs.Laws.{FewBytes}

-- what is written of a text lies within the buffer
pub placed_within : (text o : List ℕ) {r : ℕ} → r ≡ placed_long text o → r ≤ length o
unfolding placed_long has_room
placed_within text o {r} e =
    elim (decided (has_room text o)) [
      | inl h ↦ let long = rw h at e in omega (arith, leb-true (length text) (length o) h)
      | inr h ↦ let none = rw h at e in omega arith
    ]

-- where there is room all of it is written, and what is written is the text
pub placed_all : (text o : List ℕ) {r : ℕ} {o' : List ℕ} → length text ≤ length o → r ≡ placed_long text o
    → o' ≡ placed text o → take r o' ≡ text
unfolding placed_long placed has_room
placed_all text o {r} {o'} room long bytes =
    let fits = le-leb (length text) (length o) room in
    rw (rw fits at bytes) (over_back text o r (rw fits at long))

-- a refusal of at most k, if there is one
when_most : (t : Bool) (n k : ℕ) → n ≤ k → when t n ≤ k
when_most true n k h = h
when_most false n k h = omega arith

-- the first of two refusals
first_most : (a b k : ℕ) → a ≤ k → b ≤ k → first_of a b ≤ k
first_most zero b k h g = g
first_most (suc a) b k h g = h

-- a plant's refusal is at most 3
fault_most : (s : List ℕ) → plant_fault s ≤ 3
unfolding plant_fault
fault_most s =
    let p = plant_of s in
    let labels = not (labels_ok p.settles p.goals p.labels) in
    let arrows = not (arrows_ok p.states p.moves 0 p.arrows) in
    first_most (when (not (head_ok s)) 1) (first_of (when labels 2) (when arrows 3)) 3
    (when_most (not (head_ok s)) 1 3 (omega arith))
    (first_most (when labels 2) (when arrows 3) 3 (when_most labels 2 3 (omega arith))
    (when_most arrows 3 3 (omega arith)))

-- a refusal's text is short
refused_most : (n : ℕ) → n ≤ 6 → length (refused_text n) ≤ 200000
unfolding refused_text newline
refused_most n h = omega (arith, figure_few n newline (omega arith))

module _ (p : Plant) (ok : PlantOk p) where
  -- the listing of a book of a making
  made_most : (mask : ℕ) → mask_ok p.moves mask ≡ true → length (listing (made_book p mask)) ≤ 200000
  unfolding made_book
  made_most mask h =
      let accepted = made_accepted p ok mask h in
      rw (listed (made_book p mask) accepted)
      (text_most (made_book p mask) (is_book (given_allowed p mask ok h)).bytes accepted)

  module _ (m : List ℕ) where
    -- the masks in turn
    in_turn_most : length (outcome_text (in_turn p m)) ≤ 200000
    unfolding in_turn outcome_text
    in_turn_most =
        let first = mask_at m 0 in
        let others = other_masks m in
        elim (decided (mask_ok p.moves first && each_ok p.moves others)) [
          | inl e ↦
              let ok_first = and_left (mask_ok p.moves first) _ e in
              rw (e, in_turn_afresh p ok first ok_first others)
              (made_most (less_mask first (union_of others)) (less_ok p.moves first (union_of others) ok_first))
          | inr e ↦ rw e (refused_most 6 (omega arith))
        ]

    -- the answer for an accepted plant
    masks_most : length (masks_text p m) ≤ 200000
    unfolding masks_text bad_masks_text
    masks_most =
        elim (decided (masks_ok m)) [
          | inl e ↦ rw e in_turn_most
          | inr e ↦ rw e (omega arith)
        ]

-- the longest answer
pub reply_most : FewBytes
unfolding reply_to
reply_most input =
    let s = plant_part input in
    elim (decided (eqb (plant_fault s) 0)) [
      | inl e ↦ rw e (masks_most (plant_of s) (plant_ok s (eqb-true (plant_fault s) 0 e)) (mask_part input))
      | inr e ↦ rw e (refused_most (plant_fault s) (omega (arith, fault_most s)))
    ]
