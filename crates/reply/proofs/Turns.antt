-- The masks in turn come to one making: a bad mask shows in all of them joined, and good ones leave the moves of the
-- first less those that the others name. Assumes nothing.
use mathlib.Core.Path.{◌≡◌, sym, ap, ◌∙◌}
use mathlib.Core.Logic.{inl, inr}
use mathlib.Core.Bool.{true, false, ◌&&◌}
use mathlib.Core.List.{List, ◌∷◌, append-nil}
use Prim.Native.Nat.{ℕ, ◌-◌, ◌/◌, ◌%◌, ◌≤◌}
use native.Mathlib.Omega.{arith}
use lib.Bits.{bit_and}
use lib.ListN.{length, take, drop, length-drop}
use lib.Seq.{drop-length}
use borrow.Author.Tests.{leb-true, le-leb, eq-eqb, eqb-true, ne_eqb}
use Rattle.statements.specs.Sets.{over}
use Rattle.statements.specs.Plants.{Plant, plant_of, plant_fault, allowed}
use Rattle.statements.specs.Books.{book_long, mask_at, mask_ok, each_ok, less_mask, made_book, masks_of, union_of}
use Rattle.statements.specs.Calls.{mask_fault, book_room, make_fault, told_of}
use Rattle.sets.proofs.Tests.{and_iff, and_left, same_number}
use Rattle.decoding.proofs.Masks.{less_ok, union_ok}
use Rattle.decoding.proofs.Header.{within_length}
use Rattle.decoding.proofs.Faults.{first_given, plant_ok, make_told}
use Rattle.demands.proofs.Afresh.{in_turn_afresh}
use Rattle.demands.proofs.InTurn.{first_mask}
use Rattle.format.proofs.Unions.{rest_is, union_is}
use Rattle.promises.specs.Answers.{Answer}
use Rattle.promises.specs.Says.{MakeSays}
use Rattle.reply.specs.Reply.{masks_ok, other_masks, in_turn}
use Rattle.reply.specs.Steps.{Ready, outcome_of, came_to}

-- good masks are 1 to 16, and whole
pub masks_few : (m : List ℕ) → masks_ok m ≡ true → (4 ≤ length m) × (length m ≤ 64) × (length m % 4 ≡ 0)
unfolding masks_ok
masks_few m good =
    let tests = simp and_iff at good in
    (omega (arith, leb-true), omega (arith, leb-true), omega (arith, eqb-true))

module _ (m : List ℕ) where
  -- the part of the masks after the first names what the others name, also if there are none
  pub others_union : union_of (masks_of (take (length m - 4) (drop 4 m))) ≡ union_of (other_masks m)
  unfolding other_masks
  others_union =
      let count : (length m - 4) / 4 ≡ length m / 4 - 1 = omega arith in
      ap (λ (l : List ℕ). union_of (masks_of l)) (rest_is m 4) ∙ sym (union_is (drop 4 m)) ∙ rw (length-drop, count)

  module _ (good : masks_ok m ≡ true) where
    -- good masks are the first and the others
    masks_are : masks_of m ≡ mask_at m 0 ∷ other_masks m
    unfolding other_masks
    masks_are =
        let few = masks_few m good in
        first_mask m (length m / 4 - 1) (ne_eqb (length m) 0 (λ z. omega arith)) (omega arith)

    -- all of them joined have moves below u alone just when each has
    pub all_ok : (u : ℕ) → mask_ok u (union_of (masks_of m)) ≡ (mask_ok u (mask_at m 0) && each_ok u (other_masks m))
    unfolding each_ok
    all_ok u = union_ok u (masks_of m) ∙ ap (each_ok u) masks_are

-- bytes written over a buffer of just their length
over_all : (xs o : List ℕ) → length o ≡ length xs → over xs o ≡ xs
unfolding over
over_all xs o e = rw (← e, drop-length o) (append-nil xs)

-- the book of a making is as long as any book of the plant
made_length : (p : Plant) (mask : ℕ) → length (made_book p mask) ≡ book_long p.settles p.states p.goals
unfolding made_book
made_length p mask = within_length p mask (allowed p)

module _ {s b : List ℕ} (ready : Ready s b) (m : List ℕ) (good : masks_ok m ≡ true) where
  -- the plant is refused: so is any making
  plant_first : {mask : ℕ} {b' : List ℕ} {r : Answer} → MakeSays s mask b b' r → (plant_fault s ≡ 0 → ⊥)
      → outcome_of s m ≡ came_to r.number b'
  unfolding outcome_of came_to make_fault
  plant_first says h =
      let number = says.writes.number ∙ first_given (plant_fault s) _ h in
      rw (number, ne_eqb (plant_fault s) 0 h)

  -- one mask is bad: a making with all moves of the masks is refused
  pub turned_refused : {all : ℕ} {b' : List ℕ} {r : Answer} → all ≡ union_of (masks_of m)
      → mask_ok (plant_of s).moves (union_of (masks_of m)) ≡ false → MakeSays s all b b' r
      → outcome_of s m ≡ came_to r.number b'
  unfolding outcome_of in_turn came_to told_of mask_fault
  turned_refused {all} {b'} {r} e bad says =
      elim (same_number (plant_fault s) 0) [
        | inl z ↦
            let six : r.number ≡ 6 = says.writes.number ∙ make_told s all (length b) 0 z ∙ rw (e, bad) in
            rw (six, eq-eqb (plant_fault s) 0 z, ← all_ok m good, bad)
        | inr h ↦ plant_first says h
      ]

  -- all are good: a making with the moves of the first less those that the others name
  module _ (fine : mask_ok (plant_of s).moves (union_of (masks_of m)) ≡ true) {first gone : ℕ}
      (is_first : first ≡ mask_at m 0) (is_gone : gone ≡ union_of (masks_of (take (length m - 4) (drop 4 m))))
      {b' : List ℕ} {r : Answer} (says : MakeSays s (first - bit_and first gone) b b' r) where
    both : (mask_ok (plant_of s).moves (mask_at m 0) && each_ok (plant_of s).moves (other_masks m)) ≡ true
    both = sym (all_ok m good (plant_of s).moves) ∙ fine

    first_ok : mask_ok (plant_of s).moves (mask_at m 0) ≡ true
    first_ok = and_left (mask_ok (plant_of s).moves (mask_at m 0)) _ both

    -- the moves in service
    abbrev Left : ℕ
    Left = less_mask (mask_at m 0) (union_of (other_masks m))

    left_is : first - bit_and first gone ≡ Left
    unfolding less_mask
    left_is = rw (is_first, is_gone, others_union m)

    -- it is accepted, if the plant is
    accepted : plant_fault s ≡ 0 → r.number ≡ 0
    unfolding told_of mask_fault book_room
    accepted z =
        let p = plant_of s in
        let left_ok : mask_ok p.moves (first - bit_and first gone) ≡ true =
        rw left_is (less_ok p.moves (mask_at m 0) (union_of (other_masks m)) first_ok) in
        says.writes.number
        ∙ make_told s (first - bit_and first gone) (length b) 0 z
        ∙ rw (left_ok, le-leb (book_long p.settles p.states p.goals) (length b) (omega (arith, ready.long)))

    -- and leaves the book of the withdrawals in turn
    pub turned_made : outcome_of s m ≡ came_to r.number b'
    unfolding outcome_of in_turn came_to
    turned_made =
        let p = plant_of s in
        elim (same_number (plant_fault s) 0) [
          | inl z ↦
              let wrote : b' ≡ made_book p Left =
              (rw (eq-eqb r.number 0 (accepted z), left_is) at says.writes.book)
              ∙ over_all (made_book p Left) b (ready.long ∙ sym (made_length p Left)) in
              rw (
                eq-eqb (plant_fault s) 0 z,
                both,
                accepted z,
                wrote,
                in_turn_afresh p (plant_ok s z) (mask_at m 0) first_ok (other_masks m),
              )
          | inr h ↦ plant_first says h
        ]
