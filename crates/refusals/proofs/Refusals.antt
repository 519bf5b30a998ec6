-- What the calls return, case by case, in the order of the checks. Assumes nothing.
use mathlib.Core.Path.{◌≡◌, refl, sym, ap, ◌∙◌}
use mathlib.Core.Logic.{inl, inr}
use mathlib.Core.Bool.{Bool, true, false, ◌&&◌, ◌||◌, not}
use mathlib.Core.List.{List}
use Prim.Native.Nat.{ℕ, zero, suc, ◌+◌, ◌*◌, ◌<◌}
use lib.Dec.{eqb, leb}
use lib.ListN.{length, get_or}
use borrow.Author.Tests.{eqb-true, eq-eqb}
use Rattle.refusal.specs.declared.Refusal.{Refusal}
use Rattle.refusal.specs.Numbers.{number_of}
use Rattle.refusal.proofs.Refused.{some_refusal}
use Rattle.statements.specs.Plants.{word, Plant, first_of, when, plant_of, head_ok, plant_fault}
use Rattle.statements.specs.Books.{mask_ok, book_head_ok, rows_ok, book_fault, masks_of, union_of}
use Rattle.statements.specs.Calls.{mask_fault, whole_masks, masks_fault, book_room, room_fault, make_fault, alike, lent_fault}
use Rattle.statements.specs.Calls.{withdraw_fault, withdraw_list_fault, by_index, indexing_fault, told_of}
use Rattle.statements.specs.Index.{index_long, index_fault, index_bytes, same_bytes}
use Rattle.sets.proofs.Tests.{decided, same_test, and_true, and_iff}
use Rattle.decoding.proofs.Faults.{first_iff, when_iff, first_given, first_passed, list_as, make_told}
use Rattle.decoding.proofs.Order.{arrows_length}
use Rattle.rows.proofs.Faults.{fault_4, fault_5, no_book_fault}
use Rattle.index.specs.Checked.{ascends}

-- of two checks the first stands where it refuses, and otherwise the second
pub first_err : (why : Refusal) {a : ℕ} (b : ℕ) → number_of why ≡ a → number_of why ≡ first_of a b
first_err why b f = f ∙ sym (first_given _ b (λ z. some_refusal why (f ∙ z)))

pub first_ok : {a n : ℕ} (b : ℕ) → 0 ≡ a → n ≡ b → n ≡ first_of a b
first_ok b none e = e ∙ sym (first_passed _ b (sym none))

-- once what is lent is accepted: 6 for a bad mask, and for a good one 7 or 0 by the room
module _ (p : Plant) (mask : ℕ) (room : Bool) where
  abbrev Told : ℕ
  Told = first_of (mask_fault p mask) (when (not room) 7)

  pub told_6 : mask_ok p.moves mask ≡ false → Told ≡ 6
  unfolding mask_fault
  told_6 m = rw m

  pub told_room : mask_ok p.moves mask ≡ true → Told ≡ when (not room) 7
  unfolding mask_fault
  told_room m = rw m

-- make returns the plant's own answer
pub make_plant : (s : List ℕ) (mask room : ℕ) → (plant_fault s ≡ 0 → ⊥) → make_fault s mask room ≡ plant_fault s
unfolding make_fault
make_plant s mask room h = first_given (plant_fault s) _ h

-- or, the plant being accepted, 6, and for a good mask 7 or 0
module _ (s : List ℕ) (mask room : ℕ) (plant : plant_fault s ≡ 0) where
  pub make_6 : mask_ok (plant_of s).moves mask ≡ false → make_fault s mask room ≡ 6
  unfolding told_of
  make_6 m = make_told s mask room 0 plant ∙ told_6 (plant_of s) mask (book_room (plant_of s) room) m

  pub make_room : mask_ok (plant_of s).moves mask ≡ true
      → make_fault s mask room ≡ when (not (book_room (plant_of s) room)) 7
  unfolding told_of
  make_room m = make_told s mask room 0 plant ∙ told_room (plant_of s) mask (book_room (plant_of s) room) m

-- a book's header is good just when its answer is not 4
head_tested : (b : List ℕ) → not (book_head_ok b) ≡ eqb (book_fault b) 4
head_tested b =
    elim (decided (book_head_ok b)) [
      | inl h ↦
          elim (decided (rows_ok b)) [
            | inl r ↦ rw (h, no_book_fault b h r)
            | inr r ↦ rw (h, fault_5 b h r)
          ]
      | inr h ↦ rw (h, fault_4 b h)
    ]

-- a test of two fails when one of them does
not_and : (a b : Bool) → not (a && b) ≡ (not a || not b)
not_and true b = refl
not_and false b = refl

-- a book's answer is 4, as its header tells, or the book is for other numbers of states, moves or goals than the plant
-- has
abbrev Unlike : List ℕ → List ℕ → Bool
Unlike s b = eqb (book_fault b) 4 || not (alike (plant_of s) b)

unlike : (s b : List ℕ) → not (book_head_ok b && alike (plant_of s) b) ≡ Unlike s b
unlike s b = not_and (book_head_ok b) _ ∙ ap (λ (t : Bool). t || not (alike (plant_of s) b)) (head_tested b)

-- for what is lent, the plant's own answer is returned
module _ (s b : List ℕ) where
  pub lent_plant : (plant_fault s ≡ 0 → ⊥) → lent_fault s b ≡ plant_fault s
  unfolding lent_fault
  lent_plant h = first_given (plant_fault s) _ h

  -- or, the plant being accepted, 4 for a book unlike it, and for one like it the book's own answer
  module _ (plant : plant_fault s ≡ 0) where
    pub lent_4 : Unlike s b ≡ true → lent_fault s b ≡ 4
    unfolding lent_fault
    lent_4 u = rw (plant, unlike s b, u)

    pub lent_book : Unlike s b ≡ false → lent_fault s b ≡ book_fault b
    unfolding lent_fault
    lent_book u = rw (plant, unlike s b, u)

-- for a list of masks, what is lent being accepted, 9 is returned, and for a whole one the answer to all its masks
-- joined
module _ (s b m : List ℕ) (room drops : ℕ) (lent : lent_fault s b ≡ 0) where
  pub list_9 : whole_masks m ≡ false → withdraw_list_fault s b m room drops ≡ 9
  unfolding withdraw_list_fault masks_fault
  list_9 w = rw (lent, w)

  pub list_given : whole_masks m ≡ true
      → withdraw_list_fault s b m room drops
      ≡ first_of (mask_fault (plant_of s) (union_of (masks_of m))) (room_fault (plant_of s) room drops)
  unfolding withdraw_fault
  list_given w = list_as s b m room drops w ∙ first_passed (lent_fault s b) _ lent

-- building an index returns, the plant being accepted, 7 or 0 by the room
pub indexing_room : (s : List ℕ) (room count : ℕ) → plant_fault s ≡ 0 → count ≡ word 3 s
    → indexing_fault s room ≡ when (not (leb (8 + 2 * count) room)) 7
unfolding indexing_fault index_long
indexing_room s room count fine e = rw (fine, arrows_length s, e)

-- it is accepted exactly if the plant is and there is room
pub indexing_exactly : (s : List ℕ) (room : ℕ)
    → (eqb (plant_fault s) 0 && leb (index_long (length (plant_of s).arrows)) room) ≡ eqb (indexing_fault s room) 0
unfolding indexing_fault
indexing_exactly s room =
    let fits = leb (index_long (length (plant_of s).arrows)) room in
    same_test (eqb (plant_fault s) 0 && fits) (eqb (indexing_fault s room) 0)
    (λ h.
    let t = (and_iff (eqb (plant_fault s) 0) fits).0 h in
    eq-eqb _ _ ((first_iff (plant_fault s) _).1 (eqb-true _ _ t.0, (when_iff fits 6).1 t.1)))
    (λ h.
    let z = (first_iff (plant_fault s) _).0 (eqb-true _ _ h) in
    and_true (eq-eqb _ _ z.0) ((when_iff fits 6).0 z.1))

-- for an index that is lent, the plant being accepted, 10 is returned where the check of it fails, which is exact
pub lent_10 : (s index : List ℕ) {passed : Bool} → plant_fault s ≡ 0
    → passed ≡ same_bytes index (index_bytes (plant_of s))
    → first_of (plant_fault s) (index_fault (plant_of s) index) ≡ when (not passed) 10
unfolding index_fault
lent_10 s index fine e = first_passed (plant_fault s) _ fine ∙ ap (λ (t : Bool). when (not t) 10) (sym e)

-- a call by an index returns the answer for plant and index, and that of the plain call if there is none
first_first : (a b c : ℕ) → first_of a (first_of b c) ≡ first_of (first_of a b) c
first_first zero b c = refl
first_first (suc a) b c = refl

module _ (s index : List ℕ) (plain : ℕ) {wrong : ℕ}
    (lent : wrong ≡ first_of (plant_fault s) (index_fault (plant_of s) index)) where
  by_lent : by_index s index plain ≡ first_of wrong plain
  unfolding by_index
  by_lent = first_first (plant_fault s) (index_fault (plant_of s) index) plain ∙ ap (λ (n : ℕ). first_of n plain) (sym lent)

  pub by_given : (wrong ≡ 0 → ⊥) → wrong ≡ by_index s index plain
  by_given some = sym (by_lent ∙ first_given wrong plain some)

  pub by_passed : wrong ≡ 0 → by_index s index plain ≡ plain
  by_passed none = by_lent ∙ first_passed wrong plain none
