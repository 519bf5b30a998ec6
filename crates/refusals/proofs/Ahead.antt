-- What it is that a call passes the checks ahead of loading: its answer is then that of the plant alone.
-- Assumes nothing.
use mathlib.Core.Path.{◌≡◌, refl, sym, ◌∙◌}
use mathlib.Core.Logic.{◌↔◌}
use mathlib.Core.Bool.{Bool, true, ◌&&◌, not}
use mathlib.Core.List.{List}
use Prim.Native.Nat.{ℕ, zero, suc, ◌≤◌}
use native.Mathlib.Omega.{arith}
use lib.Dec.{eqb}
use borrow.Author.Tests.{eqb-true, eq-eqb}
use Rattle.statements.specs.Plants.{first_of, when, plant_of, plant_fault, head_ok}
use Rattle.statements.specs.Books.{book_states, book_head_ok, mask_ok, book_fault, masks_of, union_of}
use Rattle.statements.specs.Calls.{mask_fault, whole_masks, book_room, drop_room, room_fault, make_fault, alike, lent_fault}
use Rattle.statements.specs.Calls.{withdraw_fault, withdraw_list_fault}
use Rattle.sets.proofs.Tests.{and_true, and_left, and_right, and_iff}
use Rattle.decoding.proofs.Faults.{first_iff, when_iff, plant_tests, book_ok, make_ok, withdraw_ok, list_as, list_masks}
use Rattle.decoding.proofs.Faults.{list_at_once}
use Rattle.format.proofs.Header.{plant_states, plant_head}
use Rattle.refusals.specs.Ahead.{make_ahead, withdraw_ahead, list_ahead}

-- the first answer stands if there is no second
first_alone : (a : ℕ) → first_of a 0 ≡ a
first_alone zero = refl
first_alone (suc a) = refl

-- a test that leaves the answer to the plant and that every accepted call passes is, with the plant's, what it takes
exactly : (answer plant : ℕ) (test : Bool) → (test ≡ true → answer ≡ plant) → (answer ≡ 0 → test ≡ true)
    → (answer ≡ 0) ↔ ((test ≡ true) × (plant ≡ 0))
exactly answer plant test left passed = (λ z. (passed z, sym (left (passed z)) ∙ z), λ h. left h.0 ∙ h.1)

-- a plant with a good header has few states
pub plant_few : (s : List ℕ) → head_ok s ≡ true → (plant_of s).states ≤ 1024
plant_few s h = omega (arith, plant_states s, (plant_head s h).sizes.states_most)

-- a make
module _ (s : List ℕ) (mask room : ℕ) where
  -- what it is that it passes
  pub make_parts : make_ahead s mask room ≡ true
      → (head_ok s ≡ true) × (mask_ok (plant_of s).moves mask ≡ true) × (book_room (plant_of s) room ≡ true)
  unfolding make_ahead
  make_parts h =
      let given = (and_iff (mask_ok (plant_of s).moves mask) _).0 (and_right (head_ok s) _ h) in
      (and_left (head_ok s) _ h, given.0, given.1)

  -- one that passes is answered by the plant
  pub make_left : make_ahead s mask room ≡ true → make_fault s mask room ≡ plant_fault s
  unfolding make_fault mask_fault
  make_left h =
      let t = make_parts h in
      rw (t.1, t.2) (first_alone (plant_fault s))

  -- it is accepted exactly if it passes and the plant is accepted
  pub make_exactly : (make_fault s mask room ≡ 0) ↔ ((make_ahead s mask room ≡ true) × (plant_fault s ≡ 0))
  unfolding make_ahead
  make_exactly =
      exactly (make_fault s mask room) (plant_fault s) (make_ahead s mask room) make_left
      (λ z. let ok = make_ok s mask room z in
      and_true (plant_tests s ok.plant).0 (and_true ok.mask_ok_lem ok.room_ok))

-- what it is that a withdrawal or a return passes
pub record WithdrawPasses (s b : List ℕ) (gone room drops : ℕ) : Type 0 where
  pub make : make_ahead s gone room ≡ true
  pub drops_ok : drop_room (plant_of s) drops ≡ true
  pub alike_ok : alike (plant_of s) b ≡ true
  pub book : book_fault b ≡ 0

module _ (s b : List ℕ) (gone room drops : ℕ) where
  pub withdraw_passes : withdraw_ahead s b gone room drops ≡ true → WithdrawPasses s b gone room drops
  unfolding withdraw_ahead
  withdraw_passes h =
      let t = (and_iff (make_ahead s gone room && drop_room (plant_of s) drops) _).0 h in
      let made = (and_iff (make_ahead s gone room) _).0 t.0 in
      let book = (and_iff (alike (plant_of s) b) _).0 t.1 in
      record { make = made.0; drops_ok = made.1; alike_ok = book.0; book = eqb-true _ _ book.1 }

  -- the book is for as many states as the plant has
  pub passes_states : WithdrawPasses s b gone room drops → book_states b ≡ (plant_of s).states
  unfolding alike
  passes_states t = eqb-true _ _ (and_left (eqb (book_states b) (plant_of s).states) _ t.alike_ok)

  -- one that passes is answered by the plant
  pub withdraw_left : withdraw_ahead s b gone room drops ≡ true → withdraw_fault s b gone room drops ≡ plant_fault s
  unfolding withdraw_fault lent_fault mask_fault room_fault
  withdraw_left h =
      let t = withdraw_passes h in
      let made = make_parts s gone room t.make in
      rw (made.1, made.2, t.drops_ok, (book_ok b t.book).head, t.alike_ok, t.book)
      (first_alone (first_of (plant_fault s) 0) ∙ first_alone (plant_fault s))

  -- one that is accepted passes
  withdraw_passed : withdraw_fault s b gone room drops ≡ 0 → withdraw_ahead s b gone room drops ≡ true
  unfolding withdraw_fault withdraw_ahead make_ahead lent_fault
  withdraw_passed z =
      let ok = withdraw_ok s b gone room drops z in
      let lent = ((first_iff (lent_fault s b) _).0 z).0 in
      let like = ((first_iff (when (not (book_head_ok b && alike (plant_of s) b)) 4) _).0
      ((first_iff (plant_fault s) _).0 lent).1).0 in
      let made = and_true (plant_tests s ok.lent.plant).0 (and_true ok.gone_ok ok.room_ok) in
      and_true (and_true made ok.drops_ok)
      (and_true (and_right (book_head_ok b) _ ((when_iff (book_head_ok b && alike (plant_of s) b) 3).0 like))
      (eq-eqb _ _ ok.lent.book))

  -- it is accepted exactly if it passes and the plant is accepted
  pub withdraw_exactly : (withdraw_fault s b gone room drops ≡ 0)
      ↔ ((withdraw_ahead s b gone room drops ≡ true) × (plant_fault s ≡ 0))
  withdraw_exactly =
      exactly (withdraw_fault s b gone room drops) (plant_fault s) (withdraw_ahead s b gone room drops)
      withdraw_left withdraw_passed

-- a list of withdrawals
module _ (s b m : List ℕ) (room drops : ℕ) where
  -- one that passes is answered as one withdrawal of all moves that its masks name, which passes
  pub list_left : list_ahead s b m room drops ≡ true
      → (withdraw_list_fault s b m room drops ≡ withdraw_fault s b (union_of (masks_of m)) room drops)
      × (withdraw_ahead s b (union_of (masks_of m)) room drops ≡ true)
  unfolding list_ahead
  list_left h = let t = (and_iff (whole_masks m) _).0 h in (list_as s b m room drops t.0, t.1)

  -- it is accepted exactly if it passes and the plant is accepted
  pub list_exactly : (withdraw_list_fault s b m room drops ≡ 0)
      ↔ ((list_ahead s b m room drops ≡ true) × (plant_fault s ≡ 0))
  unfolding list_ahead
  list_exactly =
      exactly (withdraw_list_fault s b m room drops) (plant_fault s) (list_ahead s b m room drops)
      (λ h. let t = list_left h in t.0 ∙ withdraw_left s b (union_of (masks_of m)) room drops t.1)
      (λ z. and_true (list_masks s b m room drops z).0
      (withdraw_passed s b (union_of (masks_of m)) room drops (list_at_once s b m room drops z)))
