-- When a layout is loaded: the plant is accepted exactly when its arrows are fine and all before them is.
-- Assumes nothing.
use mathlib.Core.Path.{◌≡◌, refl, sym, ◌∙◌}
use mathlib.Core.Logic.{⊎_elim}
use mathlib.Core.Bool.{Bool, true, false, ◌&&◌}
use mathlib.Core.List.{List}
use Prim.Native.Nat.{ℕ}
use native.Mathlib.Omega.{arith}
use lib.Dec.{leb, eqb}
use lib.ListN.{length}
use borrow.Author.Tests.{eqb-true, eq-eqb}
use Rattle.statements.specs.Plants.{word, plant_of, head_ok, plant_fault}
use Rattle.sets.proofs.Tests.{decided, not_both, and_left, and_right, and_true, and_iff, leb_iff, same_test}
use Rattle.decoding.proofs.Faults.{plant_tests}
use Rattle.decoding.proofs.Order.{arrows_length}
use Rattle.format.specs.Checks.{labels_fine, arrows_fine}
use Rattle.format.proofs.Faults.{no_plant_fault}
use Rattle.layout.specs.Layout.{table_room, roomy}
use Rattle.layout.specs.Passing.{Room}

-- the test as the code makes it, by the numbers that it compares
pub load_test : (s table states : List ℕ) {count h : ℕ} {before : Bool} → count ≡ word 3 s → h ≡ table_room (length table)
    → before ≡ (head_ok s && labels_fine (plant_of s))
    → ((leb 1026 (length table) && (leb count h && leb count (length states))) && before)
    ≡ (roomy (plant_of s) table states && (head_ok s && labels_fine (plant_of s)))
unfolding roomy
load_test s table states e f g = rw (e, f, g, arrows_length s)

-- what it tells
pub room_of : (s table states : List ℕ) → roomy (plant_of s) table states ≡ true
    → Room (word 3 s) (table_room (length table)) table states
unfolding roomy table_room
room_of s table states h =
    let k = simp (and_iff, leb_iff, arrows_length s) at h in
    record { table_long = omega arith; table_fits = omega arith; states_fit = omega arith }

and_all : (b : Bool) → (b && true) ≡ b
and_all true = refl
and_all false = refl

module _ (s : List ℕ) where
  -- an accepted plant, by its three tests
  accepted_is : eqb (plant_fault s) 0 ≡ ((head_ok s && labels_fine (plant_of s)) && arrows_fine (plant_of s))
  accepted_is =
      let upper = head_ok s && labels_fine (plant_of s) in
      same_test (eqb (plant_fault s) 0) (upper && arrows_fine (plant_of s))
      (λ e.
      let tests = plant_tests s (eqb-true (plant_fault s) 0 e) in
      and_true (and_true tests.0 tests.1) tests.2)
      (λ e.
      let both = and_left upper (arrows_fine (plant_of s)) e in
      eq-eqb (plant_fault s) 0
      (no_plant_fault s (and_left (head_ok s) (labels_fine (plant_of s)) both)
      (and_right (head_ok s) (labels_fine (plant_of s)) both) (and_right upper (arrows_fine (plant_of s)) e)))

  module _ (room : Bool) where
    -- with room, and all before the arrows fine, the arrows decide
    pub load_yes : room ≡ true → (head_ok s && labels_fine (plant_of s)) ≡ true
        → arrows_fine (plant_of s) ≡ (eqb (plant_fault s) 0 && room)
    load_yes long upper = rw (long, accepted_is, upper) (sym (and_all (arrows_fine (plant_of s))))

    -- otherwise none is loaded
    pub load_no : (room && (head_ok s && labels_fine (plant_of s))) ≡ false → false ≡ (eqb (plant_fault s) 0 && room)
    load_no none =
        ⊎_elim
        (λ e.
        let upper = head_ok s && labels_fine (plant_of s) in
        let fine = sym accepted_is ∙ and_left (eqb (plant_fault s) 0) room e in
        absurd (not_both
        (and_true (and_right (eqb (plant_fault s) 0) room e) (and_left upper (arrows_fine (plant_of s)) fine)) none))
        (λ e. sym e)
        (decided (eqb (plant_fault s) 0 && room))
