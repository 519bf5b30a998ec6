-- What the call's answers come to: 11, 12 and 0 by the tests of the table and of the reading, and the state of the one
-- band in which the deviation lies. Assumes nothing.
use mathlib.Core.Path.{◌≡◌, refl, sym, ◌∙◌, ap}
use mathlib.Core.Logic.{◌↔◌}
use mathlib.Core.Bool.{Bool, true, false, not, true≢false}
use mathlib.Core.List.{List}
use Prim.Native.Nat.{ℕ, ◌<◌}
use native.Mathlib.Omega.{arith}
use native.Mathlib.Decide.{dec_lt}
use lib.Dec.{eqb, ltb}
use lib.ListN.{length, get_or}
use lib.Ieee.{Float}
use borrow.Author.Tests.{ltb-true, lt-ltb, eqb-true, eq-eqb}
use Rattle.statements.specs.Sets.{pick}
use Rattle.statements.specs.Plants.{first_of, when}
use Rattle.sets.proofs.Tests.{and_iff, and_left, and_right, and_true}
use Rattle.sets.proofs.First.{first_holds, first_least}
use Rattle.gauge.specs.declared.Band.{Band}
use Rattle.std.specs.Prelude.{Option, Some, None, Ok}
use Rattle.refusal.proofs.Refused.{same_result}
use Rattle.gauge.specs.Bands.{Place, place_of}
use Rattle.gauge.specs.Numbers.{Number, value_of}
use Rattle.gauge.specs.Bands.{band_of, table_ok, deviation_of, reading_ok, gauge_fault, holds, band_at, PlaceSays}
use Rattle.gauge.specs.Placed.{In, Table, Readable, Means, Placed}
use Rattle.gauge.proofs.Ends.{holds_iff}
use Rattle.gauge.proofs.Rising.{table_iff}

-- in a table in order at most one band holds a number
one : (kinds : List ℕ) (ends : List Float) (states : List ℕ) (s : ℕ) → Table kinds ends states s →
    (p : Number) (i j : ℕ) → i < length states → j < length states →
    In (band_of kinds ends states i) p → In (band_of kinds ends states j) p → i ≡ j
one kinds ends states s t p i j l m h k =
    elim (dec_lt i j) [
      | yes a ↦ absurd (let b = t.in_order.rise i j a m p p h k in omega arith)
      | no a ↦
          elim (dec_lt j i) [
            | yes c ↦ absurd (let b = t.in_order.rise j i c l p p k h in omega arith)
            | no c ↦ omega arith
          ]
    ]

-- the test of reading, aim and deviation
readable_iff : (reading aim : Float) → (reading_ok reading aim ≡ true) ↔ Readable reading aim
unfolding reading_ok
readable_iff reading aim = (
  λ h.
      let a = simp and_iff at h in
      record { reading_finite = a.0; aim_finite = a.1.0; deviation_finite = a.1.1 },
  λ r. and_true r.reading_finite (and_true r.aim_finite r.deviation_finite),
)

-- the answer by its two tests
abbrev answer : Bool → Bool → ℕ
answer t u = first_of (when (not t) 11) (when (not u) 12)

-- which answer it is, by what the tests say
eleven : {A : Type 0} (t u : Bool) → (t ≡ true) ↔ A → (answer t u ≡ 11) ↔ (A → ⊥)
eleven true true a = (λ h. absurd (omega arith), λ f. absurd (f (a.0 refl)))
eleven true false a = (λ h. absurd (omega arith), λ f. absurd (f (a.0 refl)))
eleven false u a = (λ h k. true≢false (sym (a.1 k)), λ f. refl)

twelve : {A B : Type 0} (t u : Bool) → (t ≡ true) ↔ A → (u ≡ true) ↔ B → (answer t u ≡ 12) ↔ (A × (B → ⊥))
twelve true true a b = (λ h. absurd (omega arith), λ f. absurd (f.1 (b.0 refl)))
twelve true false a b = (λ h. (a.0 refl, λ k. true≢false (sym (b.1 k))), λ f. refl)
twelve false u a b = (λ h. absurd (omega arith), λ f. absurd (true≢false (sym (a.1 f.0))))

accepted : {A B : Type 0} (t u : Bool) → (t ≡ true) ↔ A → (u ≡ true) ↔ B → (answer t u ≡ 0) ↔ (A × B)
accepted true true a b = (λ h. (a.0 refl, b.0 refl), λ f. refl)
accepted true false a b = (λ h. absurd (omega arith), λ f. absurd (true≢false (sym (b.1 f.1))))
accepted false u a b = (λ h. absurd (omega arith), λ f. absurd (true≢false (sym (a.1 f.0))))

module _ (kinds : List ℕ) (ends : List Float) (states : List ℕ) (s : ℕ) (reading aim : Float) (r : Place)
    (says : PlaceSays kinds ends states s reading aim r) where
  -- the bands, the deviation, the band found and the answer
  abbrev band : ℕ → Band
  band = band_of kinds ends states

  abbrev d : Float
  d = deviation_of reading aim

  abbrev at : ℕ
  at = band_at kinds ends states d

  abbrev fault : ℕ
  fault = gauge_fault kinds ends states s reading aim

  -- 0 exactly where the table is in order and the reading can be read
  zero_iff : (r.number ≡ 0) ↔ (Table kinds ends states s × Readable reading aim)
  unfolding gauge_fault
  zero_iff =
      rw says.number
      (accepted (table_ok kinds ends states s) (reading_ok reading aim) (table_iff kinds ends states s)
      (readable_iff reading aim))

  -- then the machine's test of a band is that the deviation lies there
  lies : r.number ≡ 0 → (i : ℕ) → i < length states → (holds d (band i) ≡ true) ↔ In (band i) (value_of d)
  lies h i l =
      let ok = zero_iff.0 h in
      holds_iff (band i) d (ok.0.in_order.lower i l) (ok.0.in_order.upper i l) ok.1.deviation_finite

  -- it lies in the band found
  there : r.number ≡ 0 → at < length states → In (band at) (value_of d)
  unfolding band_at
  there h l = (lies h at l).0 (first_holds (length states) 0 (λ i. holds d (band i)) (omega arith))

  -- whose state is the one given
  state_is : r.found ≡ true → r.state ≡ (band at).state
  unfolding band_of
  state_is f = says.state ∙ ap (λ b. pick b (get_or states at 0) 0) f

  -- the band in which the deviation lies is the one found
  given : r.number ≡ 0 → (i : ℕ) → i < length states → In (band i) (value_of d) →
      (r.found ≡ true) × (r.state ≡ (band i).state)
  unfolding band_at
  given h i l k =
      let test : ℕ → Bool = λ j. holds d (band j) in
      let least = first_least (length states) 0 test i (omega arith) (omega arith) ((lies h i l).1 k) in
      let m : at < length states = omega arith in
      let f = says.found ∙ and_true (eq-eqb fault 0 (sym says.number ∙ h)) (lt-ltb at (length states) m) in
      let e = one kinds ends states s (zero_iff.0 h).0 (value_of d) at i m l (there h m) k in
      (f, state_is f ∙ ap (λ j. (band j).state) e)

  -- a state is given only of an accepted call, and of a band in which the deviation lies
  only : r.found ≡ true → (r.number ≡ 0) × ((i : ℕ) × ((i < length states) ×
      (In (band i) (value_of d) × (r.state ≡ (band i).state))))
  only f =
      let both = sym says.found ∙ f in
      let h = says.number ∙ eqb-true fault 0 (and_left (eqb fault 0) (ltb at (length states)) both) in
      let l = ltb-true at (length states) (and_right (eqb fault 0) (ltb at (length states)) both) in
      (h, (at, (l, (there h l, state_is f))))

  -- and it is below s
  inside : r.found ≡ true → r.state < s
  inside f = let o = only f in omega (arith, (zero_iff.0 o.0).0.in_order.states o.1.0 o.1.1.0)

  -- what the answer comes to
  means : Means kinds ends states s reading aim r
  unfolding gauge_fault
  means =
      let t = table_ok kinds ends states s in
      let u = reading_ok reading aim in
      let a = table_iff kinds ends states s in
      record {
        eleven = rw says.number (eleven t u a);
        twelve = rw says.number (twelve t u a (readable_iff reading aim));
        accepted = zero_iff;
        band = given;
        only = only;
        inside = inside;
        none = λ f. says.state ∙ ap (λ c. pick c (get_or states at 0) 0) f;
      }

-- answers with the same fields are the same
same_place : {r q : Place} → r.number ≡ q.number → r.found ≡ q.found → r.state ≡ q.state → r ≡ q
same_place en ef es = λ k. record { number = en k; found = ef k; state = es k }

-- what the call hands back is told by the fields
accepted_place : (f : Option ℕ) → (place_of (Ok f)).number ≡ 0
accepted_place (Some x) = refl
accepted_place None = refl

same_state : (f g : Option ℕ) → place_of (Ok f) ≡ place_of (Ok g) → f ≡ g
same_state (Some x) (Some y) e = ap Some (ap (λ (p : Place). p.state) e)
same_state (Some x) None e = absurd (true≢false (ap (λ (p : Place). p.found) e))
same_state None (Some y) e = absurd (true≢false (sym (ap (λ (p : Place). p.found) e)))
same_state None None e = refl

-- all of it
pub placed : Placed
placed =
    record {
      one = one;
      means = means;
      determined = λ kinds ends states s reading aim r q h k. same_place (cc) (cc) (cc);
      places = same_result place_of (λ (p : Place). p.number) accepted_place (λ why. refl) same_state;
    }
