-- The machine's comparisons of finite floats are the order of the numbers that they stand for: "below" and "equal" are
-- tests of naturals for each pair of signs, and "at most" is the one or the other. Assumes nothing.
use mathlib.Core.Path.{◌≡◌, sym}
use mathlib.Core.Logic.{◌↔◌, ⊎_elim}
use mathlib.Core.Bool.{true, false, true≢false, and-true}
use native.Mathlib.Omega.{arith}
use lib.Ieee.{Float, nan, inf, fin, lt, le, eq}
use borrow.Author.Tests.{ltb-true, lt-ltb}
use Rattle.sets.proofs.Tests.{and_iff, eqb_iff, or_left, or_right, or_cases}
use Rattle.gauge.specs.Numbers.{Below, AtMost, is_finite, value_of}
use Rattle.gauge.specs.Placed.{Compared}
use Rattle.gauge.proofs.Orders.{compare}

-- "below", for each pair of signs
lt_value : (x y : Float) → is_finite x ≡ true → is_finite y ≡ true → (lt x y ≡ true) ↔ Below (value_of x) (value_of y)
unfolding lt
lt_value (fin false m e) (fin false n d) p q = omega (arith, ltb-true, lt-ltb)
lt_value (fin false m e) (fin true n d) p q = (λ h. absurd (true≢false (sym h)), λ h. absurd (omega arith))
lt_value (fin true m e) (fin false n d) p q = omega (arith, ltb-true, lt-ltb)
lt_value (fin true m e) (fin true n d) p q = omega (arith, ltb-true, lt-ltb)
lt_value nan y p q = absurd (true≢false (sym p))
lt_value (inf s) y p q = absurd (true≢false (sym p))
lt_value (fin s m e) nan p q = absurd (true≢false (sym q))
lt_value (fin s m e) (inf t) p q = absurd (true≢false (sym q))

-- "equal" is "at most" both ways
eq_value : (x y : Float) → is_finite x ≡ true → is_finite y ≡ true →
    (eq x y ≡ true) ↔ (AtMost (value_of x) (value_of y) × AtMost (value_of y) (value_of x))
unfolding eq
eq_value (fin false m e) (fin false n d) p q = simp (and-true, eqb_iff) (omega arith)
eq_value (fin false m e) (fin true n d) p q = simp (and_iff, eqb_iff) (omega arith)
eq_value (fin true m e) (fin false n d) p q = simp (and_iff, eqb_iff) (omega arith)
eq_value (fin true m e) (fin true n d) p q = simp (and-true, eqb_iff) (omega arith)
eq_value nan y p q = absurd (true≢false (sym p))
eq_value (inf s) y p q = absurd (true≢false (sym p))
eq_value (fin s m e) nan p q = absurd (true≢false (sym q))
eq_value (fin s m e) (inf t) p q = absurd (true≢false (sym q))

-- "at most" is "below" or "equal"
le_value : (x y : Float) → is_finite x ≡ true → is_finite y ≡ true → (le x y ≡ true) ↔ AtMost (value_of x) (value_of y)
unfolding le
le_value x y p q =
    let l = lt_value x y p q in
    let e = eq_value x y p q in (
      λ h. ⊎_elim (λ k. let b = l.0 k in omega arith) (λ k. (e.0 k).0) (or_cases (lt x y) (eq x y) h),
      λ h. ⊎_elim
          (λ k. or_right (lt x y) (eq x y) (e.1 (h, k)))
          (λ k. or_left (lt x y) (eq x y) (l.1 k))
          (compare (value_of y) (value_of x)),
    )

-- both comparisons
pub compared : Compared
compared = record { at_most = le_value; below = lt_value }
