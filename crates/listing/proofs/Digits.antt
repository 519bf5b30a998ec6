-- A number's decimal digits: the equations that a reader expects, and how many there are. Assumes nothing.
use mathlib.Core.Path.{◌≡◌, refl, sym, ap, ◌∙◌}
use mathlib.Core.List.{List, ◌++◌}
use Prim.Native.Nat.{ℕ, zero, suc, ◌+◌, ◌/◌, ◌^◌, ◌≤◌, ◌<◌}
use native.Mathlib.Nat.{pow-suc, div-lt_iff_lt-mul}
use native.Mathlib.Decide.{dec_lt}
use native.Mathlib.Omega.{arith}
use lib.ListN.{length, length-append}
use borrow.Author.Tests.{lt-ltb, le-ltb}
use Rattle.listing.specs.Text.{last_digit, digits_within, digits, figure}

-- a number of one digit, under any count
within_one : (k v : ℕ) → v < 10 → digits_within k v ≡ last_digit v
unfolding digits_within
within_one zero v h = refl
within_one (suc k) v h = rw (lt-ltb v 10 h, digits_within)

-- a number of more digits
within_more : (k v : ℕ) → 10 ≤ v → digits_within (suc k) v ≡ digits_within k (v / 10) ++ last_digit v
unfolding digits_within
within_more k v h = rw (le-ltb v 10 h, digits_within)

-- every count that is no less than the number gives the same digits
within_same : (j k v : ℕ) → v ≤ j → v ≤ k → digits_within j v ≡ digits_within k v
within_same zero k v hj hk = within_one 0 v (omega arith) ∙ sym (within_one k v (omega arith))
within_same (suc j) zero v hj hk = within_one (suc j) v (omega arith) ∙ sym (within_one 0 v (omega arith))
within_same (suc j) (suc k) v hj hk =
    elim (dec_lt v 10) [
      | yes small ↦ within_one (suc j) v small ∙ sym (within_one (suc k) v small)
      | no large ↦
          within_more j v (omega arith)
          ∙ ap (λ (ds : List ℕ). ds ++ last_digit v) (within_same j k (v / 10) (omega arith) (omega arith))
          ∙ sym (within_more k v (omega arith))
    ]

-- a number below 10 is its one digit
pub digits_one : (v : ℕ) → v < 10 → digits v ≡ last_digit v
unfolding digits
digits_one v h = within_one v v h

-- any other is the digits of its tenth, and its last digit
pub digits_more : (v : ℕ) → 10 ≤ v → digits v ≡ digits (v / 10) ++ last_digit v
unfolding digits
digits_more zero h = absurd (omega arith)
digits_more (suc p) h =
    within_more p (suc p) h
    ∙ ap (λ (ds : List ℕ). ds ++ last_digit (suc p))
    (within_same p (suc p / 10) (suc p / 10) (omega arith) (omega arith))

-- a number below 10 has one digit
pub one_long : (v : ℕ) → v < 10 → length (digits v) ≡ 1
unfolding last_digit
one_long v h = ap length (digits_one v h)

-- any other has one more than its tenth
pub more_long : (v : ℕ) → 10 ≤ v → length (digits v) ≡ length (digits (v / 10)) + 1
unfolding last_digit
more_long v h = ap length (digits_more v h) ∙ length-append (digits (v / 10)) (last_digit v)

-- a number below 10 to the k has at most k digits
pub digits_few : (k v : ℕ) → v < 10 ^ suc k → length (digits v) ≤ suc k
digits_few zero v h = omega (arith, one_long v h)
digits_few (suc k) v h =
    elim (dec_lt v 10) [
      | yes small ↦ omega (arith, one_long v small)
      | no large ↦
          let fewer = digits_few k (v / 10) ((div-lt_iff_lt-mul (omega arith)).1 (rw pow-suc at h)) in
          omega (arith, more_long v (omega arith))
    ]

-- a number of two bytes and the text that follows it
pub figure_few : (v : ℕ) (text : List ℕ) → v < 65536 → length (figure v text) ≤ 5 + length text
unfolding figure
figure_few v text h =
    let five = digits_few 4 v (omega arith) in
    rw length-append (omega arith)
