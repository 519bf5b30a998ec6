-- What rounding keeps of a fraction is no farther from it than any number of as few digits. Assumes nothing.
use mathlib.Core.Path.{◌≡◌, refl, sym, ap, ◌∙◌, subst}
use mathlib.Core.Logic.{◌⊎◌, inl, inr}
use mathlib.Core.Bool.{not}
use Prim.Native.Nat.{ℕ, suc, ◌+◌, ◌-◌, ◌*◌, ◌/◌, ◌%◌, ◌^◌, ◌<◌, ◌≤◌, compare, Ordering}
use native.Mathlib.Nat.{le_trans, le_of_eq, le_of_lt, mul_assoc, mul_comm, mul-le-mul_right, mul-pos, mod-lt}
use native.Mathlib.Nat.{add-sub_of_le, div-add-mod', div-div-eq-div-mul, le-div_iff_mul-le}
use native.Mathlib.Omega.{arith}
use native.Mathlib.Decide.{dec_le}
use lib.Dec.{T, is_le, compare_is_eq, leb→le, nleb→lt, eqb→eq}
use lib.Pow.{pow-add, pow_pos, pow_mono, shl_lt}
use lib.Ieee.{size, nearest}
use lib.Ieee.Digits.{size_reaches}
use lib.Ieee.Nearest.{closest}
use lib.Ieee.Order.{drop, kept}
use Rattle.gauge.proofs.Fractions.{gap}

-- ---- the nearest whole number: n is w * u + r

-- what `nearest` chose is r or u - r away, whichever is less
abbrev Chosen : ℕ → ℕ → ℕ → ℕ → Type 0
Chosen q w u r = ((q ≡ w) × (r * 2 ≤ u)) ⊎ ((q ≡ suc w) × (u ≤ r * 2))

-- at a tie either will do
at_tie : (w u r : ℕ) → r * 2 ≡ u → Chosen (w + w % 2) w u r
at_tie w u r e =
    elim (dec_le (w % 2) 0) [
      | yes h ↦ inl (omega (arith, h), le_of_eq e)
      | no h ↦ inr (omega (arith, h), le_of_eq (sym e))
    ]

-- by what `compare` says
chosen : (w u r : ℕ) → Chosen (nearest w (compare (r * 2) u)) w u r
chosen w u r = go (compare (r * 2) u) (leb→le (r * 2) u) (nleb→lt (r * 2) u) (eqb→eq (r * 2) u)
  where
    go : (o : Ordering) → (T (is_le o) → r * 2 ≤ u) → (T (not (is_le o)) → u < r * 2) → (T (compare_is_eq o) → r * 2 ≡ u) →
        Chosen (nearest w o) w u r
    go Ordering.lt h k e = inl (refl, h tt)
    go Ordering.eq h k e = at_tie w u r (e tt)
    go Ordering.gt h k e = inr (refl, le_of_lt (k tt))

-- y is at or below the whole multiple of u below n, or at or above the next
abbrev Outside : ℕ → ℕ → ℕ → Type 0
Outside n u y = (y ≤ n / u * u) ⊎ (n / u * u + u ≤ y)

-- a chosen q * u is no farther from n than such a y
no_nearer : (q w u r n y : ℕ) → w * u + r ≡ n → r < u → Chosen q w u r → (y ≤ w * u) ⊎ (w * u + u ≤ y) →
    gap (q * u) n ≤ gap y n
no_nearer q w u r n y e l (inl c) (inl o) =
    let z : q * u ≡ w * u = ap (λ (x : ℕ). x * u) c.0 in omega (arith, z, c.1)
no_nearer q w u r n y e l (inl c) (inr o) =
    let z : q * u ≡ w * u = ap (λ (x : ℕ). x * u) c.0 in omega (arith, z, c.1)
no_nearer q w u r n y e l (inr c) (inl o) =
    let z : q * u ≡ suc w * u = ap (λ (x : ℕ). x * u) c.0 in omega (arith, z, c.1)
no_nearer q w u r n y e l (inr c) (inr o) =
    let z : q * u ≡ suc w * u = ap (λ (x : ℕ). x * u) c.0 in omega (arith, z, c.1)

-- the nearest multiple of u
closest_near : (n u y : ℕ) → 0 < u → Outside n u y → gap (closest n u * u) n ≤ gap y n
closest_near n u y pos o =
    no_nearer (closest n u) (n / u) u (n % u) n y (div-add-mod' n u) (mod-lt n pos) (chosen (n / u) u (n % u)) o

-- ---- numbers of p digits and closing zeros

-- a whole multiple of u
multiple : (n u t : ℕ) → Outside n u (t * u)
multiple n u t =
    elim (dec_le t (n / u)) [
      | yes h ↦ inl (mul-le-mul_right u h)
      | no h ↦
          let g : suc (n / u) ≤ t = omega (arith, h) in
          let x : suc (n / u) * u ≤ t * u = mul-le-mul_right u g in
          inr (omega (arith, x))
    ]

-- p digits less one and the digits dropped are fewer than all
all_in_use : (z p : ℕ) → 0 < p → 0 < z - p → p - 1 + (z - p) < z
all_in_use z p pos h = omega arith

-- where digits are dropped, the quotient has p digits
quotient_full : (p n den : ℕ) → 0 < p → 0 < drop p n den → 2 ^ (p - 1) ≤ n / (den * 2 ^ drop p n den)
quotient_full p n den pos h =
    let k = drop p n den in
    let w = n / den in
    let a : 2 ^ (p - 1) * 2 ^ k ≤ w =
    le_trans (le_of_eq (sym (pow-add 2 (p - 1) k))) (size_reaches w (p - 1 + k) (all_in_use (size w) p pos h)) in
    subst (λ (x : ℕ). 2 ^ (p - 1) ≤ x) (div-div-eq-div-mul n den (2 ^ k)) ((le-div_iff_mul-le (pow_pos k)).1 a)

-- p digits and j zeros have room under p - 1 digits and k zeros
room : (p j k : ℕ) → 0 < p → j < k → p + j ≤ p - 1 + k
room p j k pos h = omega arith

-- fewer closing zeros than digits are dropped: it lies below
short : (p n den m j : ℕ) → 0 < p → m < 2 ^ p → j < drop p n den →
    m * 2 ^ j * den ≤ n / (den * 2 ^ drop p n den) * (den * 2 ^ drop p n den)
short p n den m j pos few l =
    let k = drop p n den in
    let q = n / (den * 2 ^ k) in
    let a : m * 2 ^ j ≤ 2 ^ (p - 1) * 2 ^ k =
    le_trans (le_of_lt (shl_lt p j few)) (le_trans (pow_mono (room p j k pos l)) (le_of_eq (pow-add 2 (p - 1) k))) in
    let b : 2 ^ (p - 1) * 2 ^ k ≤ q * 2 ^ k = mul-le-mul_right (2 ^ k) (quotient_full p n den pos (omega (arith, l))) in
    le_trans (mul-le-mul_right den (le_trans a b))
    (le_of_eq (mul_assoc q (2 ^ k) den ∙ ap (λ (x : ℕ). q * x) (mul_comm (2 ^ k) den)))

-- as many or more: it is a whole multiple
long : (den m j k : ℕ) → k ≤ j → m * 2 ^ j * den ≡ m * 2 ^ (j - k) * (den * 2 ^ k)
long den m j k h =
    ap (λ (x : ℕ). m * x * den) (ap (λ (x : ℕ). 2 ^ x) (sym (add-sub_of_le h)) ∙ pow-add 2 k (j - k))
    ∙ shuffle m (2 ^ k) (2 ^ (j - k)) den
  where
    shuffle : (a b c d : ℕ) → a * (b * c) * d ≡ a * c * (d * b)
    shuffle a b c d = omega arith

-- either way
outside : (p n den m j : ℕ) → 0 < p → m < 2 ^ p → Outside n (den * 2 ^ drop p n den) (m * 2 ^ j * den)
outside p n den m j pos few =
    let k = drop p n den in
    let u = den * 2 ^ k in
    elim (dec_le k j) [
      | yes h ↦ subst (λ (y : ℕ). Outside n u y) (sym (long den m j k h)) (multiple n u (m * 2 ^ (j - k)))
      | no h ↦ inl (short p n den m j pos few (omega (arith, h)))
    ]

-- kept * 2 ^ drop is no farther from n / den than a number of p digits and j zeros
pub kept_near : (p n den m j : ℕ) → 0 < p → 0 < den → m < 2 ^ p →
    gap (kept p n den * 2 ^ drop p n den * den) n ≤ gap (m * 2 ^ j * den) n
kept_near p n den m j pos some few =
    let k = drop p n den in
    subst (λ (x : ℕ). gap x n ≤ gap (m * 2 ^ j * den) n)
    (ap (λ (x : ℕ). kept p n den * x) (mul_comm den (2 ^ k)) ∙ sym (mul_assoc (kept p n den) (2 ^ k) den))
    (closest_near n (den * 2 ^ k) (m * 2 ^ j * den) (mul-pos some (pow_pos k)) (outside p n den m j pos few))
