-- Floats in units of their format's smallest value: one that fits is few digits and zeros, a finite result of `round`
-- is what rounding keeps, and a difference is the exact one, rounded once. Assumes nothing.
use mathlib.Core.Path.{◌≡◌, refl, sym, ap, ◌∙◌, subst}
use mathlib.Core.Bool.{Bool, true, false, not, ◌&&◌, cond, true≢false}
use Prim.Native.Nat.{ℕ, zero, suc, ◌+◌, ◌-◌, ◌*◌, ◌%◌, ◌^◌, ◌<◌, ◌≤◌}
use native.Mathlib.Nat.{lt_of_lt_of_le, lt_irrefl, mul_assoc, mul-one, sub-add_cancel}
use native.Mathlib.Omega.{arith}
use native.Mathlib.Decide.{dec_le}
use lib.IntN.{ℤ, pos, negsuc}
use lib.Dec.{T, leb, ltb, eqb, ltb→lt, nltb→le, leb→le}
use lib.Pow.{pow-add, pow_pos, pow-lt}
use lib.Ieee.{Float, nan, inf, fin, Format, prec, emax, low, up, down, odd, units, round, sum, add, sub, neg, fits}
use lib.Ieee.Fits.{round_is, and_l, and_r}
use lib.Ieee.Exact.{HasValue, odd_sign}
use lib.Ieee.Order.{drop, kept}
use Rattle.gauge.specs.Numbers.{less, is_finite, value_of}

-- ---- a float that fits, in units of the format's smallest value

-- e + l, for an e that is not below -l
abbrev zeros : ℤ → ℕ → ℕ
zeros (pos k) l = k + l
zeros (negsuc k) l = l - suc k

-- a power is at most another only where its exponent is
exponent : (i j : ℕ) → 2 ^ i ≤ 2 ^ j → i ≤ j
exponent i j h =
    elim (dec_le i j) [
      | yes l ↦ l
      | no l ↦ absurd (lt_irrefl (2 ^ j) (lt_of_lt_of_le (pow-lt (omega (arith, l))) h))
    ]

-- m * 2 ^ e in units of 2 ^ -l
in_units : (m l : ℕ) (e : ℤ) → down e ≤ 2 ^ l → m * up e * 2 ^ l ≡ m * 2 ^ zeros e l * down e
in_units m l (pos k) h =
    mul_assoc m (2 ^ k) (2 ^ l) ∙ ap (λ (x : ℕ). m * x) (sym (pow-add 2 k l)) ∙ sym (mul-one (m * 2 ^ (k + l)))
in_units m l (negsuc k) h =
    let j = l - suc k in
    let back : j + suc k ≡ l = sub-add_cancel (exponent (suc k) l h) in
    ap (λ (x : ℕ). x * 2 ^ l) (mul-one m)
    ∙ ap (λ (x : ℕ). m * x) (ap (λ (x : ℕ). 2 ^ x) (sym back) ∙ pow-add 2 j (suc k))
    ∙ sym (mul_assoc m (2 ^ j) (2 ^ suc k))

-- m * 2 ^ e is m * 2 ^ j units, with no more digits than the format keeps
pub record Short (f : Format) (m : ℕ) (e : ℤ) : Type 0 where
  pub few : m < 2 ^ prec f
  pub j : ℕ
  pub is : m * up e * 2 ^ low f ≡ m * 2 ^ j * down e

-- a finite float that fits is such a number
pub fits_short : (f : Format) (s : Bool) (m : ℕ) (e : ℤ) → fits f (fin s m e) ≡ true → Short f m e
unfolding fits
fits_short f s zero e h =
    record { few = pow_pos (prec f); j = 0; is = none (up e) (2 ^ low f) (down e) }
  where
    none : (a b c : ℕ) → 0 * a * b ≡ 0 * 1 * c
    none a b c = omega arith
fits_short f s (suc m) e h = go (subst T (sym h) tt)
  where
    go : T (eqb (suc m % 2) 1 && ltb (suc m) (2 ^ prec f) && leb (down e) (2 ^ low f) &&
        ltb (suc m * up e) (2 ^ suc (emax f) * down e)) → Short f (suc m) e
    go t =
        let a : Bool = eqb (suc m % 2) 1 in
        let b : Bool = ltb (suc m) (2 ^ prec f) in
        let c : Bool = leb (down e) (2 ^ low f) in
        let d : Bool = ltb (suc m * up e) (2 ^ suc (emax f) * down e) in
        let first = and_l (a && b && c) d t in
        record {
          few = ltb→lt (suc m) (2 ^ prec f) (and_r a b (and_l (a && b) c first));
          j = zeros e (low f);
          is = in_units (suc m) (low f) e (leb→le (down e) (2 ^ low f) (and_r (a && b) c first));
        }

-- ---- what `round` makes, where it is finite

-- x is a / c in size, with the sign s
pub record Signed (x : Float) (s : Bool) (a c : ℕ) : Type 0 where
  pub m : ℕ
  pub e : ℤ
  pub is : x ≡ fin s m e
  pub size : m * up e * c ≡ a * down e

-- the library's form of the same
signed : (x : Float) (s : Bool) (a c : ℕ) → HasValue x s a c → Signed x s a c
signed nan s a c h = absurd h
signed (inf t) s a c h = absurd h
signed (fin t m e) s a c h = record { m = m; e = e; is = ap (λ (b : Bool). fin b m e) h.0; size = h.1 }

-- what does not overflow is the number of units that it was handed
units_signed : (f : Format) (s : Bool) (q k : ℕ) → is_finite (units f s q k) ≡ true →
    Signed (units f s q k) s (q * 2 ^ k) (2 ^ low f)
unfolding units
units_signed f s q k h = go (ltb (q * 2 ^ k) (2 ^ (low f + suc (emax f)))) h
  where
    go : (b : Bool) → is_finite (cond b (odd (suc (prec f)) s q k (low f)) (inf s)) ≡ true →
        Signed (cond b (odd (suc (prec f)) s q k (low f)) (inf s)) s (q * 2 ^ k) (2 ^ low f)
    go true p =
        let d = suc (prec f) in
        signed (odd d s q k (low f)) s (q * 2 ^ k) (2 ^ low f) (odd_sign d s q k (low f))
    go false p = absurd (true≢false (sym p))

-- in units of the smallest value, what is kept of n / den
abbrev pub result : Format → ℕ → ℕ → ℕ
result f n den = kept (prec f) n den * 2 ^ drop (prec f) n den

-- a finite result is what is kept
pub round_signed : (f : Format) (s : Bool) (num den : ℕ) → is_finite (round f s num den) ≡ true →
    Signed (round f s num den) s (result f (num * 2 ^ low f) den) (2 ^ low f)
round_signed f s num den h =
    let n = num * 2 ^ low f in
    subst (λ (x : Float). Signed x s (result f n den) (2 ^ low f)) (sym (round_is f s num den))
    (units_signed f s (kept (prec f) n den) (drop (prec f) n den)
    (subst (λ (x : Float). is_finite x ≡ true) (round_is f s num den) h))

-- ---- a difference is worked out exactly and rounded once

-- num is the size of plus - minus, and s its sign
abbrev pub Side : Bool → ℕ → ℕ → ℕ → Type 0
Side false plus minus num = plus ≡ minus + num
Side true plus minus num = minus ≡ plus + num

-- x is (plus - minus) / over, rounded once
pub record Once (f : Format) (x : Float) (plus minus over : ℕ) : Type 0 where
  pub s : Bool
  pub num : ℕ
  pub is : x ≡ round f s num over
  pub side : Side s plus minus num

-- a - b, both positive
first_less : (f : Format) (a b c p q : ℕ) → p ≡ a → q ≡ b →
    Once f (cond (ltb a b) (round f true (b - a) c) (round f false (a - b) c)) p q c
first_less f a b c p q x y = go (ltb a b) (ltb→lt a b) (nltb→le a b)
  where
    go : (t : Bool) → (T t → a < b) → (T (not t) → b ≤ a) →
        Once f (cond t (round f true (b - a) c) (round f false (a - b) c)) p q c
    go true h k = let l = h tt in record { s = true; num = b - a; is = refl; side = omega (arith, l) }
    go false h k = let l = k tt in record { s = false; num = a - b; is = refl; side = omega (arith, l) }

-- b - a, both negative
second_less : (f : Format) (a b c p q : ℕ) → p ≡ b → q ≡ a →
    Once f (cond (ltb a b) (round f false (b - a) c) (round f (ltb b a) (a - b) c)) p q c
second_less f a b c p q x y = go (ltb a b) (ltb b a) (ltb→lt a b) (nltb→le a b) (nltb→le b a)
  where
    go : (t u : Bool) → (T t → a < b) → (T (not t) → b ≤ a) → (T (not u) → a ≤ b) →
        Once f (cond t (round f false (b - a) c) (round f u (a - b) c)) p q c
    go true u h k i = let l = h tt in record { s = false; num = b - a; is = refl; side = omega (arith, l) }
    go false true h k i = let l = k tt in record { s = true; num = a - b; is = refl; side = omega (arith, l) }
    go false false h k i =
        let l = k tt in
        let g = i tt in
        record { s = false; num = a - b; is = refl; side = omega (arith, l, g) }

-- a difference of finite floats is the exact one, rounded once
pub once : (f : Format) (x y : Float) → is_finite x ≡ true → is_finite y ≡ true →
    Once f (sub f x y) (less (value_of x) (value_of y)).plus (less (value_of x) (value_of y)).minus
    (less (value_of x) (value_of y)).over
unfolding sub add neg sum less
once f nan y p q = absurd (true≢false (sym p))
once f (inf s) y p q = absurd (true≢false (sym p))
once f (fin s m e) nan p q = absurd (true≢false (sym q))
once f (fin s m e) (inf t) p q = absurd (true≢false (sym q))
once f (fin false m e) (fin true n d) p q =
    record { s = false; num = m * up e * down d + n * up d * down e; is = refl; side = omega arith }
once f (fin true m e) (fin false n d) p q =
    record { s = true; num = m * up e * down d + n * up d * down e; is = refl; side = omega arith }
once f (fin false m e) (fin false n d) p q =
    first_less f (m * up e * down d) (n * up d * down e) (down e * down d)
    (m * up e * down d + 0 * down e) (n * up d * down e + 0 * down d) (omega arith) (omega arith)
once f (fin true m e) (fin true n d) p q =
    second_less f (m * up e * down d) (n * up d * down e) (down e * down d)
    (0 * down d + n * up d * down e) (0 * down e + m * up e * down d) (omega arith) (omega arith)
