-- The deviation is a float nearest to the exact difference, and no float lies between the two: the exact difference is
-- rounded once, and what rounding keeps is no farther from it than any float. Assumes nothing.
use mathlib.Core.Path.{◌≡◌, sym, ap, ◌∙◌, subst}
use mathlib.Core.Bool.{Bool, true, false, true≢false}
use Prim.Native.Nat.{ℕ, ◌+◌, ◌*◌, ◌^◌, ◌<◌, ◌≤◌}
use native.Mathlib.Nat.{le_trans}
use native.Mathlib.Omega.{arith}
use lib.IntN.{ℤ}
use lib.Pow.{pow_pos}
use lib.Ieee.{Float, nan, inf, fin, Format, binary64, prec, low, up, down, sub, fits}
use lib.Ieee.Bits.{is_true}
use lib.Ieee.Fits.{two, two-le_pos, down_pos, sub-fits}
use Rattle.gauge.specs.Numbers.{Number, AtMost, less, apart, is_finite, value_of}
use Rattle.gauge.specs.Bands.{deviation_of}
use Rattle.gauge.specs.Placed.{Readable, difference, Rounded}
use Rattle.gauge.proofs.Fractions.{gap, gap_scaled, weigh, stays_below, stays_above}
use Rattle.gauge.proofs.Nearest.{kept_near}
use Rattle.gauge.proofs.Units.{Short, fits_short, result, round_signed, Side, Once, once}

-- ---- distances from the exact difference, in units

-- the distance of two numbers of the sizes k and n, by their signs
abbrev away : Bool → Bool → ℕ → ℕ → ℕ
away false false k n = gap k n
away true true k n = gap k n
away false true k n = n + k
away true false k n = n + k

-- (a - b) / o is (k - h) / l: its distance from (p - q) / c, by shares of l
in_shares : (a b o p q c l k h : ℕ) → 0 < o → a * l ≡ k * o → b * l ≡ h * o →
    gap (a * c + q * o) (p * o + b * c) * l ≡ gap (k * c + q * l) (p * l + h * c) * o
in_shares a b o p q c l k h some x y =
    gap_scaled (a * c + q * o) (p * o + b * c) (k * c + q * l) (p * l + h * c) l o some
    (let x' : a * l * c ≡ k * o * c = ap (λ (z : ℕ). z * c) x in
    let y' : b * l * c ≡ h * o * c = ap (λ (z : ℕ). z * c) y in
    omega (arith, x', y'))

-- what p and q have in common does not count: they are num apart
shift_up : (k c p q num l : ℕ) → p ≡ q + num → gap (k + q * l) (p * l + 0 * c) ≡ gap k (num * l)
shift_up k c p q num l e =
    let x : p * l ≡ (q + num) * l = ap (λ (z : ℕ). z * l) e in omega (arith, x)

-- the same with q the greater
shift_down : (k c p q num l : ℕ) → q ≡ p + num → gap (0 * c + q * l) (p * l + k) ≡ gap k (num * l)
shift_down k c p q num l e =
    let x : q * l ≡ (p + num) * l = ap (λ (z : ℕ). z * l) e in omega (arith, x)

-- on the other side of 0 it is num and k together
spread_up : (k c p q num l : ℕ) → p ≡ q + num → gap (0 * c + q * l) (p * l + k) ≡ num * l + k
spread_up k c p q num l e =
    let x : p * l ≡ (q + num) * l = ap (λ (z : ℕ). z * l) e in omega (arith, x)

-- the same with q the greater
spread_down : (k c p q num l : ℕ) → q ≡ p + num → gap (k + q * l) (p * l + 0 * c) ≡ num * l + k
spread_down k c p q num l e =
    let x : q * l ≡ (p + num) * l = ap (λ (z : ℕ). z * l) e in omega (arith, x)

-- nothing is no share
none : (l o : ℕ) → 0 * l ≡ 0 * o
none l o = omega arith

-- the distance of a float of k units of 1 / l, with the sign t, from r, whose sign is s
measured : (s t : Bool) (m : ℕ) (e : ℤ) (r : Number) (k l num : ℕ) → m * up e * l ≡ k * down e →
    Side s r.plus r.minus num →
    (apart (value_of (fin t m e)) r).plus * l ≡ away s t (k * r.over) (num * l) * (value_of (fin t m e)).over
unfolding apart less
measured false false m e r k l num h i =
    in_shares (m * up e) 0 (down e) r.plus r.minus r.over l k 0 (down_pos e) h (none l (down e))
    ∙ ap (λ (z : ℕ). z * down e) (shift_up (k * r.over) r.over r.plus r.minus num l i)
measured true true m e r k l num h i =
    in_shares 0 (m * up e) (down e) r.plus r.minus r.over l 0 k (down_pos e) (none l (down e)) h
    ∙ ap (λ (z : ℕ). z * down e) (shift_down (k * r.over) r.over r.plus r.minus num l i)
measured false true m e r k l num h i =
    in_shares 0 (m * up e) (down e) r.plus r.minus r.over l 0 k (down_pos e) (none l (down e)) h
    ∙ ap (λ (z : ℕ). z * down e) (spread_up (k * r.over) r.over r.plus r.minus num l i)
measured true false m e r k l num h i =
    in_shares (m * up e) 0 (down e) r.plus r.minus r.over l k 0 (down_pos e) h (none l (down e))
    ∙ ap (λ (z : ℕ). z * down e) (spread_down (k * r.over) r.over r.plus r.minus num l i)

-- the nearest of its sign is no farther than one of either
either_sign : (s t : Bool) (k x n : ℕ) → gap k n ≤ gap x n → gap k n ≤ n → away s s k n ≤ away s t x n
either_sign false false k x n h z = h
either_sign true true k x n h z = h
either_sign false true k x n h z = omega (arith, z)
either_sign true false k x n h z = omega (arith, z)

-- so it is by their distances from a number r
signs_near : (s t : Bool) (m : ℕ) (e : ℤ) (n : ℕ) (d : ℤ) (r : Number) (k x l num : ℕ) → 0 < l →
    m * up e * l ≡ k * down e → n * up d * l ≡ x * down d → Side s r.plus r.minus num →
    gap (k * r.over) (num * l) ≤ gap (x * r.over) (num * l) → gap (k * r.over) (num * l) ≤ num * l →
    AtMost (apart (value_of (fin s m e)) r) (apart (value_of (fin t n d)) r)
unfolding apart less
signs_near s t m e n d r k x l num some p q side near least =
    weigh (apart (value_of (fin s m e)) r).plus (apart (value_of (fin t n d)) r).plus
    (away s s (k * r.over) (num * l)) (away s t (x * r.over) (num * l)) l
    (value_of (fin s m e)).over (value_of (fin t n d)).over r.over some
    (measured s s m e r k l num p side) (measured s t n d r x l num q side)
    (either_sign s t (k * r.over) (x * r.over) (num * l) near least)

-- ---- the deviation

-- 0 has few digits too
zero_near : (k n c : ℕ) → gap k n ≤ gap (0 * 2 ^ 0 * c) n → gap k n ≤ n
zero_near k n c h = le_trans h (size n c)
  where
    size : (a b : ℕ) → gap (0 * 1 * b) a ≤ a
    size a b = omega arith

-- a finite difference, rounded once, is no farther from the exact one than a float that fits
once_near : (f : Format) (x : Float) (r : Number) (t : Bool) (n : ℕ) (d : ℤ) → Once f x r.plus r.minus r.over →
    is_finite x ≡ true → Short f n d → AtMost (apart (value_of x) r) (apart (value_of (fin t n d)) r)
once_near f x r t n d o h u =
    let l = 2 ^ low f in
    let p = prec f in
    let some = two-le_pos p (two f) in
    let num = o.num in
    let c = r.over in
    let z = round_signed f o.s num c (subst (λ (y : Float). is_finite y ≡ true) o.is h) in
    let near : (q j : ℕ) → q < 2 ^ p → gap (result f (num * l) c * c) (num * l) ≤ gap (q * 2 ^ j * c) (num * l) =
    λ q j few. kept_near p (num * l) c q j some r.some few in
    subst (λ (y : Float). AtMost (apart (value_of y) r) (apart (value_of (fin t n d)) r)) (sym (o.is ∙ z.is))
    (signs_near o.s t z.m z.e n d r (result f (num * l) c) (n * 2 ^ u.j) l num (pow_pos (low f))
    z.size u.is o.side (near n u.j u.few)
    (zero_near (result f (num * l) c * c) (num * l) c (near 0 0 (pow_pos p))))

-- so is a finite `sub`
sub_near : (f : Format) (x y z : Float) → is_finite x ≡ true → is_finite y ≡ true → is_finite (sub f x y) ≡ true →
    fits f z ≡ true → is_finite z ≡ true →
    AtMost (apart (value_of (sub f x y)) (less (value_of x) (value_of y)))
    (apart (value_of z) (less (value_of x) (value_of y)))
sub_near f x y nan p q r h i = absurd (true≢false (sym i))
sub_near f x y (inf s) p q r h i = absurd (true≢false (sym i))
sub_near f x y (fin t n d) p q r h i =
    once_near f (sub f x y) (less (value_of x) (value_of y)) t n d (once f x y p q) r (fits_short f t n d h)

-- no float is nearer to the exact difference than the deviation
near : (reading aim x : Float) → Readable reading aim → fits binary64 x ≡ true → is_finite x ≡ true →
    AtMost (apart (value_of (deviation_of reading aim)) (difference reading aim))
    (apart (value_of x) (difference reading aim))
unfolding deviation_of difference
near reading aim x r h i =
    sub_near binary64 reading aim x r.reading_finite r.aim_finite r.deviation_finite h i

-- and the deviation is a float of the format itself
deviation_fits : (reading aim : Float) → fits binary64 (deviation_of reading aim) ≡ true
unfolding deviation_of
deviation_fits reading aim = is_true (fits binary64 (sub binary64 reading aim)) (sub-fits binary64 reading aim)

-- "rounded once", as request (xi) has it
pub rounded : Rounded
rounded =
    record {
      a_float = deviation_fits;
      nearest = near;
      not_above = λ reading aim x r h i below.
          stays_below (value_of (deviation_of reading aim)) (value_of x) (difference reading aim)
          (near reading aim x r h i) below;
      not_below = λ reading aim x r h i above.
          stays_above (value_of (deviation_of reading aim)) (value_of x) (difference reading aim)
          (near reading aim x r h i) above;
    }
