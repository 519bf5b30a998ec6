-- Distances of naturals and of fractions, multiplied out, and what it means that no number is nearer than another.
-- Assumes nothing.
use mathlib.Core.Path.{◌≡◌, sym, ap}
use Prim.Native.Nat.{ℕ, ◌+◌, ◌-◌, ◌*◌, ◌<◌, ◌≤◌}
use native.Mathlib.Nat.{mul-le-mul_right, le_of_mul-le-mul_right}
use native.Mathlib.Omega.{arith}
use native.Mathlib.Decide.{dec_le}
use Rattle.gauge.specs.Numbers.{Number, AtMost, less, apart}

-- |a - b|
abbrev pub gap : ℕ → ℕ → ℕ
gap a b = (a - b) + (b - a)

-- the lesser and the distance make up the greater
gap_up : (a b : ℕ) → a ≤ b → a + gap a b ≡ b
gap_up a b h = omega arith

-- the same with b the lesser
gap_down : (a b : ℕ) → b ≤ a → b + gap a b ≡ a
gap_down a b h = omega arith

-- the distance is at least a - b
gap_over : (a b : ℕ) → a ≤ b + gap a b
gap_over a b = omega arith

-- and at least b - a
gap_under : (a b : ℕ) → b ≤ a + gap a b
gap_under a b = omega arith

-- where (b - a) * k and (d - c) * l are equal, so are their sizes
rising : (a b c d k l g h : ℕ) → a + g ≡ b → c + h ≡ d → a * k + d * l ≡ b * k + c * l → g * k ≡ h * l
rising a b c d k l g h p q e =
    let x : (a + g) * k ≡ b * k = ap (λ (z : ℕ). z * k) p in
    let y : (c + h) * l ≡ d * l = ap (λ (z : ℕ). z * l) q in
    omega (arith, x, y, e)

-- and they lie the same way round
same_way : (a b c d k l : ℕ) → 0 < l → a ≤ b → a * k + d * l ≡ b * k + c * l → c ≤ d
same_way a b c d k l pos h e =
    le_of_mul-le-mul_right (let x : a * k ≤ b * k = mul-le-mul_right k h in omega (arith, x, e)) pos

-- (a - b) * k is (c - d) * l
pub gap_scaled : (a b c d k l : ℕ) → 0 < l → a * k + d * l ≡ b * k + c * l → gap a b * k ≡ gap c d * l
gap_scaled a b c d k l pos e =
    elim (dec_le a b) [
      | yes h ↦ rising a b c d k l (gap a b) (gap c d) (gap_up a b h) (gap_up c d (same_way a b c d k l pos h e)) e
      | no h ↦
          let ba : b ≤ a = omega (arith, h) in
          rising b a d c k l (gap a b) (gap c d) (gap_down a b ba)
          (gap_down c d (same_way b a d c k l pos ba (sym e))) (sym e)
    ]

-- distances by their shares of a common measure l
pub weigh : (g h i j l o w c : ℕ) → 0 < l → g * l ≡ i * o → h * l ≡ j * w → i ≤ j →
    g * (w * c) + 0 * (o * c) ≤ h * (o * c) + 0 * (w * c)
weigh g h i j l o w c pos p q le =
    le_of_mul-le-mul_right
    (let x : g * l * (w * c) ≡ i * o * (w * c) = ap (λ (z : ℕ). z * (w * c)) p in
    let y : h * l * (o * c) ≡ j * w * (o * c) = ap (λ (z : ℕ). z * (o * c)) q in
    let z : i * (o * (w * c)) ≤ j * (o * (w * c)) = mul-le-mul_right (o * (w * c)) le in
    omega (arith, x, y, z))
    pos

-- ---- (a - b) / o, no farther from (e - f) / c than (i - j) / w is, at distances g / (o * c) and h / (w * c)

-- where the last is not below (e - f) / c, the first is not above the last
stays : (a b o i j w e f c g h : ℕ) → 0 < c → g * (w * c) + 0 * (o * c) ≤ h * (o * c) + 0 * (w * c) →
    a * c + f * o ≤ e * o + b * c + g → e * w + j * c + h ≡ i * c + f * w → a * w + j * o ≤ i * o + b * w
stays a b o i j w e f c g h pos near x y =
    let n : g * w ≤ h * o = le_of_mul-le-mul_right (omega (arith, near)) pos in
    let x' : (a * c + f * o) * w ≤ (e * o + b * c + g) * w = mul-le-mul_right w x in
    let y' : (e * w + j * c + h) * o ≡ (i * c + f * w) * o = ap (λ (z : ℕ). z * o) y in
    le_of_mul-le-mul_right (omega (arith, n, x', y')) pos

-- p no farther from r than q is, and q not below r: p is not above q
pub stays_below : (p q r : Number) → AtMost (apart p r) (apart q r) → AtMost r q → AtMost p q
unfolding apart less
stays_below p q r near h =
    let u = p.plus * r.over + r.minus * p.over in
    let v = r.plus * p.over + p.minus * r.over in
    let x = q.plus * r.over + r.minus * q.over in
    let y = r.plus * q.over + q.minus * r.over in
    stays p.plus p.minus p.over q.plus q.minus q.over r.plus r.minus r.over
    (gap u v) (gap x y) r.some near (gap_over u v) (gap_down x y h)

-- and q not above r: p is not below q
pub stays_above : (p q r : Number) → AtMost (apart p r) (apart q r) → AtMost q r → AtMost q p
unfolding apart less
stays_above p q r near h =
    let u = p.plus * r.over + r.minus * p.over in
    let v = r.plus * p.over + p.minus * r.over in
    let x = q.plus * r.over + r.minus * q.over in
    let y = r.plus * q.over + q.minus * r.over in
    turn (p.plus * q.over) (q.minus * p.over) (q.plus * p.over) (p.minus * q.over)
    (stays p.minus p.plus p.over q.minus q.plus q.over r.minus r.plus r.over
    (gap u v) (gap x y) r.some near
    (turn_over (p.minus * r.over) (r.plus * p.over) (r.minus * p.over) (p.plus * r.over) (gap u v)
    (gap_under u v))
    (turn_up (r.minus * q.over) (q.plus * r.over) (q.minus * r.over) (r.plus * q.over) (gap x y)
    (gap_up x y h)))
  where
    turn : (a b c d : ℕ) → d + c ≤ b + a → c + d ≤ a + b
    turn a b c d k = omega (arith, k)

    turn_over : (a b c d g : ℕ) → b + a ≤ d + c + g → a + b ≤ c + d + g
    turn_over a b c d g k = omega (arith, k)

    turn_up : (a b c d g : ℕ) → b + a + g ≡ d + c → a + b + g ≡ c + d
    turn_up a b c d g k = omega (arith, k)
