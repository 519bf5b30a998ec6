-- The order of numbers: total, transitive in each mix of "at most" and "below", and without a least one.
-- Assumes nothing.
use mathlib.Core.Logic.{◌⊎◌, inl, inr, ⊎_elim}
use Prim.Native.Nat.{ℕ, ◌+◌, ◌*◌, ◌<◌, ◌≤◌}
use native.Mathlib.Omega.{arith}
use native.Mathlib.Nat.{le_of_mul-le-mul_right, mul-le-mul_right, mul-pos}
use native.Mathlib.Decide.{dec_le}
use Rattle.gauge.specs.Numbers.{Number, Below, AtMost}

-- fractions with one between
chain : (a u o b v w c x y : ℕ) → 0 < w → a * w + v * o ≤ b * o + u * w → b * y + x * w ≤ c * w + v * y →
    a * y + x * o ≤ c * o + u * y
chain a u o b v w c x y pos h k =
    le_of_mul-le-mul_right (omega (arith, mul-le-mul_right y h, mul-le-mul_right o k)) pos

-- of two numbers one is at most the other, or the other is below it
pub compare : (p q : Number) → AtMost p q ⊎ Below q p
compare p q =
    elim (dec_le (p.plus * q.over + q.minus * p.over) (q.plus * p.over + p.minus * q.over)) [
      | yes h ↦ inl h
      | no h ↦ inr (omega arith)
    ]

-- from one number to the next: at most and at most, at most and below, below and at most
pub at_most_then : (p q r : Number) → AtMost p q → AtMost q r → AtMost p r
at_most_then p q r =
    chain p.plus p.minus p.over q.plus q.minus q.over r.plus r.minus r.over q.some

pub then_below : (p q r : Number) → AtMost p q → Below q r → Below p r
then_below p q r h k = ⊎_elim (λ l. absurd (let m = at_most_then r p q l h in omega arith)) (λ l. l) (compare r p)

pub below_then : (p q r : Number) → Below p q → AtMost q r → Below p r
below_then p q r h k = ⊎_elim (λ l. absurd (let m = at_most_then q r p k l in omega arith)) (λ l. l) (compare r p)

-- one less
unfoldable pub before : Number → Number
before q = record { plus = q.plus; minus = q.minus + q.over; over = q.over; some = q.some }

-- no number is the least
pub before_below : (q : Number) → Below (before q) q
unfolding before
before_below q = omega (arith, mul-pos q.some q.some)
