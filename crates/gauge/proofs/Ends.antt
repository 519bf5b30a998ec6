-- Bands of numbers against the machine's tests of their ends: a band is not empty, one follows another, a float lies
-- in one. Assumes nothing.
use mathlib.Core.Path.{◌≡◌, refl, sym}
use mathlib.Core.Logic.{◌↔◌, ⊎_elim}
use mathlib.Core.Bool.{true, true≢false}
use native.Mathlib.Omega.{arith}
use lib.Ieee.{Float, nan}
use Rattle.sets.proofs.Tests.{and_left, and_right, and_true}
use Rattle.gauge.specs.declared.End.{End}
use Rattle.gauge.specs.declared.End.TheVariants.{Open, At}
use Rattle.gauge.specs.declared.Band.{Band}
use Rattle.gauge.specs.Numbers.{Number, Below, AtMost, is_finite, value_of}
use Rattle.gauge.specs.Bands.{end_ok, not_empty, follows, from_lower, under_upper, holds}
use Rattle.gauge.specs.Placed.{IsEnd, From, Under, In}
use Rattle.gauge.proofs.Orders.{compare, at_most_then, then_below, below_then, before, before_below}
use Rattle.gauge.proofs.Reals.{compared}

-- the test of an end
pub end_iff : (e : End) → (end_ok e ≡ true) ↔ IsEnd e
end_iff Open = (λ h. tt, λ h. refl)
end_iff (At x) = (λ h. h, λ h. h)

-- a number above one that is not below a lower end is not below it
up_from : (l : End) (p q : Number) → From l p → AtMost p q → From l q
up_from Open p q h k = tt
up_from (At x) p q h k = at_most_then (value_of x) p q h k

-- a number not above one that is below an upper end is below it
down_under : (u : End) (p q : Number) → AtMost p q → Under u q → Under u p
down_under Open p q h k = tt
down_under (At x) p q h k = then_below p q (value_of x) h k

-- the machine finds something between two ends exactly where some number lies there
pub some_iff : (l u : End) → IsEnd l → IsEnd u → (not_empty l u ≡ true) ↔ ((p : Number) × (From l p × Under u p))
some_iff Open Open a b = (λ h. (value_of nan, (tt, tt)), λ h. refl)
some_iff Open (At y) a b = (λ h. (before (value_of y), (tt, before_below (value_of y))), λ h. refl)
some_iff (At x) Open a b = (λ h. (value_of x, (omega arith, tt)), λ h. refl)
some_iff (At x) (At y) a b = (
  λ h. (value_of x, (omega arith, (compared.below x y a b).0 h)),
  λ h. (compared.below x y a b).1 (then_below (value_of x) h.0 (value_of y) h.1.0 h.1.1),
)

-- the test of a deviation against a lower end
from_iff : (l : End) (d : Float) → IsEnd l → is_finite d ≡ true → (from_lower l d ≡ true) ↔ From l (value_of d)
from_iff Open d a f = (λ h. tt, λ h. refl)
from_iff (At x) d a f = compared.at_most x d a f

-- against an upper end
under_iff : (u : End) (d : Float) → IsEnd u → is_finite d ≡ true → (under_upper u d ≡ true) ↔ Under u (value_of d)
under_iff Open d a f = (λ h. tt, λ h. refl)
under_iff (At x) d a f = compared.below d x f a

-- against both: a band holds a deviation exactly where its number lies in the band
pub holds_iff : (b : Band) (d : Float) → IsEnd b.lower → IsEnd b.upper → is_finite d ≡ true →
    (holds d b ≡ true) ↔ In b (value_of d)
unfolding holds
holds_iff b d l u f =
    let s = from_lower b.lower d in
    let t = under_upper b.upper d in (
      λ h. ((from_iff b.lower d l f).0 (and_left s t h), (under_iff b.upper d u f).0 (and_right s t h)),
      λ h. and_true ((from_iff b.lower d l f).1 h.0) ((under_iff b.upper d u f).1 h.1),
    )

-- a band that ends where another begins, or before, lies below it
pub follows_below : (u m : End) (p q : Number) → IsEnd u → IsEnd m → follows u m ≡ true → Under u p → From m q →
    Below p q
follows_below Open m p q a b f h k = absurd (true≢false (sym f))
follows_below (At x) Open p q a b f h k = absurd (true≢false (sym f))
follows_below (At x) (At y) p q a b f h k =
    below_then p (value_of x) q h (at_most_then (value_of x) (value_of y) q ((compared.at_most x y a b).0 f) k)

-- a band that lies below another ends where that begins, or before: otherwise some number lies in both
pub below_follows : (l u m v : End) (p q : Number) → IsEnd u → IsEnd m → From l p → Under u p → From m q →
    Under v q → Below p q → ((r : Number) → From l r → Under u r → From m r → Under v r → ⊥) → follows u m ≡ true
below_follows l Open m v p q a b lp up mq vq less apart =
    absurd (apart q (up_from l p q lp (omega arith)) tt mq vq)
below_follows l (At x) Open v p q a b lp up mq vq less apart =
    absurd (apart p lp up tt (down_under v p q (omega arith) vq))
below_follows l (At x) (At y) v p q a b lp up mq vq less apart =
    ⊎_elim
    (λ h. (compared.at_most x y a b).1 h)
    (λ h.
    ⊎_elim
    (λ k. absurd (apart (value_of y) (up_from l p (value_of y) lp k) h (omega arith) (down_under v (value_of y) q mq vq)))
    (λ k. absurd (apart p lp up (omega arith) (down_under v p q (omega arith) vq)))
    (compare p (value_of y)))
    (compare (value_of x) (value_of y))
