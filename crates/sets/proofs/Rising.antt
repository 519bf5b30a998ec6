-- A filter of a run of numbers strictly rises. Assumes nothing.
use mathlib.Core.Bool.{Bool, true, false}
use mathlib.Core.List.{List, [], ◌∷◌}
use Prim.Native.Nat.{ℕ, zero, suc, ◌≤◌, ◌<◌}
use native.Mathlib.Omega.{arith}
use lib.ListN.{length, get_or}
use Rattle.statements.specs.Sets.{numbers, cons_if, filter}
use Rattle.statements.specs.Demands.{Rising}

-- the numbers of a list strictly rise from at least x
abbrev pub From : ℕ → List ℕ → Type 0
From x [] = Unit {0}
From x (y ∷ ys) = (x ≤ y) × From (suc y) ys

from_less : (x y : ℕ) (ys : List ℕ) → x ≤ y → From y ys → From x ys
from_less x y [] l h = tt
from_less x y (z ∷ zs) l h = (omega arith, h.1)

from_cons_if : (b : Bool) (x y : ℕ) (ys : List ℕ) → x ≤ y → From (suc y) ys → From x (cons_if b y ys)
from_cons_if true x y ys l h = (l, h)
from_cons_if false x y ys l h = from_less x (suc y) ys (omega arith) h

pub from_filter : (f : ℕ → Bool) (n x : ℕ) → From x (filter f (numbers n x))
unfolding filter numbers
from_filter f zero x = tt
from_filter f (suc n) x = from_cons_if (f x) x x (filter f (numbers n (suc x))) (omega arith) (from_filter f n (suc x))

from_at : (x : ℕ) (xs : List ℕ) → From x xs → (k : ℕ) → k < length xs → x ≤ get_or xs k 0
from_at x [] h k l = absurd (omega arith)
from_at x (y ∷ ys) h zero l = h.0
from_at x (y ∷ ys) h (suc k) l = let r = from_at (suc y) ys h.1 k (omega arith) in omega (arith, h.0)

from_rises : (x : ℕ) (xs : List ℕ) → From x xs → Rising xs
from_rises x [] h j k l m = absurd (omega arith)
from_rises x (y ∷ ys) h zero zero l m = absurd (omega arith)
from_rises x (y ∷ ys) h zero (suc k) l m = from_at (suc y) ys h.1 k (omega arith)
from_rises x (y ∷ ys) h (suc j) zero l m = absurd (omega arith)
from_rises x (y ∷ ys) h (suc j) (suc k) l m = from_rises (suc y) ys h.1 j k (omega arith) (omega arith)

pub filter_rises : (f : ℕ → Bool) (n x : ℕ) → Rising (filter f (numbers n x))
filter_rises f n x = from_rises x (filter f (numbers n x)) (from_filter f n x)
