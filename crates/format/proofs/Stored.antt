-- A plant's arrows as they are stored: how those left from one on are read from the bytes, and what the next arrow adds
-- to the ends of a move in a state. Assumes nothing.
use mathlib.Core.Path.{◌≡◌, refl}
use mathlib.Core.Bool.{Bool, true, false, ◌&&◌}
use mathlib.Core.List.{List, [], ◌∷◌}
use Prim.Native.Nat.{ℕ, zero, suc, ◌+◌, ◌*◌, ◌≤◌, ◌<◌}
use native.Mathlib.Nat.{not-suc-le-zero, le_of_suc-le-suc, add-zero}
use native.Mathlib.Numerals.{add-one}
use native.Mathlib.Omega.{arith}
use lib.Dec.{eqb}
use lib.ListN.{length, drop, drop_of_length-le}
use lib.Seq.{drop-drop}
use borrow.Author.Tests.{eq-eqb, ne_eqb}
use Rattle.statements.specs.Sets.{cons_if}
use Rattle.statements.specs.Plants.{word, Arrow, arrows_from, plant_of, ends_in}
use Rattle.decoding.proofs.Order.{arrows_length}
use Rattle.format.specs.declared.arrows.Arrow.{Arrow as ReadArrow}
use Rattle.format.specs.Arrows.{arrow_in, arrows_left, plant_arrow}
use Rattle.format.proofs.Parts.{arrow_at, arrows_more}

-- an arrow that was read
abbrev pub as_arrow : ReadArrow → Arrow
as_arrow a = plant_arrow a

-- the arrow at a place, and those after it
arrows_at : (s : List ℕ) (at n k : ℕ) → k < n
    → drop k (arrows_from n (drop at s)) ≡ arrow_at s (at + 6 * k) ∷ drop (suc k) (arrows_from n (drop at s))
arrows_at s at zero k h = absurd (not-suc-le-zero h)
arrows_at s at (suc n) zero h = rw (arrows_more s at n, add-zero)
arrows_at s at (suc n) (suc k) h =
    let there : at + 6 * suc k ≡ at + 6 + 6 * k = omega arith in
    rw (arrows_more s at n, there) (arrows_at s (at + 6) n k (le_of_suc-le-suc h))

-- the arrows left: the one that is read and those after it; none past the last; those past some of them
pub left_more : (s : List ℕ) (k : ℕ) → k < word 3 s → arrows_left s k ≡ as_arrow (arrow_in s k) ∷ arrows_left s (k + 1)
unfolding arrows_left arrow_in plant_of
left_more s k h = rw add-one (arrows_at s (16 + 2 * word 0 s) (word 3 s) k h)

pub left_none : (s : List ℕ) (k : ℕ) → word 3 s ≤ k → arrows_left s k ≡ []
unfolding arrows_left
left_none s k h =
    let few : length (plant_of s).arrows ≤ k = rw arrows_length h in
    drop_of_length-le (plant_of s).arrows few

pub left_past : (s : List ℕ) (k n : ℕ) → drop n (arrows_left s k) ≡ arrows_left s (k + n)
unfolding arrows_left
left_past s k n = drop-drop n k (plant_of s).arrows

-- no arrow has no end, and one that leads from x by u adds its end
pub ends_nil : (x u : ℕ) → ends_in [] x u ≡ []
unfolding ends_in
ends_nil x u = refl

pub ends_match : (a : Arrow) (rest : List Arrow) {x u : ℕ} → a.from ≡ x → a.move ≡ u
    → ends_in (a ∷ rest) x u ≡ a.to ∷ ends_in rest x u
unfolding ends_in
ends_match a rest {x} {u} e f = rw (eq-eqb a.from x e, eq-eqb a.move u f)

-- an arrow from another state adds nothing
pub ends_from : (a : Arrow) (rest : List Arrow) (x u : ℕ) → (a.from ≡ x → ⊥)
    → ends_in (a ∷ rest) x u ≡ ends_in rest x u
unfolding ends_in
ends_from a rest x u d = rw (ne_eqb a.from x d)

-- a number is left out where the second of two tests fails
cons_if_not : (b c : Bool) (y : ℕ) (ys : List ℕ) → c ≡ false → cons_if (b && c) y ys ≡ ys
cons_if_not true c y ys e = rw e
cons_if_not false c y ys e = refl

-- nor does one of another move
pub ends_move : (a : Arrow) (rest : List Arrow) (x u : ℕ) → (a.move ≡ u → ⊥)
    → ends_in (a ∷ rest) x u ≡ ends_in rest x u
unfolding ends_in
ends_move a rest x u d =
    cons_if_not (eqb a.from x) (eqb a.move u) a.to (ends_in rest x u) (ne_eqb a.move u d)
