-- The header of a plant: what a good one says of the counts and the length. Assumes nothing.
use mathlib.Core.Path.{◌≡◌, refl, sym, ap, ap₂, ◌∙◌}
use mathlib.Core.Bool.{Bool, true, false}
use mathlib.Core.List.{List}
use Prim.Native.Nat.{ℕ, ◌+◌, ◌*◌, ◌≤◌}
use native.Mathlib.Omega.{arith}
use lib.ListN.{length}
use Rattle.statements.specs.Plants.{word, plant_of, head_ok}
use Rattle.statements.specs.Books.{book_long}
use Rattle.sets.proofs.Tests.{and_iff, leb_iff, eqb_iff}
use Rattle.decoding.proofs.Sizes.{Sizes}

-- the numbers of states and of moves are the first two of a plant's
pub plant_states : (s : List ℕ) → (plant_of s).states ≡ word 0 s
unfolding plant_of
plant_states s = refl

pub plant_moves : (s : List ℕ) → (plant_of s).moves ≡ word 1 s
unfolding plant_of
plant_moves s = refl

-- what a good header says of a plant
pub record PlantHead (s : List ℕ) : Type 0 where
  pub sizes : Sizes (word 0 s) (word 1 s) (word 2 s)
  pub arrows_most : word 3 s ≤ 8192
  pub long : length s ≡ 16 + (2 * word 0 s + 6 * word 3 s)

-- the header check of a plant says all that
pub plant_head : (s : List ℕ) → head_ok s ≡ true → PlantHead s
unfolding head_ok
plant_head s h =
    let k = simp (and_iff, leb_iff, eqb_iff) at h in
    omega arith

-- the length of a plant's books, by its sort
pub long_staged : (s : List ℕ) (t : Bool) (x n : ℕ) → t ≡ (plant_of s).settles → t ≡ true → x ≡ word 0 s → n ≡ word 2 s →
    16 + (2 * x + 4 * (x * n)) ≡ book_long (plant_of s).settles (plant_of s).states (plant_of s).goals
unfolding plant_of book_long
long_staged s t x n e known hx hn =
    ap₂ (λ (x n : ℕ). book_long true x n) hx hn
    ∙ ap (λ (t : Bool). book_long t (word 0 s) (word 2 s)) (sym known ∙ e)

pub long_plain : (s : List ℕ) (t : Bool) (x n : ℕ) → t ≡ (plant_of s).settles → t ≡ false → x ≡ word 0 s → n ≡ word 2 s →
    16 + 4 * (x * n) ≡ book_long (plant_of s).settles (plant_of s).states (plant_of s).goals
unfolding plant_of book_long
long_plain s t x n e known hx hn =
    ap₂ (λ (x n : ℕ). book_long false x n) hx hn
    ∙ ap (λ (t : Bool). book_long t (word 0 s) (word 2 s)) (sym known ∙ e)
