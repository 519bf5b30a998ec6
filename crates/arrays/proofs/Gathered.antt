-- A test of each number that goes on past a bad one, with the answer gathered on the way. Assumes nothing.
use mathlib.Core.Path.{◌≡◌, refl, sym, ap, ◌∙◌}
use mathlib.Core.Bool.{Bool, true, ◌&&◌, and-true, and_assoc}
use Prim.Native.Nat.{ℕ, zero, suc, ◌+◌, ◌≤◌, ◌<◌}
use native.Mathlib.Numerals.{add-one}
use native.Mathlib.Omega.{arith}
use Rattle.statements.specs.Sets.{every}

-- the answer for the first i of n numbers
abbrev pub Gathered : ℕ → (ℕ → Bool) → ℕ → Bool → Type 0
Gathered n test i good = (i ≤ n) × (good ≡ every i 0 test)

-- the last number of a range can be tested last
every_last : (n x k : ℕ) (test : ℕ → Bool) → k ≡ x + n → every (suc n) x test ≡ (every n x test && test k)
unfolding every
every_last zero x k test e = and-true (test x) ∙ ap test (omega arith)
every_last (suc n) x k test e =
    ap (λ (b : Bool). test x && b) (every_last n (suc x) k test (omega arith))
    ∙ sym (and_assoc (test x) (every n (suc x) test) (test k))

pub gathered_none : (n : ℕ) (test : ℕ → Bool) → Gathered n test 0 true
unfolding every
gathered_none n test = (omega arith, refl)

module _ (n : ℕ) (test : ℕ → Bool) (i : ℕ) {good : Bool} (g : Gathered n test i good) where
  -- one number more
  pub gathered_more : i < n → Gathered n test (i + 1) (good && test i)
  gathered_more h = (
    omega arith,
    ap (λ (b : Bool). b && test i) g.1 ∙ sym (every_last i 0 i test (omega arith)) ∙ rw (add-one i) refl,
  )

  -- all of them
  pub gathered_all : n ≤ i → good ≡ every n 0 test
  gathered_all h = g.1 ∙ ap (λ (k : ℕ). every k 0 test) (omega arith)
