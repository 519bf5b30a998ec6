-- A loop that tests the numbers from 0 on, one after another: what it knows when it stands at i, and what follows
-- from that for the whole. Assumes nothing.
use mathlib.Core.Path.{◌≡◌, refl, sym}
use mathlib.Core.Logic.{⊎_elim}
use mathlib.Core.Bool.{Bool, true, false}
use Prim.Native.Nat.{ℕ, ◌≤◌, ◌<◌}
use native.Mathlib.Omega.{arith}
use Rattle.statements.specs.Sets.{every, first}
use Rattle.sets.proofs.Tests.{same_number, not_both}
use Rattle.sets.proofs.Numbers.{every_all, every_none}
use Rattle.sets.proofs.First.{first_range, first_holds, first_least}

-- the test came out as b at each number below i
abbrev pub Passed : (ℕ → Bool) → Bool → ℕ → Type 0
Passed f b i = (k : ℕ) → k < i → f k ≡ b

-- no test yet
pub every_start : (f : ℕ → Bool) → every 0 0 f ≡ true
unfolding every
every_start f = refl

module _ (f : ℕ → Bool) (i : ℕ) where
  module _ (n : ℕ) where
    -- every test held
    pub every_passed : Passed f true i → n ≤ i → every n 0 f ≡ true
    every_passed before l = every_all n 0 f (λ k low high. before k (omega arith))

    -- one failed
    pub every_fails : i < n → f i ≡ false → every n 0 f ≡ false
    every_fails l e = every_none n 0 f i (omega arith) (omega arith) e

    -- no test held, and then one did
    pub first_found : Passed f false i → i < n → f i ≡ true → i ≡ first n 0 f
    first_found before l e =
        let top = first_least n 0 f i (omega arith) (omega arith) e in
        ⊎_elim
        (λ q. sym q)
        (λ d. absurd (not_both (first_holds n 0 f (omega arith)) (before (first n 0 f) (omega arith))))
        (same_number (first n 0 f) i)

    -- none held
    pub first_past : Passed f false i → n ≤ i → n ≡ first n 0 f
    first_past before l =
        let range = first_range n 0 f in
        ⊎_elim
        (λ q. sym q)
        (λ d. absurd (not_both (first_holds n 0 f (omega arith)) (before (first n 0 f) (omega arith))))
        (same_number (first n 0 f) n)
