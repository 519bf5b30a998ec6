-- A goal that is too far cannot be forced in time: the opponent answers so that the goal stays as far as there are
-- moves left, and after that in any way, and the goal is not met where it is still that far. Assumes nothing.
use mathlib.Core.Path.{◌≡◌, subst}
use mathlib.Core.Bool.{true}
use Prim.Native.Nat.{ℕ, suc, ◌+◌, ◌-◌}
use native.Mathlib.Omega.{arith}
use native.Mathlib.Decide.{dec_lt}
use Rattle.statements.specs.Sets.{is_in}
use Rattle.statements.specs.Plants.{Plant, ends, available}
use Rattle.statements.specs.Strategies.{turns, Strategy, ForcesBy, Forces}
use Rattle.kept.proofs.Moves.{available_end}
use Rattle.winning.proofs.Runs.{Answer, Opposed, opposed}

-- at moment k a state is as far from the goal as there are moves left of n
abbrev Left : (ℕ → ℕ → Type 0) → ℕ → ℕ → ℕ → Type 0
Left far n k x = (j : ℕ) → k + j ≡ n → far j x

module _ (p : Plant) (mask : ℕ) (kept good : ℕ → Type 0) (far : ℕ → ℕ → Type 0)
    (unmet : (n x : ℕ) → kept x → far n x → good x → ⊥)
    (avoid : (n x u : ℕ) → kept x → far (suc n) x → available p mask x u ≡ true →
    (y : ℕ) × (is_in y (ends p x u) ≡ true) × (kept y → far n y))
    (n : ℕ) where
  -- the opponent's answer: while moves are left one that keeps the goal far, and then any
  answer :
      (k x u : ℕ) → kept x → Left far n k x → available p mask x u ≡ true →
      Answer p kept (Left far n) (λ x y. Unit {0}) k x u
  answer k x u h l a =
      elim (dec_lt k n) [
        | yes c ↦
            let y = avoid (n - suc k) x u h (l (suc (n - suc k)) (omega arith)) a in
            (y.0, y.1, λ z. (λ j e. subst (λ m. far m y.0) (omega arith) (y.2 z), tt))
        | no c ↦
            let y = available_end p mask x u a in
            (y.0, y.1, λ z. (λ j e. absurd (omega arith), tt))
      ]

  -- the run so made misses the goal
  missed :
      (x : ℕ) (f : Strategy) → ForcesBy p mask kept x good n f →
      Opposed p mask x f (Left far n) (λ x y. Unit {0}) → ⊥
  missed x f w r =
      let m = w.in_time r.states r.moves r.run in
      let y = r.states m.0 in
      let k = w.holds.stays (turns r.states r.moves m.0) y (r.run m.0) in
      unmet (n - m.0) y k (r.known m.0 (n - m.0) (omega arith)) m.2

  -- a goal that is further than n moves cannot be forced within n
  pub too_far : (x : ℕ) → far n x → Forces p mask kept x good n → ⊥
  too_far x h w =
      missed x w.0 w.1
      (opposed p mask kept x w.0 (Left far n) (λ x y. Unit {0}) w.1.holds
      (λ j e. subst (λ m. far m x) (omega arith) h) answer)
