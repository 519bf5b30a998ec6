-- Whether a plant has an arrow: the one found by bisection is it, or there is none. Assumes nothing.
use mathlib.Core.Path.{◌≡◌, refl, sym, ap, ◌∙◌}
use mathlib.Core.Logic.{inl, inr}
use mathlib.Core.Bool.{Bool, true, false, ◌&&◌, ◌||◌}
use mathlib.Core.List.{List}
use Prim.Native.Nat.{ℕ, zero, suc, ◌+◌, ◌-◌, ◌*◌, ◌≤◌, ◌<◌}
use native.Mathlib.Nat.{add-zero, zero-add}
use native.Mathlib.Omega.{arith}
use lib.Dec.{eqb}
use borrow.Author.Tests.{eqb-true, eqb-false, eq-eqb}
use Rattle.statements.specs.Sets.{is_in, cons_if}
use Rattle.statements.specs.Plants.{word, plant_of, plant_fault, ends_in, ends}
use Rattle.sets.proofs.Tests.{decided, and_left, and_right}
use Rattle.format.specs.declared.arrows.Arrow.{Arrow}
use Rattle.format.specs.Arrows.{arrow_in, arrows_left}
use Rattle.format.proofs.Stored.{left_more, left_none}
use Rattle.consult.specs.Checks.{rank_in, Reaches}
use Rattle.consult.proofs.Ascending.{arrow_low, ascends}

-- a number put before a list where a test holds
put : (t : Bool) (v y : ℕ) (ys : List ℕ) → is_in y (cons_if t v ys) ≡ ((t && eqb y v) || is_in y ys)
unfolding is_in
put true v y ys = refl
put false v y ys = refl

module _ (s : List ℕ) (x u y : ℕ) where
  -- an arrow that leads from x by u to y
  abbrev Is : Arrow → Bool
  Is a = (eqb a.from x && eqb a.action u) && eqb y a.to

  -- such an arrow is among those left from arrow k on
  abbrev Left : ℕ → Bool
  Left k = is_in y (ends_in (arrows_left s k) x u)

  left_next : (k : ℕ) → k < word 3 s → Left k ≡ (Is (arrow_in s k) || Left (k + 1))
  unfolding ends_in
  left_next k l =
      let a = arrow_in s k in
      ap (λ rest. is_in y (ends_in rest x u)) (left_more s k l)
      ∙ put (eqb a.from x && eqb a.action u) a.to y (ends_in (arrows_left s (k + 1)) x u)

  left_end : (k : ℕ) → word 3 s ≤ k → Left k ≡ false
  unfolding ends_in is_in
  left_end k l = ap (λ rest. is_in y (ends_in rest x u)) (left_none s k l)

  -- its rank
  abbrev Rank : ℕ
  Rank = 65536 * (65536 * x) + (65536 * u + y)

  -- an arrow of another rank is another arrow
  left_skip : (k : ℕ) → k < word 3 s → (rank_in s k ≡ Rank → ⊥) → Left k ≡ Left (k + 1)
  left_skip k l d =
      let a = arrow_in s k in
      elim (decided (Is a)) [
        | inl h ↦
            let both = and_left (eqb a.from x && eqb a.action u) _ h in
            let from = eqb-true a.from x (and_left (eqb a.from x) _ both) in
            let move = eqb-true a.action u (and_right (eqb a.from x) _ both) in
            let to = eqb-true y a.to (and_right (eqb a.from x && eqb a.action u) _ h) in
            absurd (d (omega (arith, from, move, to)))
        | inr h ↦ left_next k l ∙ rw h refl
      ]

  left_over : (k n : ℕ) → k + n ≤ word 3 s → ((j : ℕ) → k ≤ j → j < k + n → rank_in s j ≡ Rank → ⊥)
      → Left k ≡ Left (k + n)
  left_over k zero h others = rw (add-zero k) refl
  left_over k (suc n) h others =
      let next : k + 1 + n ≡ k + suc n = omega arith in
      left_skip k (omega arith) (others k (omega arith) (omega arith))
      ∙ left_over (k + 1) n (omega arith) (λ j low high. others j (omega arith) (omega arith))
      ∙ ap Left next

  -- none up to arrow k
  module _ {k : ℕ} (b : Reaches s Rank k) where
    left_first : is_in y (ends (plant_of s) x u) ≡ Left k
    unfolding ends arrows_left
    left_first =
        left_over 0 k (omega (arith, b.within)) (λ j low high e. omega (arith, b.before j (omega arith), e))
        ∙ ap Left (zero-add k)

    -- all arrows are of lower ranks
    pub leads_none : word 3 s ≤ k → false ≡ is_in y (ends (plant_of s) x u)
    leads_none l = sym (left_first ∙ left_end k l)

    module _ (fine : plant_fault s ≡ 0) (more : k < word 3 s) (move_low : u < 65536) (end_low : y < 65536) where
      found : rank_in s k ≡ Rank → Left k ≡ true
      found e =
          let low = arrow_low s fine k more in
          let a = arrow_in s k in
          let from : a.from ≡ x = omega (arith, e, low.0, low.1, move_low, end_low) in
          let move : a.action ≡ u = omega (arith, e, low.0, low.1, move_low, end_low, from) in
          let to : y ≡ a.to = omega (arith, e, from, move) in
          left_next k more ∙ rw (eq-eqb _ _ from, eq-eqb _ _ move, eq-eqb _ _ to) refl

      other : (rank_in s k ≡ Rank → ⊥) → Left k ≡ false
      other d =
          let rest : k + (word 3 s - k) ≡ word 3 s = omega arith in
          left_over k (word 3 s - k) (omega arith)
          (λ j low high e.
          let later = ascends s fine k j low (omega arith) in
          d (omega (arith, e, later, b.after k (omega arith) more)))
          ∙ left_end (k + (word 3 s - k)) (omega arith)

      -- the first that is not of a lower rank is the one, or there is none
      pub leads_here : eqb (rank_in s k) Rank ≡ is_in y (ends (plant_of s) x u)
      leads_here =
          elim (decided (eqb (rank_in s k) Rank)) [
            | inl h ↦ h ∙ sym (left_first ∙ found (eqb-true (rank_in s k) Rank h))
            | inr h ↦ h ∙ sym (left_first ∙ other (eqb-false (rank_in s k) Rank h))
          ]
