-- Ranks of the states that are not held: the round that cut the state, then the first goal that was not forced from it
-- then. Every available move may lead to a state that is not held and has a rank no higher, and a lower one where that
-- goal is met: the opponent's side of the game. Assumes nothing.
use mathlib.Core.Path.{◌≡◌, refl, sym, ◌∙◌}
use mathlib.Core.Logic.{⊎_elim}
use mathlib.Core.Bool.{Bool, true, false, not}
use Prim.Native.Nat.{ℕ, zero, suc, ◌+◌, ◌-◌, ◌*◌, ◌%◌, ◌≤◌, ◌<◌}
use native.Mathlib.Nat.{mul-le-mul_right, mul-add-mod_self_right, mod-eq_of_lt}
use native.Mathlib.Omega.{arith}
use lib.Dec.{ltb}
use borrow.Author.Tests.{ltb-true, ltb-false, not-true, not-false}
use Rattle.statements.specs.Sets.{first, is_in}
use Rattle.statements.specs.Plants.{Plant, in_goal, ends, available, can}
use Rattle.statements.specs.Kept.{forced, held_round, held_within}
use Rattle.sets.proofs.Tests.{decided, same_number, not_both}
use Rattle.sets.proofs.First.{first_holds, first_least, first_before}
use Rattle.kept.proofs.Moves.{MovesBelow, can_not}
use Rattle.kept.proofs.Reach.{target_in, forced_target, forced_closed}
use Rattle.kept.proofs.Held.{forced_all_holds, forced_all_in, round_zero, round_suc, round_later}

is_not : (b : Bool) → b ≡ false → not b ≡ true
is_not true e = sym e
is_not false e = refl

module _ (p : Plant) (mask : ℕ) (done within : ℕ → Bool) where
  -- the last round that holds a state, and the first goal that is not forced from it in that round
  round_of : ℕ → ℕ
  round_of x = first p.states 0 (λ n. not (is_in x (held_round (suc n) p mask done within)))

  missed : ℕ → ℕ → ℕ
  missed n x = first p.goals 0 (λ i. not (is_in x (forced p mask done (held_round n p mask done within) i)))

  pub rank_of : ℕ → ℕ
  rank_of x = round_of x * p.goals + missed (round_of x) x

  pub goal_of : ℕ → ℕ
  goal_of r = r % p.goals

  -- a state that some round does not hold
  cut_by : (n x : ℕ) → n < p.states → is_in x (held_round (suc n) p mask done within) ≡ false → round_of x ≤ n
  unfolding round_of
  cut_by n x l h =
      first_least p.states 0 (λ k. not (is_in x (held_round (suc k) p mask done within))) n (omega arith) (omega arith)
      (is_not (is_in x (held_round (suc n) p mask done within)) h)

  missed_by : (n i x : ℕ) → i < p.goals → is_in x (forced p mask done (held_round n p mask done within) i) ≡ false →
      missed n x ≤ i
  unfolding missed
  missed_by n i x l h =
      first_least p.goals 0 (λ k. not (is_in x (forced p mask done (held_round n p mask done within) k))) i (omega arith)
      (omega arith) (is_not (is_in x (forced p mask done (held_round n p mask done within) i)) h)

  module _ (x : ℕ) (below : x < p.states) (allows : within x ≡ true)
      (out : is_in x (held_within p mask done within) ≡ false) where
    cut_range : round_of x < p.states
    unfolding held_within
    cut_range =
        let e : suc (p.states - 1) ≡ p.states = omega arith in
        let l = cut_by (p.states - 1) x (omega arith) (rw e out) in
        omega arith

    cut_after : is_in x (held_round (suc (round_of x)) p mask done within) ≡ false
    unfolding round_of
    cut_after =
        not-true (is_in x (held_round (suc (round_of x)) p mask done within))
        (first_holds p.states 0 (λ n. not (is_in x (held_round (suc n) p mask done within)))
        (let l = cut_range in omega arith))

    still_in : is_in x (held_round (round_of x) p mask done within) ≡ true
    unfolding round_of
    still_in = go (round_of x) (omega arith)
      where
        go : (n : ℕ) → n ≤ round_of x → is_in x (held_round n p mask done within) ≡ true
        go zero l = round_zero p mask done within x below allows
        go (suc n) l =
            not-false (is_in x (held_round (suc n) p mask done within))
            (first_before p.states 0 (λ k. not (is_in x (held_round (suc k) p mask done within))) n (omega arith) l)

    missed_range : missed (round_of x) x < p.goals
    unfolding missed
    missed_range =
        ⊎_elim (λ e. ltb-true (missed (round_of x) x) p.goals e)
        (λ e. absurd (not_both
        (rw (round_suc p mask done within (round_of x))
        (forced_all_in p.goals p mask done (held_round (round_of x) p mask done within) x still_in
        (each (ltb-false (missed (round_of x) x) p.goals e)))) cut_after))
        (decided (ltb (missed (round_of x) x) p.goals))
      where
        each : p.goals ≤ missed (round_of x) x → (i : ℕ) → i < p.goals →
            is_in x (forced p mask done (held_round (round_of x) p mask done within) i) ≡ true
        each l i h =
            not-false (is_in x (forced p mask done (held_round (round_of x) p mask done within) i))
            (first_before p.goals 0 (λ k. not (is_in x (forced p mask done (held_round (round_of x) p mask done within) k))) i
            (omega arith) (omega arith))

    missed_goal : is_in x (forced p mask done (held_round (round_of x) p mask done within) (missed (round_of x) x)) ≡ false
    unfolding missed
    missed_goal =
        not-true (is_in x (forced p mask done (held_round (round_of x) p mask done within) (missed (round_of x) x)))
        (first_holds p.goals 0 (λ k. not (is_in x (forced p mask done (held_round (round_of x) p mask done within) k)))
        (let l = missed_range in omega arith))

    goal_is : goal_of (rank_of x) ≡ missed (round_of x) x
    unfolding goal_of rank_of
    goal_is = mul-add-mod_self_right (round_of x) p.goals (missed (round_of x) x) ∙ mod-eq_of_lt missed_range

    pub goal_range : goal_of (rank_of x) < p.goals
    goal_range = rw goal_is missed_range

  -- a state cut in an earlier round has a lower rank
  earlier : (x y : ℕ) → (lx : x < p.states) (wx : within x ≡ true) (ox : is_in x (held_within p mask done within) ≡ false) →
      (ly : y < p.states) (wy : within y ≡ true) (oy : is_in y (held_within p mask done within) ≡ false) →
      round_of y < round_of x → rank_of y < rank_of x
  unfolding rank_of
  earlier x y lx wx ox ly wy oy h =
      omega (arith, missed_range y ly wy oy, mul-le-mul_right p.goals h)

  -- what a round does not hold is not kept
  not_kept : (n y : ℕ) → n ≤ p.states → is_in y (held_round n p mask done within) ≡ false →
      is_in y (held_within p mask done within) ≡ false
  unfolding held_within
  not_kept n y l h =
      ⊎_elim (λ k. absurd (not_both (round_later p mask done within n p.states l y k) h)) (λ e. e)
      (decided (is_in y (held_round p.states p mask done within)))

  cut_earlier : (n y : ℕ) → n ≤ p.states → y < p.states → within y ≡ true →
      is_in y (held_round n p mask done within) ≡ false → round_of y < n
  cut_earlier zero y l ly wy h = absurd (not_both (round_zero p mask done within y ly wy) h)
  cut_earlier (suc n) y l ly wy h = let c = cut_by n y l h in omega arith

  -- a state cut in the same round with no later goal has a rank no higher
  no_higher : (x y : ℕ) → round_of y ≡ round_of x → missed (round_of x) y ≤ missed (round_of x) x → rank_of y ≤ rank_of x
  unfolding rank_of
  no_higher x y e m = rw e (omega arith)

  -- the opponent's answer to an available move
  pub escape : MovesBelow p → ((y : ℕ) → within y ≡ true → y < p.states) → (x u : ℕ) → within x ≡ true →
      is_in x (held_within p mask done within) ≡ false → available p mask x u ≡ true →
      (y : ℕ) × (is_in y (ends p x u) ≡ true) ×
      (within y ≡ true → (is_in y (held_within p mask done within) ≡ false) × (rank_of y ≤ rank_of x) ×
      (in_goal p (goal_of (rank_of x)) x ≡ true → rank_of y < rank_of x))
  escape b range x u wx ox a =
      ⊎_elim served unserved (decided (in_goal p (missed n x) x))
    where
      lx : x < p.states
      lx = range x wx

      n : ℕ
      n = round_of x

      Answer : Type 0
      Answer = (y : ℕ) × (is_in y (ends p x u) ≡ true) ×
          (within y ≡ true → (is_in y (held_within p mask done within) ≡ false) × (rank_of y ≤ rank_of x) ×
          (in_goal p (goal_of (rank_of x)) x ≡ true → rank_of y < rank_of x))

      n≤ : n ≤ p.states
      n≤ = let l = cut_range x lx wx ox in omega arith

      served : in_goal p (missed n x) x ≡ true → Answer
      served g =
          ⊎_elim
          (λ c. absurd
          (not_both (forced_target p mask (held_round n p mask done within) done (missed n x) x
          (target_in p mask (held_round n p mask done within) done (missed n x) x (still_in x lx wx ox) g c))
          (missed_goal x lx wx ox)))
          (λ c. let r = can_not p mask (held_round n p mask done within) x u b c a in (
            r.0,
            r.1,
            λ wy. let oy = not_kept n r.0 n≤ r.2 in let ly = range r.0 wy in
                let q = earlier x r.0 lx wx ox ly wy oy (cut_earlier n r.0 n≤ ly wy r.2) in
                (oy, omega arith, λ h. q),
          ))
          (decided (can p mask (held_round n p mask done within) x))

      unforced : (y : ℕ) → is_in y (forced p mask done (held_round n p mask done within) (missed n x)) ≡ false →
          is_in y (held_round (suc n) p mask done within) ≡ false
      unforced y h =
          ⊎_elim
          (λ k. absurd
          (not_both ((forced_all_holds p.goals p mask done (held_round n p mask done within) y
          (rw (round_suc p mask done within n) at k)).1 (missed n x) (missed_range x lx wx ox)) h))
          (λ e. e)
          (decided (is_in y (held_round (suc n) p mask done within)))

      lower : (y : ℕ) → y < p.states → within y ≡ true → is_in y (held_within p mask done within) ≡ false →
          is_in y (forced p mask done (held_round n p mask done within) (missed n x)) ≡ false → rank_of y ≤ rank_of x
      lower y ly wy oy h =
          ⊎_elim
          (λ e. no_higher x y e (missed_by n (missed n x) y (missed_range x lx wx ox) h))
          (λ d. let q = earlier x y lx wx ox ly wy oy
          (let c = cut_by n y (cut_range x lx wx ox) (unforced y h) in omega arith) in omega arith)
          (same_number (round_of y) (round_of x))

      unserved : in_goal p (missed n x) x ≡ false → Answer
      unserved g =
          ⊎_elim
          (λ c. absurd
          (not_both (forced_closed p mask (held_round n p mask done within) done (missed n x) x (still_in x lx wx ox) c)
          (missed_goal x lx wx ox)))
          (λ c. let r = can_not p mask (forced p mask done (held_round n p mask done within) (missed n x)) x u b c a in (
            r.0,
            r.1,
            λ wy. let oy = not_kept (suc n) r.0 (cut_range x lx wx ox) (unforced r.0 r.2) in (
              oy,
              lower r.0 (range r.0 wy) wy oy r.2,
              λ h. absurd (not_both (rw (goal_is x lx wx ox) at h) g),
            ),
          ))
          (decided (can p mask (forced p mask done (held_round n p mask done within) (missed n x)) x))
