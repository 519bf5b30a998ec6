-- Kept states of either sort of plant: what a smaller start keeps, and what fewer moves keep; and that the entries of a
-- kept state are worked out from a sound stage. Assumes nothing.
use mathlib.Core.Path.{◌≡◌, refl, sym, ap, ◌∙◌}
use mathlib.Core.Logic.{◌↔◌, ◌⊎◌, inl, inr, ⊎_elim}
use mathlib.Core.Bool.{Bool, true, false}
use mathlib.Core.List.{List, []}
use Prim.Native.Nat.{ℕ, zero, suc, ◌≤◌, ◌<◌}
use native.Mathlib.Omega.{arith}
use native.Mathlib.Decide.{dec_lt}
use Rattle.statements.specs.Sets.{pick, numbers, is_in}
use Rattle.statements.specs.Plants.{Plant, settled, can}
use Rattle.statements.specs.Kept.{nowhere, held_within, stages_to, kept_within, stages_before, stage_of, stage_after}
use Rattle.statements.specs.Kept.{stage_for}
use Rattle.sets.proofs.Tests.{decided, not_both}
use Rattle.sets.proofs.Members.{Sifted, sifted_same, is_in_none}
use Rattle.kept.proofs.Moves.{Sub, MaskWithin, can_none}
use Rattle.kept.proofs.Held.{held_sifted, held_within_lem, held_forced, held_into}
use Rattle.kept.proofs.Stages.{stages_sifted, stages_within, stages_into, stages_between, stages_top, stage_sound}
use Rattle.kept.proofs.Stages.{stages_later, stages_calm, stages_none, none_sifted, before_least, before_in, before_below}
use Rattle.kept.proofs.Waits.{Sound}

module _ (p : Plant) (mask : ℕ) (within : ℕ → Bool) where
  pub kept_plain : p.settles ≡ false → kept_within p mask within ≡ held_within p mask nowhere within
  unfolding kept_within
  kept_plain e = rw e refl

  pub kept_staged : p.settles ≡ true → kept_within p mask within ≡ stages_to p.states p mask within
  unfolding kept_within
  kept_staged e = rw e refl

  -- a set of states at which the test holds
  pub kept_sifted : Sifted (numbers p.states 0) (kept_within p mask within)
  kept_sifted =
      ⊎_elim (λ e. rw (kept_staged e) (stages_sifted p mask within p.states))
      (λ e. rw (kept_plain e) (held_sifted p mask nowhere within)) (decided p.settles)

  pub kept_within_lem : (x : ℕ) → is_in x (kept_within p mask within) ≡ true → (x < p.states) × (within x ≡ true)
  kept_within_lem x h =
      ⊎_elim (λ e. stages_within p mask within p.states x (rw (kept_staged e) at h))
      (λ e. held_within_lem p mask nowhere within x (rw (kept_plain e) at h)) (decided p.settles)

-- what is kept is kept with more moves in service, within any states that hold it all
pub kept_into : (p : Plant) (m n : ℕ) (v w : ℕ → Bool) → 0 < p.goals → MaskWithin m n →
    ((x : ℕ) → is_in x (kept_within p m v) ≡ true → w x ≡ true) → Sub (kept_within p m v) (kept_within p n w)
kept_into p m n v w g b s x h =
    ⊎_elim
    (λ e. rw (kept_staged p n w e)
    (stages_into p m n v w b
    (λ k y q. s y (rw (kept_staged p m v e) (stages_top p m v g k y q))) p.states x (rw (kept_staged p m v e) at h)))
    (λ e. rw (kept_plain p n w e)
    (held_into p m n nowhere nowhere v w b (λ y q. s y (rw (kept_plain p m v e) q)) (λ y q d. d) x
    (rw (kept_plain p m v e) at h)))
    (decided p.settles)

-- more moves in service and a larger start keep more
pub kept_more : (p : Plant) (m n : ℕ) (v w : ℕ → Bool) → 0 < p.goals → MaskWithin m n →
    ((x : ℕ) → v x ≡ true → w x ≡ true) → Sub (kept_within p m v) (kept_within p n w)
kept_more p m n v w g b s = kept_into p m n v w g b (λ x h. s x (kept_within_lem p m v x h).1)

-- a start between the kept states and the first start keeps the same (the sandwich)
pub kept_between : (p : Plant) (mask : ℕ) (v w : ℕ → Bool) → 0 < p.goals → ((x : ℕ) → v x ≡ true → w x ≡ true) →
    ((x : ℕ) → is_in x (kept_within p mask w) ≡ true → v x ≡ true) → kept_within p mask v ≡ kept_within p mask w
kept_between p mask v w g s k =
    sifted_same (numbers p.states 0) (kept_within p mask v) (kept_within p mask w) (kept_sifted p mask v)
    (kept_sifted p mask w) (kept_more p mask mask v w g (λ u e. e) s) (kept_into p mask mask w v g (λ u e. e) k)

module _ (p : Plant) (mask : ℕ) (within : ℕ → Bool) (some_goal : 0 < p.goals) where
  abbrev Kept : List ℕ
  Kept = kept_within p mask within

  -- the stages worked out from the kept states alone are those of the start
  pub stages_kept : p.settles ≡ true → (k : ℕ) → stages_to k p mask (λ y. is_in y Kept) ≡ stages_to k p mask within
  stages_kept e =
      stages_between p mask (λ y. is_in y Kept) within (λ y h. (kept_within_lem p mask within y h).1)
      (λ k y h. rw (kept_staged p mask within e) (stages_top p mask within some_goal k y h))

  module _ (x : ℕ) (h : is_in x Kept ≡ true) where
    in_stages : p.settles ≡ true → is_in x (stages_to p.states p mask (λ y. is_in y Kept)) ≡ true
    in_stages e = rw (stages_kept e p.states, ← kept_staged p mask within e) h

    pub for_plain : p.settles ≡ false →
        stage_for p mask Kept x ≡ record { earlier = []; exits = nowhere; through = Kept }
    unfolding stage_for
    for_plain e = rw e refl

    pub for_staged : p.settles ≡ true →
        stage_for p mask Kept x ≡ stage_after (stages_before p mask Kept x) p mask Kept
    unfolding stage_for
    for_staged e = rw e refl

    -- a kept state is of its stage, which is sound
    pub for_sound : Sound p mask (stage_for p mask Kept x)
    unfolding stage_after
    for_sound =
        ⊎_elim
        (λ e. rw (for_staged e)
        (stage_sound p mask (λ y. is_in y Kept) some_goal (stages_before p mask Kept x)))
        (λ e. rw (for_plain e) (plain e))
        (decided p.settles)
      where
        plain : p.settles ≡ false → Sound p mask (record { earlier = []; exits = nowhere; through = Kept })
        plain e =
            record {
              forces = λ y i k l.
                  rw (kept_plain p mask within e)
                  (held_forced p mask nowhere within y i (rw (kept_plain p mask within e) at k) l);
              lower = λ y k. absurd (is_in_none y k);
              leads = λ y k. absurd (not_both k refl);
              over = λ y k. absurd (is_in_none y k);
            }

    pub for_through : is_in x (stage_for p mask Kept x).through ≡ true
    unfolding stage_after
    for_through =
        ⊎_elim (λ e. rw (for_staged e) (before_in p mask Kept x (in_stages e))) (λ e. rw (for_plain e) h)
        (decided p.settles)

    -- what it goes through is kept
    pub through_kept : Sub (stage_for p mask Kept x).through Kept
    unfolding stage_after
    through_kept y m =
        ⊎_elim
        (λ e. rw (kept_staged p mask within e)
        (stages_top p mask within some_goal (suc (stages_before p mask Kept x)) y
        (rw (for_staged e, stages_kept e (suc (stages_before p mask Kept x))) at m)))
        (λ e. rw (for_plain e) at m)
        (decided p.settles)

    -- its stage is from 1 to S
    pub stage_range : p.settles ≡ true → (1 ≤ stage_of p mask Kept x) × (stage_of p mask Kept x ≤ p.states)
    unfolding stage_of
    stage_range e = let l = before_below p mask Kept x (in_stages e) in (omega arith, omega arith)

    -- it is at most k + 1 exactly in the first k + 1 stages
    pub stage_upto : p.settles ≡ true → (k : ℕ) → stages_before p mask Kept x ≤ k →
        is_in x (stages_to (suc k) p mask within) ≡ true
    stage_upto e k l =
        rw (← stages_kept e (suc k))
        (stages_later p mask (λ y. is_in y Kept) some_goal (suc (stages_before p mask Kept x)) (suc k) (omega arith) x
        (before_in p mask Kept x (in_stages e)))

    pub upto_stage : p.settles ≡ true → (k : ℕ) → is_in x (stages_to (suc k) p mask within) ≡ true →
        stages_before p mask Kept x ≤ k
    upto_stage e k m =
        let b = before_below p mask Kept x (in_stages e) in
        elim (dec_lt k p.states) [
          | yes l ↦ before_least p mask Kept k x l (rw (stages_kept e (suc k)) m)
          | no l ↦ omega arith
        ]

    -- the states it goes through, as a list
    pub through_sifted : Sifted (numbers p.states 0) (stage_for p mask Kept x).through
    unfolding stage_after
    through_sifted =
        ⊎_elim
        (λ e. rw (for_staged e) (stages_sifted p mask (λ y. is_in y Kept) (suc (stages_before p mask Kept x))))
        (λ e. rw (for_plain e) (kept_sifted p mask within))
        (decided p.settles)

    pub earlier_sifted : Sifted (numbers p.states 0) (stage_for p mask Kept x).earlier
    unfolding stage_after
    earlier_sifted =
        ⊎_elim
        (λ e. rw (for_staged e) (stages_sifted p mask (λ y. is_in y Kept) (stages_before p mask Kept x)))
        (λ e. rw (for_plain e) (none_sifted (numbers p.states 0)))
        (decided p.settles)

  -- the stage that a row shows: in a plant that does not settle all are of stage 1
  unfoldable pub shown_stage : ℕ → ℕ
  shown_stage x = pick p.settles (stage_of p mask Kept x) 1

  pub shown_staged : p.settles ≡ true → (x : ℕ) → shown_stage x ≡ suc (stages_before p mask Kept x)
  unfolding shown_stage stage_of
  shown_staged e x = ap (λ t. pick t (suc (stages_before p mask Kept x)) 1) e

  pub shown_plain : p.settles ≡ false → (x : ℕ) → shown_stage x ≡ 1
  unfolding shown_stage
  shown_plain e x = ap (λ t. pick t (stage_of p mask Kept x) 1) e

  module _ (x : ℕ) (hx : is_in x Kept ≡ true) where
    -- the states it goes through are those of no later stage, and the earlier ones those of earlier stages
    pub through_iff : (y : ℕ) →
        (is_in y (stage_for p mask Kept x).through ≡ true) ↔ ((is_in y Kept ≡ true) × (shown_stage y ≤ shown_stage x))
    unfolding stage_after
    through_iff y =
        ⊎_elim
        (λ e.
        let n = stages_before p mask Kept x in (
          λ m.
              let k = through_kept x hx y m in
              let l = upto_stage y k e n (rw (for_staged x hx e, stages_kept e (suc n)) at m) in
              (k, omega (arith, l, shown_staged e x, shown_staged e y)),
          λ r.
              rw (for_staged x hx e, stages_kept e (suc n))
              (stage_upto y r.0 e n (omega (arith, r.1, shown_staged e x, shown_staged e y))),
        ))
        (λ e. (
          λ m. (rw (for_plain x hx e) at m, omega (arith, shown_plain e x, shown_plain e y)),
          λ r. rw (for_plain x hx e) r.0,
        ))
        (decided p.settles)

    pub earlier_iff : (y : ℕ) →
        (is_in y (stage_for p mask Kept x).earlier ≡ true) ↔ ((is_in y Kept ≡ true) × (shown_stage y < shown_stage x))
    unfolding stage_after
    earlier_iff y =
        ⊎_elim
        (λ e. (
          λ m.
              let k = through_kept x hx y ((for_sound x hx).lower y m) in (
                k,
                omega (
                  arith,
                  shown_staged e x,
                  shown_staged e y,
                  below e y k (stages_before p mask Kept x) refl (rw (for_staged x hx e, stages_kept e (stages_before p mask Kept x)) at m),
                ),
              ),
          λ r.
              rw (for_staged x hx e, stages_kept e (stages_before p mask Kept x))
              (above e y r.0 (stages_before p mask Kept x) (omega (arith, r.1, shown_staged e x, shown_staged e y))),
        ))
        (λ e. (
          λ m. absurd (is_in_none y (rw (for_plain x hx e) at m)),
          λ r. absurd (omega (arith, r.1, shown_plain e x, shown_plain e y)),
        ))
        (decided p.settles)
      where
        below : p.settles ≡ true → (y : ℕ) → is_in y Kept ≡ true → (n : ℕ) → n ≡ n →
            is_in y (stages_to n p mask within) ≡ true → stages_before p mask Kept y < n
        below e y k zero q m = absurd (stages_none p mask within y m)
        below e y k (suc n) q m = let l = upto_stage y k e n m in omega arith

        above : p.settles ≡ true → (y : ℕ) → is_in y Kept ≡ true → (n : ℕ) → stages_before p mask Kept y < n →
            is_in y (stages_to n p mask within) ≡ true
        above e y k zero l = absurd (omega arith)
        above e y k (suc n) l = stage_upto y k e n (omega arith)

    -- a state of the same stage is worked out from the same
    pub same_stage : (y : ℕ) → is_in y Kept ≡ true → shown_stage y ≡ shown_stage x →
        stage_for p mask Kept y ≡ stage_for p mask Kept x
    same_stage y hy q =
        ⊎_elim
        (λ e.
        let n : stages_before p mask Kept y ≡ stages_before p mask Kept x =
        omega (arith, q, shown_staged e x, shown_staged e y) in
        for_staged y hy e ∙ ap (λ k. stage_after k p mask Kept) n ∙ sym (for_staged x hx e))
        (λ e. for_plain y hy e ∙ sym (for_plain x hx e))
        (decided p.settles)

    -- the test for leaving is a move wholly into earlier stages
    pub exits_iff : (y : ℕ) →
        ((stage_for p mask Kept x).exits y ≡ true) ↔ (can p mask (stage_for p mask Kept x).earlier y ≡ true)
    unfolding stage_after
    exits_iff y = (
      (for_sound x hx).leads y,
      λ c.
          ⊎_elim
          (λ e. rw (for_staged x hx e) (rw (for_staged x hx e) at c))
          (λ e. absurd (can_none p mask y (rw (for_plain x hx e) at c)))
          (decided p.settles),
    )

    -- where the plant settles a state is settled or can leave
    pub settled_or_leaves : p.settles ≡ true →
        (settled p x ≡ true) ⊎ ((stage_for p mask Kept x).exits x ≡ true)
    unfolding stage_after
    settled_or_leaves e =
        let n = stages_before p mask Kept x in
        let r = stages_calm p mask (λ y. is_in y Kept) n x (before_in p mask Kept x (in_stages x hx e)) in
        ⊎_elim (λ t. inl t) (λ t. inr (rw (for_staged x hx e) t)) r.2
