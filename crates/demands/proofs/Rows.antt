-- What the rows of a book say: lost states, stages and waits, and that a move of a state may end, by its stage, where the
-- book shows that it is closer. Assumes nothing.
use mathlib.Core.Path.{◌≡◌, refl, sym, ap, ◌∙◌}
use mathlib.Core.Logic.{◌↔◌, ◌⊎◌, inl, inr, ⊎_elim}
use mathlib.Core.Bool.{Bool, true, false, ◌||◌, not}
use mathlib.Core.List.{List}
use Prim.Native.Nat.{ℕ, ◌≤◌, ◌<◌}
use native.Mathlib.Omega.{arith}
use native.Mathlib.Decide.{dec_lt}
use lib.Dec.{eqb, ltb}
use borrow.Author.Tests.{not-false}
use Rattle.statements.specs.Sets.{pick, numbers, is_in}
use Rattle.statements.specs.Plants.{Plant}
use Rattle.statements.specs.Kept.{kept_within, stage_of, Stage, stage_for, wait_in, wait_of, nearer, landing, listed_move}
use Rattle.statements.specs.Books.{book_goals, book_mask, wait_at, move_at, stage_at, staged, is_lost, book_kept}
use Rattle.statements.specs.Books.{book_within}
use Rattle.statements.specs.Strategies.{InGoal}
use Rattle.sets.proofs.Tests.{decided, not_both}
use Rattle.sets.proofs.Members.{Sifted, sifted_sub}
use Rattle.kept.proofs.Kept.{kept_within_lem, for_sound, for_through, earlier_sifted, through_sifted, shown_stage}
use Rattle.kept.proofs.Kept.{through_iff, earlier_iff, same_stage}
use Rattle.kept.proofs.Waits.{Sound, wait_goal, goal_wait, wait_exit, nearer_holds, nearer_in_lem, landing_exit}
use Rattle.kept.proofs.Waits.{landing_nearer}
use Rattle.winning.proofs.Following.{Closer}
use Rattle.decoding.proofs.Header.{read_goals, read_mask, read_staged}
use Rattle.decoding.proofs.Entries.{wait_kept, move_kept, stage_plain, stage_kept}
use Rattle.decoding.proofs.Accepted.{book_lost, book_kept_lem}
use Rattle.demands.proofs.Plants.{Given, some_goal, given_fits}

-- the states kept without leaving those at which a test holds
abbrev pub IsKept : Plant → ℕ → (ℕ → Bool) → ℕ → Type 0
IsKept p mask within x = is_in x (kept_within p mask within) ≡ true

-- of them those that can leave for an earlier stage
abbrev pub CanLeave : Plant → ℕ → (ℕ → Bool) → ℕ → Type 0
CanLeave p mask within x = (stage_for p mask (kept_within p mask within) x).exits x ≡ true

module _ {p : Plant} {mask : ℕ} {within : ℕ → Bool} (given : Given p mask within) where
  -- the book shows as lost the states that are not kept
  pub book_lost_is :
      (x : ℕ) → x < p.states → is_lost (book_within p mask within) x ≡ not (is_in x (kept_within p mask within))
  unfolding book_within
  book_lost_is = book_lost p mask (kept_within p mask within) (given_fits given)

  -- a state is not lost in the book where it is kept
  pub lost_kept : (x : ℕ) → x < p.states → (is_lost (book_within p mask within) x ≡ false) ↔ IsKept p mask within x
  lost_kept x hx = (
    λ e. not-false (is_in x (kept_within p mask within)) (sym (book_lost_is x hx) ∙ e),
    λ h. rw (book_lost_is x hx, h) refl,
  )

  -- it is a book for as many goals as the plant has
  pub book_goals_lem : book_goals (book_within p mask within) ≡ p.goals
  unfolding book_within
  book_goals_lem = read_goals p mask (kept_within p mask within)

  -- with the moves in service
  pub book_mask_lem : book_mask (book_within p mask within) ≡ mask
  unfolding book_within
  book_mask_lem = read_mask p mask (kept_within p mask within)

  -- of the plant's sort
  pub book_sort : staged (book_within p mask within) ≡ p.settles
  unfolding book_within
  book_sort = read_staged p mask (kept_within p mask within) given.plant.sizes.states_least

  -- it keeps the kept states
  pub book_keeps : book_kept (book_within p mask within) ≡ kept_within p mask within
  unfolding book_within
  book_keeps = book_kept_lem p mask (kept_within p mask within) (given_fits given)

  -- where the plant does not settle all rows count as of stage 1
  pub one_stage : p.settles ≡ false → (x : ℕ) → stage_at (book_within p mask within) x ≡ 1
  unfolding book_within
  one_stage e = stage_plain p mask (kept_within p mask within) e given.plant.sizes.states_least

  -- it has a kept state's stage
  pub book_stage : (x : ℕ) → IsKept p mask within x →
      stage_at (book_within p mask within) x ≡ shown_stage p mask within (some_goal given) x
  unfolding book_within shown_stage
  book_stage x h =
      let by_sort : Bool → ℕ = λ t. pick t (stage_of p mask (kept_within p mask within) x) 1 in
      ⊎_elim
      (λ e.
      stage_kept p mask (kept_within p mask within) e x (kept_within_lem p mask within x h).0 h ∙ sym (ap by_sort e))
      (λ e. one_stage e x ∙ sym (ap by_sort e))
      (decided p.settles)

  module _ (x i : ℕ) (h : IsKept p mask within x) (hi : i < p.goals) where
    -- it has a kept state's wait
    pub book_wait : wait_at (book_within p mask within) x i ≡ wait_of p mask (kept_within p mask within) i x
    unfolding book_within
    book_wait = wait_kept p mask (kept_within p mask within) x i (kept_within_lem p mask within x h).0 hi h

    -- and its listed move
    pub listed_move_lem : move_at (book_within p mask within) x i ≡ listed_move p mask (kept_within p mask within) i x
    unfolding book_within
    listed_move_lem = move_kept p mask (kept_within p mask within) x i (kept_within_lem p mask within x h).0 hi h

  module _ (x : ℕ) (hx : IsKept p mask within x) where
    abbrev S : Stage
    S = stage_for p mask (kept_within p mask within) x

    abbrev B : List ℕ
    B = book_within p mask within

    abbrev Next : ℕ → ℕ → Type 0
    Next i y = Closer (IsKept p mask within) (CanLeave p mask within) B x i y

    pub sound : Sound p mask S
    sound = for_sound p mask within (some_goal given) x hx

    pub here : is_in x S.through ≡ true
    here = for_through p mask within (some_goal given) x hx

    -- the states of no later stage, and of earlier ones, as the book shows them
    pub book_through : (y : ℕ) →
        (is_in y S.through ≡ true) ↔ (IsKept p mask within y × (stage_at B y ≤ stage_at B x))
    book_through y =
        let r = through_iff p mask within (some_goal given) x hx y in (
          λ m. let q = r.0 m in (q.0, omega (arith, q.1, book_stage x hx, book_stage y q.0)),
          λ q. r.1 (q.0, omega (arith, q.1, book_stage x hx, book_stage y q.0)),
        )

    pub book_earlier : (y : ℕ) →
        (is_in y S.earlier ≡ true) ↔ (IsKept p mask within y × (stage_at B y < stage_at B x))
    book_earlier y =
        let r = earlier_iff p mask within (some_goal given) x hx y in (
          λ m. let q = r.0 m in (q.0, omega (arith, q.1, book_stage x hx, book_stage y q.0)),
          λ q. r.1 (q.0, omega (arith, q.1, book_stage x hx, book_stage y q.0)),
        )

    module _ (i : ℕ) (hi : i < p.goals) where
      abbrev W : ℕ → ℕ
      W y = wait_in p mask S.exits S.through i y

      -- waits worked out in the stage of x: those of its own stage are the book's, and those of earlier stages 0
      pub wait_own : (y : ℕ) → IsKept p mask within y → stage_at B y ≡ stage_at B x → wait_at B y i ≡ W y
      unfolding wait_of
      wait_own y hy q =
          book_wait y i hy hi
          ∙ ap (λ (s : Stage). wait_in p mask s.exits s.through i y)
          (same_stage p mask within (some_goal given) x hx y hy (sym (book_stage y hy) ∙ q ∙ book_stage x hx))

      pub wait_earlier : (y : ℕ) → IsKept p mask within y → stage_at B y < stage_at B x → W y ≡ 0
      wait_earlier y hy l =
          let m = (book_earlier y).1 (hy, l) in
          wait_exit p mask S (some_goal given) sound i hi y (sound.lower y m) (sound.over y m)

      -- a wait is 0 exactly in the goal and where the state can leave
      pub no_wait : (wait_at B x i ≡ 0) ↔ (InGoal p i x ⊎ CanLeave p mask within x)
      no_wait = (
        λ e.
            ⊎_elim (λ t. inr t) (λ t. inl t)
            (wait_goal p mask S (some_goal given) sound i hi x here (sym (wait_own x hx refl) ∙ e)),
        λ t.
            wait_own x hx refl
            ∙ ⊎_elim (goal_wait p mask S (some_goal given) sound i hi x here)
            (wait_exit p mask S (some_goal given) sound i hi x here) t,
      )

      -- where a move may end by the stage of x is where it is closer in the book
      pub closer_landing : (y : ℕ) → Next i y → is_in y (landing p mask S i x) ≡ true
      closer_landing y c =
          ⊎_elim
          (λ e. rw (landing_exit p mask S (some_goal given) sound i hi x e)
          ((book_earlier y).1 (c.stays, c.leaving e)))
          (λ e. rw (landing_nearer p mask S (some_goal given) sound i hi x e)
          (nearer_in_lem p mask S (some_goal given) sound i hi (W x) y ((book_through y).1 (c.stays, c.no_later)) less))
          (decided (S.exits x))
        where
          less : 0 < W x → W y < W x
          less l =
              let own = wait_own x hx refl in
              elim (dec_lt (stage_at B y) (stage_at B x)) [
                | yes low ↦ omega (arith, l, wait_earlier y c.stays low)
                | no low ↦
                    let same : stage_at B y ≡ stage_at B x = omega (arith, c.no_later) in
                    ⊎_elim (λ w. omega (arith, w, own, wait_own y c.stays same)) (λ w. absurd (omega (arith, w, low)))
                    (c.nearing (omega (arith, l, own)))
              ]

      pub landing_closer : (y : ℕ) → is_in y (landing p mask S i x) ≡ true → Next i y
      landing_closer y m =
          ⊎_elim
          (λ e.
          let q = (book_earlier y).0 (rw (landing_exit p mask S (some_goal given) sound i hi x e) at m) in
          record { stays = q.0; no_later = omega (arith, q.1); leaving = λ l. q.1; nearing = λ l. inr q.1 })
          (λ e.
          let r =
          nearer_holds p mask S (some_goal given) sound i hi (W x) y
          (rw (landing_nearer p mask S (some_goal given) sound i hi x e) at m) in
          let q = (book_through y).0 r.0 in
          record {
            stays = q.0;
            no_later = q.1;
            leaving = λ l. absurd (not_both l e);
            nearing = λ l.
                let own = wait_own x hx refl in
                elim (dec_lt (stage_at B y) (stage_at B x)) [
                  | yes low ↦ inr low
                  | no low ↦
                      let same : stage_at B y ≡ stage_at B x = omega (arith, q.1) in
                      inl (omega (arith, r.1 (omega (arith, l, own)), own, wait_own y q.0 same))
                ];
          })
          (decided (S.exits x))

      pub landing_sifted : Sifted (numbers p.states 0) (landing p mask S i x)
      unfolding nearer
      landing_sifted =
          ⊎_elim
          (λ e. rw (landing_exit p mask S (some_goal given) sound i hi x e)
          (earlier_sifted p mask within (some_goal given) x hx))
          (λ e. rw (landing_nearer p mask S (some_goal given) sound i hi x e)
          (sifted_sub (λ y. eqb (W x) 0 || ltb (W y) (W x)) (numbers p.states 0) S.through
          (through_sifted p mask within (some_goal given) x hx)))
          (decided (S.exits x))
