-- Kept states are those from which a strategy wins, the states of the first stages those from which one stays settled
-- until it comes to earlier ones, and a wait is at most n where a strategy forces what it is for within n moves: the
-- book's moves are such strategies, and from other states the opponent escapes. Assumes nothing.
use mathlib.Core.Path.{◌≡◌, refl, sym, ap, ◌∙◌}
use mathlib.Core.Logic.{◌↔◌, ◌⊎◌, inl, inr, ⊎_elim}
use mathlib.Core.Bool.{Bool, true, false, ◌||◌}
use mathlib.Core.List.{List}
use Prim.Native.Nat.{ℕ, ◌≤◌, ◌<◌}
use native.Mathlib.Omega.{arith}
use Rattle.statements.specs.Sets.{is_in}
use Rattle.statements.specs.Plants.{Plant, in_goal, settled, ends, available, can}
use Rattle.statements.specs.Kept.{nowhere, held_within, stages_to, kept_within, Stage, stage_for, level}
use Rattle.statements.specs.Books.{wait_at, move_at, stage_at, book_within}
use Rattle.statements.specs.Strategies.{turns, Wins, Forces, following}
use Rattle.sets.proofs.Tests.{decided, not_both, and_true, and_left, or_left, or_right}
use Rattle.kept.proofs.Moves.{available_end, can_not}
use Rattle.kept.proofs.Held.{held_within_lem}
use Rattle.kept.proofs.Stages.{stages_suc, stages_full, calm}
use Rattle.kept.proofs.Kept.{kept_plain, kept_staged, kept_within_lem, shown_stage, shown_staged}
use Rattle.kept.proofs.Kept.{same_stage, settled_or_leaves}
use Rattle.kept.proofs.Waits.{level_wait, far_goal, far_step}
use Rattle.kept.proofs.Ranks.{rank_of, goal_of, goal_range, escape}
use Rattle.winning.proofs.Runs.{wins_larger}
use Rattle.winning.proofs.Winners.{Escapes, no_run}
use Rattle.winning.proofs.Following.{Guides, Target, forces, follows}
use Rattle.winning.proofs.Fewest.{too_far}
use Rattle.demands.proofs.Plants.{Given, moves_below, some_goal}
use Rattle.demands.proofs.Rows.{IsKept, CanLeave, lost_kept, book_goals_lem, book_stage, one_stage, sound, here}
use Rattle.demands.proofs.Rows.{book_through, book_earlier, wait_own, no_wait}
use Rattle.demands.proofs.Rules.{rule_iff, book_into}

-- the states at which a test holds
abbrev pub Within : (ℕ → Bool) → ℕ → Type 0
Within within x = within x ≡ true

module _ {p : Plant} {mask : ℕ} {within : ℕ → Bool} (given : Given p mask within) where
  abbrev B : List ℕ
  B = book_within p mask within

  -- stages are counted from 1
  pub from_one : (x : ℕ) → IsKept p mask within x → 0 < stage_at B x
  unfolding shown_stage
  from_one x h =
      ⊎_elim
      (λ e. omega (arith, book_stage given x h, shown_staged p mask within (some_goal given) e x))
      (λ e. omega (arith, one_stage given e x))
      (decided p.settles)

  -- the book guides within kept states
  pub guides : Guides p mask (IsKept p mask within) (CanLeave p mask within) B
  guides =
      record {
        goals = book_goals_lem given;
        shown = λ x h. (lost_kept given x (kept_within_lem p mask within x h).0).1 h;
        met = λ x i h hi e. (no_wait given x h i hi).0 e;
        rule = λ x i h hi. (rule_iff given x h i hi (move_at B x i)).0 (book_into given x h i hi);
        from_one = from_one;
        calm = λ e x h. settled_or_leaves p mask within (some_goal given) x h e;
      }

  -- the opponent escapes from the states that are not held, where these are worked out from states of the set, and a
  -- state that is surely left to it is one of these or has no move into the states held
  module _ (done passes : ℕ → Bool) (inside : (y : ℕ) → passes y ≡ true → within y ≡ true) (sure : ℕ → Type 0)
      (known : (x : ℕ) → within x ≡ true → sure x →
      (passes x ≡ true) ⊎ (can p mask (held_within p mask done passes) x ≡ false)) where
    abbrev Held : List ℕ
    Held = held_within p mask done passes

    range : (y : ℕ) → passes y ≡ true → y < p.states
    range y e = given.below y (inside y e)

    abbrev Answer : ℕ → ℕ → Type 0
    Answer x u = (y : ℕ) × (is_in y (ends p x u) ≡ true) ×
        (within y ≡ true → is_in x Held ≡ false → sure x → (is_in y Held ≡ false) ×
        (passes x ≡ true → passes y ≡ true → (rank_of p mask done passes y ≤ rank_of p mask done passes x) ×
        (in_goal p (goal_of p mask done passes (rank_of p mask done passes x)) x ≡ true →
        rank_of p mask done passes y < rank_of p mask done passes x)))

    -- by rank, where the state is one of those
    by_rank : (x u : ℕ) → passes x ≡ true → is_in x Held ≡ false → available p mask x u ≡ true → Answer x u
    by_rank x u e o a =
        let r = escape p mask done passes (moves_below p given.plant) range x u e o a in (
          r.0,
          r.1,
          λ w q s. (
            ⊎_elim (λ h. absurd (not_both h (outside r.0 r.2))) (λ h. h) (decided (is_in r.0 Held)),
            λ px py. let t = r.2 py in (t.1, t.2),
          ),
        )
      where
        outside : (y : ℕ) → (passes y ≡ true → (is_in y Held ≡ false) × (rank_of p mask done passes y ≤ rank_of p mask done passes x) ×
            (in_goal p (goal_of p mask done passes (rank_of p mask done passes x)) x ≡ true →
            rank_of p mask done passes y < rank_of p mask done passes x)) → is_in y Held ≡ false
        outside y f =
            ⊎_elim (λ t. (f t).0)
            (λ t. ⊎_elim (λ h. absurd (not_both (held_within_lem p mask done passes y h).1 t)) (λ h. h)
            (decided (is_in y Held)))
            (decided (passes y))

    -- otherwise by an end outside, if there is one
    by_end_lem : (x u : ℕ) → within x ≡ true → passes x ≡ false → available p mask x u ≡ true → Answer x u
    by_end_lem x u w e a =
        ⊎_elim
        (λ c.
        let y = available_end p mask x u a in
        (y.0, y.1, λ wy o s. absurd (⊎_elim (λ t. not_both t e) (λ t. not_both c t) (known x w s))))
        (λ c.
        let y = can_not p mask Held x u (moves_below p given.plant) c a in
        (y.0, y.1, λ wy o s. (y.2, λ px. absurd (not_both px e))))
        (decided (can p mask Held x))

    pub escapes :
        Escapes p mask (Within within) (λ x. is_in x Held ≡ false) sure (λ x. passes x ≡ true)
        (rank_of p mask done passes) (goal_of p mask done passes)
    escapes =
        record {
          goal_below = λ x o e. goal_range p mask done passes x (range x e) e o;
          escape = λ x u w a.
              ⊎_elim
              (λ h. let y = available_end p mask x u a in (y.0, y.1, λ wy o. absurd (not_both h o)))
              (λ o. ⊎_elim (λ e. by_rank x u e o a) (λ e. by_end_lem x u w e a) (decided (passes x)))
              (decided (is_in x Held));
        }

  -- where a strategy wins the state is kept
  wins_plain : p.settles ≡ false → (x : ℕ) → Wins p mask (Within within) x → IsKept p mask within x
  wins_plain e x w =
      rw (kept_plain p mask within e)
      (⊎_elim (λ h. h)
      (λ o. absurd (no_run (escapes nowhere within (λ y q. q) (λ y. Unit {0}) (λ y q s. inl q)) x o w.0 w.1.holds
      (λ states moves r n out. tt)
      (λ states moves r out.
      record {
        calms = λ deny. deny (0, λ m l. w.1.holds.stays (turns states moves m) (states m) (r m));
        again = w.1.again states moves r;
      })))
      (decided (is_in x (held_within p mask nowhere within))))

  wins_staged : p.settles ≡ true → (x : ℕ) → Wins p mask (Within within) x → IsKept p mask within x
  wins_staged e x w =
      let n = p.states in
      let full = stages_full p mask within (some_goal given) n (omega arith) in
      rw (kept_staged p mask within e, ← full, stages_suc p mask within n)
      (⊎_elim (λ h. h)
      (λ o. absurd (no_run
      (escapes (can p mask (stages_to n p mask within)) (calm p mask within n)
      (λ y q. and_left (within y) (settled p y || can p mask (stages_to n p mask within) y) q) (λ y. Unit {0})
      (λ y q s. ⊎_elim (λ c. inl c) (λ c. inr (stuck y q c)) (decided (calm p mask within n y))))
      x o w.0 w.1.holds
      (λ states moves r n out. tt)
      (λ states moves r out.
      record {
        calms = λ deny. w.1.settles e states moves r (λ c. deny (
          c.0,
          λ m l.
              and_true (w.1.holds.stays (turns states moves m) (states m) (r m))
              (or_left (settled p (states m)) (can p mask (stages_to n p mask within) (states m)) (c.1 m l)),
        ));
        again = w.1.again states moves r;
      })))
      (decided (is_in x (held_within p mask (can p mask (stages_to n p mask within)) (calm p mask within n)))))
    where
      stuck : (y : ℕ) → within y ≡ true → calm p mask within p.states y ≡ false →
          can p mask (held_within p mask (can p mask (stages_to p.states p mask within)) (calm p mask within p.states)) y
          ≡ false
      stuck y q c =
          let n = p.states in
          rw (← stages_suc p mask within n, stages_full p mask within (some_goal given) n (omega arith))
          (⊎_elim
          (λ t. absurd
          (not_both (and_true q (or_right (settled p y) (can p mask (stages_to n p mask within) y) t)) c))
          (λ t. t)
          (decided (can p mask (stages_to n p mask within) y)))

  -- the kept states are those from which a strategy wins
  pub winners : (x : ℕ) → IsKept p mask within x ↔ Wins p mask (Within within) x
  winners x = (
    λ h.
        wins_larger p mask (IsKept p mask within) (Within within) (λ y k. (kept_within_lem p mask within y k).1) x
        (following B 0, follows guides x 0 h (some_goal given)),
    λ w. ⊎_elim (λ e. wins_staged e x w) (λ e. wins_plain e x w) (decided p.settles),
  )

  -- a kept state's wait is at most n where a strategy forces what it is for within n moves through no later stage
  pub waits :
      (x i n : ℕ) → IsKept p mask within x → i < p.goals →
      (wait_at B x i ≤ n) ↔
      Forces p mask (λ y. IsKept p mask within y × (stage_at B y ≤ stage_at B x)) x
      (Target p (IsKept p mask within) (CanLeave p mask within) B x i) n
  waits x i n h hi = (
    λ l. forces guides x i n h hi l,
    λ f.
        let s = stage_for p mask (kept_within p mask within) x in
        let fine = sound given x h in
        let goal = some_goal given in
        ⊎_elim
        (λ l.
        let w = level_wait p mask s goal fine i hi x (here given x h) n l in
        omega (arith, w, wait_own given x h i hi x h refl))
        (λ far.
        absurd (too_far p mask (λ y. IsKept p mask within y × (stage_at B y ≤ stage_at B x))
        (Target p (IsKept p mask within) (CanLeave p mask within) B x i)
        (λ m y. is_in y (level p mask s.exits s.through i m) ≡ false)
        (λ m y k o t. far_goal p mask s goal fine i hi m y ((book_through given x h y).1 k) o (arrived y t))
        (λ m y u k o a.
        let r = far_step p mask s goal fine i hi (moves_below p given.plant) m y u ((book_through given x h y).1 k) o a in
        (r.0, r.1, λ z. r.2))
        n x far f))
        (decided (is_in x (level p mask s.exits s.through i n))),
  )
    where
      arrived : (y : ℕ) → Target p (IsKept p mask within) (CanLeave p mask within) B x i y →
          ((stage_for p mask (kept_within p mask within) x).exits y ≡ true) ⊎ (in_goal p i y ≡ true)
      arrived y t =
          ⊎_elim (λ g. inr g)
          (λ t. ⊎_elim
          (λ q. inl ((sound given x h).over y ((book_earlier given x h y).1 q)))
          (λ q. inl (ap (λ (s : Stage). s.exits y)
          (sym (same_stage p mask within (some_goal given) x h y q.0
          (sym (book_stage given y q.0) ∙ q.1 ∙ book_stage given x h))) ∙ q.2))
          t)
          t
