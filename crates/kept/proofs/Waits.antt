-- Waits in a stage: below the number of states it is worked out through, at most n exactly in level n; the listed move
-- goes into earlier stages from a state that can leave for these, and otherwise into the states of no later stage, above
-- wait 0 into those with a smaller wait. Assumes nothing.
use mathlib.Core.Path.{◌≡◌, refl, ap}
use mathlib.Core.Logic.{◌⊎◌, ⊎_elim}
use mathlib.Core.Bool.{Bool, true, false, ◌&&◌, ◌||◌}
use mathlib.Core.List.{List, [], ◌∷◌}
use Prim.Native.Nat.{ℕ, zero, suc, ◌-◌, ◌≤◌, ◌<◌}
use native.Mathlib.Omega.{arith}
use lib.Dec.{eqb, ltb}
use lib.ListN.{length}
use borrow.Author.Tests.{eqb-true, ltb-true, lt-ltb, eq-eqb, leb-false}
use Rattle.statements.specs.Sets.{iterate, is_in, filter}
use Rattle.statements.specs.Plants.{Plant, in_goal, ends, available, goes_into, move_into, can}
use Rattle.statements.specs.Kept.{grown, target, forced, Stage, level, wait_in, nearer, landing}
use Rattle.sets.proofs.Tests.{decided, same_number, not_both, or_left, or_right, or_cases}
use Rattle.sets.proofs.Members.{Sifted, sifted_filter, sifted_member, filter_same, filter_holds, filter_in, is_in_none}
use Rattle.sets.proofs.First.{first_holds, first_least}
use Rattle.sets.proofs.Iterate.{iterate_still}
use Rattle.kept.proofs.Moves.{Sub, MovesBelow, can_more, can_move, can_not, available_end, into_available}
use Rattle.kept.proofs.Moves.{into_ends}
use Rattle.kept.proofs.Reach.{grown_holds, grown_can, steps_full, steps_later, steps_sifted, forced_least}
use Rattle.kept.proofs.Reach.{target_holds}

and_with : (a b : Bool) → b ≡ true → (a && b) ≡ a
and_with true b e = e
and_with false b e = refl

-- a set with a member is not empty
pub has_length : (y : ℕ) (ys : List ℕ) → is_in y ys ≡ true → 0 < length ys
has_length y [] h = absurd (is_in_none y h)
has_length y (z ∷ zs) h = omega arith

-- a stage is sound: every goal, or a state that can leave, is forced from every state of no later stage, through these;
-- those of earlier stages are among them, and can leave; and there is a move into these where the test says so
pub record Sound (p : Plant) (mask : ℕ) (s : Stage) : Type 0 where
  pub forces : (x i : ℕ) → is_in x s.through ≡ true → i < p.goals →
      is_in x (forced p mask s.exits s.through i) ≡ true
  pub lower : Sub s.earlier s.through
  pub leads : (x : ℕ) → s.exits x ≡ true → can p mask s.earlier x ≡ true
  pub over : (x : ℕ) → is_in x s.earlier ≡ true → s.exits x ≡ true

module _ (p : Plant) (mask : ℕ) (s : Stage) (some_goal : 0 < p.goals) (sound : Sound p mask s) where
  abbrev done : ℕ → Bool
  done = s.exits

  abbrev kept : List ℕ
  kept = s.through

  -- a state of the stage can go on through it
  pub kept_can : (x : ℕ) → is_in x kept ≡ true → can p mask kept x ≡ true
  kept_can x h =
      (filter_holds (can p mask kept) kept x
      (forced_least p mask kept done 0 (filter (can p mask kept) kept)
      (λ y t. let r = target_holds p mask kept done 0 y t in
      filter_in (can p mask kept) kept y r.0
      (⊎_elim (λ e. can_more p mask mask s.earlier kept y (λ u b. b) sound.lower (sound.leads y e))
      (λ e. e.1) r.1))
      (λ y a c. filter_in (can p mask kept) kept y a
      (can_more p mask mask (filter (can p mask kept) kept) kept y (λ u e. e)
      (λ z m. (filter_holds (can p mask kept) kept z m).0) c))
      x (sound.forces x 0 h some_goal))).1

  module _ (i : ℕ) (i_goal : i < p.goals) where
    abbrev met : ℕ → Bool
    met x = done x || in_goal p i x

    start_sifted : Sifted kept (filter met kept)
    start_sifted = sifted_filter met kept

    -- level 0 is the goal, and where a state can leave
    pub level_goal : (x : ℕ) → is_in x (level p mask done kept i 0) ≡ true →
        (done x ≡ true) ⊎ (in_goal p i x ≡ true)
    unfolding level iterate
    level_goal x h = or_cases (done x) (in_goal p i x) (filter_holds met kept x h).1

    pub goal_level : (x : ℕ) → is_in x kept ≡ true → in_goal p i x ≡ true → is_in x (level p mask done kept i 0) ≡ true
    unfolding level iterate
    goal_level x h g = filter_in met kept x h (or_right (done x) (in_goal p i x) g)

    pub exit_level : (x : ℕ) → is_in x kept ≡ true → done x ≡ true → is_in x (level p mask done kept i 0) ≡ true
    unfolding level iterate
    exit_level x h g = filter_in met kept x h (or_left (done x) (in_goal p i x) g)

    pub level_later : (n m : ℕ) → n ≤ m → Sub (level p mask done kept i n) (level p mask done kept i m)
    unfolding level
    level_later n m l = steps_later p mask kept (filter met kept) start_sifted n m l

    pub level_kept : (n : ℕ) → Sub (level p mask done kept i n) kept
    unfolding level
    level_kept n x h =
        sifted_member kept (iterate n (grown p mask kept) (filter met kept))
        (steps_sifted p mask kept (filter met kept) start_sifted n) x h

    -- a state of the next level is in this one or has a move into it
    pub level_step : (n x : ℕ) → is_in x (level p mask done kept i (suc n)) ≡ true →
        (is_in x (level p mask done kept i n) ≡ true) ⊎ (can p mask (level p mask done kept i n) x ≡ true)
    unfolding level iterate
    level_step n x h = (grown_holds p mask kept (iterate n (grown p mask kept) (filter met kept)) x h).1

    pub level_can : (n x : ℕ) → is_in x kept ≡ true → can p mask (level p mask done kept i n) x ≡ true →
        is_in x (level p mask done kept i (suc n)) ≡ true
    unfolding level iterate
    level_can n x k h = grown_can p mask kept (iterate n (grown p mask kept) (filter met kept)) x k h

    -- every kept state of the goal can go on, so that the steps from the target are the levels
    pub steps_level : (n : ℕ) → iterate n (grown p mask kept) (target p mask done kept i) ≡ level p mask done kept i n
    unfolding level target
    steps_level n =
        ap (iterate n (grown p mask kept))
        (filter_same (λ z. done z || (in_goal p i z && can p mask kept z)) met kept
        (λ x m. ap (λ b. done x || b) (and_with (in_goal p i x) (can p mask kept x) (kept_can x m))))

    -- the last level holds every kept state
    forced_is_level : forced p mask done kept i ≡ level p mask done kept i (length kept)
    unfolding forced
    forced_is_level = steps_level (length kept)

    -- a level that is not empty leads down to the goal
    level_bottom : (n x : ℕ) → is_in x (level p mask done kept i n) ≡ true →
        (y : ℕ) × (is_in y (level p mask done kept i 0) ≡ true)
    level_bottom zero x h = (x, h)
    level_bottom (suc n) x h =
        ⊎_elim
        (λ m. level_bottom n x m)
        (λ c. let r = can_move p mask (level p mask done kept i n) x c in
        let u = move_into p mask (level p mask done kept i n) x in let e =
        available_end p mask x u (into_available p mask (level p mask done kept i n) x u r.1) in
        level_bottom n e.0 (into_ends p mask (level p mask done kept i n) x u r.1 e.0 e.1))
        (level_step n x h)

    -- the levels stand still one step before there are as many as kept states
    pub level_last : (x : ℕ) → is_in x kept ≡ true → is_in x (level p mask done kept i (length kept - 1)) ≡ true
    unfolding level iterate
    level_last x h =
        let m : is_in x (level p mask done kept i (length kept)) ≡ true = rw (← forced_is_level) (sound.forces x i h i_goal) in
        let b = level_bottom (length kept) x m in
        let l = has_length b.0 (filter met kept) b.1 in
        let full = steps_full p mask kept (filter met kept) start_sifted (length kept - 1) (omega arith) in
        rw (iterate_still (length kept - 1) (length kept) (grown p mask kept) (filter met kept) full
        (omega arith)) at m

    module _ (x : ℕ) (is_kept : is_in x kept ≡ true) where
      -- a wait is below the number of kept states
      pub wait_short : wait_in p mask done kept i x < length kept
      unfolding wait_in
      wait_short =
          let l = has_length x kept is_kept in
          let k = first_least (length kept) 0 (λ n. is_in x (level p mask done kept i n)) (length kept - 1) (omega arith)
          (omega arith) (level_last x is_kept) in
          omega arith

      -- it is at most n exactly in level n
      pub wait_level : (n : ℕ) → wait_in p mask done kept i x ≤ n → is_in x (level p mask done kept i n) ≡ true
      unfolding wait_in
      wait_level n l =
          level_later (wait_in p mask done kept i x) n l x
          (first_holds (length kept) 0 (λ k. is_in x (level p mask done kept i k)) (let s = wait_short in omega arith))

      pub level_wait : (n : ℕ) → is_in x (level p mask done kept i n) ≡ true → wait_in p mask done kept i x ≤ n
      unfolding wait_in
      level_wait n h =
          ⊎_elim
          (λ e. let l = ltb-true n (length kept) e in
          first_least (length kept) 0 (λ k. is_in x (level p mask done kept i k)) n (omega arith) (omega arith) h)
          (λ e. let s = wait_short in omega (arith, leb-false (suc n) (length kept) e))
          (decided (ltb n (length kept)))

      -- it is 0 in the goal and where the state can leave, and nowhere else
      pub wait_goal : wait_in p mask done kept i x ≡ 0 → (done x ≡ true) ⊎ (in_goal p i x ≡ true)
      wait_goal e = level_goal x (wait_level 0 (omega arith))

      pub goal_wait : in_goal p i x ≡ true → wait_in p mask done kept i x ≡ 0
      goal_wait e = let l = level_wait 0 (goal_level x is_kept e) in omega arith

      pub wait_exit : done x ≡ true → wait_in p mask done kept i x ≡ 0
      wait_exit e = let l = level_wait 0 (exit_level x is_kept e) in omega arith

    -- where the listed move may end
    pub nearer_holds : (w y : ℕ) → is_in y (nearer p mask done kept i w) ≡ true →
        (is_in y kept ≡ true) × (0 < w → wait_in p mask done kept i y < w)
    unfolding nearer
    nearer_holds w y h =
        let r = filter_holds (λ z. eqb w 0 || ltb (wait_in p mask done kept i z) w) kept y h in (
          r.0,
          λ l. ⊎_elim (λ e. absurd (omega (arith, eqb-true w 0 e))) (λ e. ltb-true (wait_in p mask done kept i y) w e)
              (or_cases (eqb w 0) (ltb (wait_in p mask done kept i y) w) r.1),
        )

    pub nearer_in_lem : (w y : ℕ) → is_in y kept ≡ true → (0 < w → wait_in p mask done kept i y < w) →
        is_in y (nearer p mask done kept i w) ≡ true
    unfolding nearer
    nearer_in_lem w y k f =
        filter_in (λ z. eqb w 0 || ltb (wait_in p mask done kept i z) w) kept y k
        (⊎_elim
        (λ e. or_left (eqb w 0) (ltb (wait_in p mask done kept i y) w) (eq-eqb w 0 e))
        (λ d. or_right (eqb w 0) (ltb (wait_in p mask done kept i y) w)
        (lt-ltb (wait_in p mask done kept i y) w (f (omega arith))))
        (same_number w 0))

    -- there is a move into it
    pub nearer_can : (x : ℕ) → is_in x kept ≡ true →
        can p mask (nearer p mask done kept i (wait_in p mask done kept i x)) x ≡ true
    nearer_can x is_kept = go (wait_in p mask done kept i x) refl
      where
        go : (w : ℕ) → wait_in p mask done kept i x ≡ w → can p mask (nearer p mask done kept i w) x ≡ true
        go zero e =
            can_more p mask mask kept (nearer p mask done kept i 0) x (λ u b. b)
            (λ y k. nearer_in_lem 0 y k (λ l. absurd (omega arith))) (kept_can x is_kept)
        go (suc n) e =
            can_more p mask mask (level p mask done kept i n) (nearer p mask done kept i (suc n)) x (λ u b. b)
            (λ y m. let k = level_kept n y m in
            nearer_in_lem (suc n) y k (λ l. let w = level_wait y k n m in omega arith))
            (⊎_elim (λ m. absurd (omega (arith, level_wait x is_kept n m))) (λ c. c)
            (level_step n x (wait_level x is_kept (suc n) (omega arith))))

    -- where the listed move of a state may end, and that there is a move into it
    pub landing_exit : (x : ℕ) → done x ≡ true → landing p mask s i x ≡ s.earlier
    unfolding landing
    landing_exit x e = rw e refl

    pub landing_nearer : (x : ℕ) → done x ≡ false →
        landing p mask s i x ≡ nearer p mask done kept i (wait_in p mask done kept i x)
    unfolding landing
    landing_nearer x e = rw e refl

    pub landing_can : (x : ℕ) → is_in x kept ≡ true → can p mask (landing p mask s i x) x ≡ true
    landing_can x k =
        ⊎_elim (λ e. rw (landing_exit x e) (sound.leads x e)) (λ e. rw (landing_nearer x e) (nearer_can x k))
        (decided (done x))

    -- it is among the states of no later stage
    pub landing_through : (x y : ℕ) → is_in y (landing p mask s i x) ≡ true → is_in y kept ≡ true
    landing_through x y h =
        ⊎_elim (λ e. sound.lower y (rw (landing_exit x e) at h))
        (λ e. (nearer_holds (wait_in p mask done kept i x) y (rw (landing_nearer x e) at h)).0) (decided (done x))

    -- above wait 0 the wait is smaller there
    pub landing_less : (x y : ℕ) → is_in x kept ≡ true → is_in y (landing p mask s i x) ≡ true →
        0 < wait_in p mask done kept i x → wait_in p mask done kept i y < wait_in p mask done kept i x
    landing_less x y k h l =
        ⊎_elim (λ e. absurd (let w = wait_exit x k e in omega arith))
        (λ e. (nearer_holds (wait_in p mask done kept i x) y (rw (landing_nearer x e) at h)).1 l) (decided (done x))

    -- the lowest move goes there
    pub landing_move : (x : ℕ) → is_in x kept ≡ true →
        (move_into p mask (landing p mask s i x) x < p.moves) ×
        (goes_into p mask (landing p mask s i x) x (move_into p mask (landing p mask s i x) x) ≡ true)
    landing_move x k = can_move p mask (landing p mask s i x) x (landing_can x k)

    -- a state that is not in level n is not in the goal and cannot leave, and above level 0 every available move may miss
    -- the level below
    pub far_goal : (n x : ℕ) → is_in x kept ≡ true → is_in x (level p mask done kept i n) ≡ false →
        (done x ≡ true) ⊎ (in_goal p i x ≡ true) → ⊥
    far_goal n x k f g =
        not_both (level_later 0 n (omega arith) x (⊎_elim (exit_level x k) (goal_level x k) g)) f

    pub far_step : MovesBelow p → (n x u : ℕ) → is_in x kept ≡ true → is_in x (level p mask done kept i (suc n)) ≡ false →
        available p mask x u ≡ true →
        (y : ℕ) × (is_in y (ends p x u) ≡ true) × (is_in y (level p mask done kept i n) ≡ false)
    far_step b n x u k f a =
        ⊎_elim
        (λ c. absurd (not_both (level_can n x k c) f))
        (λ c. can_not p mask (level p mask done kept i n) x u b c a)
        (decided (can p mask (level p mask done kept i n) x))
