-- The rows of a stage: in a sound stage the reach to a goal is what waits and listed moves are made of. Assumes nothing.
use mathlib.Core.Path.{◌≡◌, refl, sym, ap, ◌∙◌}
use mathlib.Core.Logic.{⊎_elim}
use mathlib.Core.Bool.{Bool, true, false, ◌&&◌, ◌||◌}
use mathlib.Core.List.{List, [], ◌∷◌}
use Prim.Native.Nat.{ℕ, zero, suc, ◌<◌}
use native.Mathlib.Omega.{arith}
use lib.Dec.{eqb, ltb}
use lib.ListN.{length, get_or}
use Rattle.statements.specs.Sets.{iterate, is_in, filter}
use Rattle.statements.specs.Plants.{Plant, in_goal, move_into, can}
use Rattle.statements.specs.Kept.{grown, target, forced, Stage, level, wait_in, nearer, landing}
use Rattle.sets.proofs.Tests.{decided}
use Rattle.sets.proofs.Members.{Sifted, filter_same, sifted_filter, sifted_same, is_in_here, is_in_there}
use Rattle.kept.proofs.Reach.{steps_sifted}
use Rattle.kept.proofs.Waits.{Sound, steps_level, level_kept, wait_level, level_wait, nearer_holds, nearer_in_lem}
use Rattle.kept.proofs.Waits.{landing_exit, landing_nearer}
use Rattle.solve.specs.Reached.{goes, within, before, found_by, step_of, reached, reached_by}

-- a test that holds of every member leaves the list as it is
pub filter_whole : (f : ℕ → Bool) (xs : List ℕ) → ((x : ℕ) → is_in x xs ≡ true → f x ≡ true) → filter f xs ≡ xs
unfolding filter
filter_whole f [] h = refl
filter_whole f (x ∷ xs) h = rw (h x (is_in_here x xs), filter_whole f xs (λ y m. h y (is_in_there y x xs m))) refl

module _ (p : Plant) (mask : ℕ) (leave : List ℕ) (s : Stage) (some_goal : 0 < p.goals) (sound : Sound p mask s)
    (agree : (x : ℕ) → is_in x s.through ≡ true → goes p leave x ≡ s.exits x)
    (lowest : (x : ℕ) → is_in x s.through ≡ true → s.exits x ≡ true → get_or leave x 0 ≡ move_into p mask s.earlier x)
    (i : ℕ) (i_goal : i < p.goals) where
  abbrev kept : List ℕ
  kept = s.through

  abbrev W : ℕ → ℕ
  W x = wait_in p mask s.exits s.through i x

  -- the reach starts from the same states
  target_same : target p mask (goes p leave) kept i ≡ target p mask s.exits kept i
  unfolding target
  target_same =
      filter_same (λ x. goes p leave x || (in_goal p i x && can p mask kept x))
      (λ x. s.exits x || (in_goal p i x && can p mask kept x)) kept
      (λ x m. ap (λ b. b || (in_goal p i x && can p mask kept x)) (agree x m))

  pub forced_same : forced p mask (goes p leave) kept i ≡ forced p mask s.exits kept i
  unfolding forced
  forced_same = ap (iterate (length kept) (grown p mask kept)) target_same

  -- its steps are the levels of the waits
  within_level : (n : ℕ) → within p mask leave kept i n ≡ level p mask s.exits kept i n
  unfolding within
  within_level n = ap (iterate n (grown p mask kept)) target_same ∙ steps_level p mask s some_goal sound i i_goal n

  -- so a state is reached in as many steps as its wait
  step_wait : (x : ℕ) → step_of p mask leave kept i x ≡ W x
  unfolding step_of wait_in
  step_wait x = simp within_level

  level_sifted : (n : ℕ) → Sifted kept (level p mask s.exits kept i n)
  unfolding level
  level_sifted n =
      steps_sifted p mask kept (filter (λ x. s.exits x || in_goal p i x) kept)
      (sifted_filter (λ x. s.exits x || in_goal p i x) kept) n

  nearer_sifted : (w : ℕ) → Sifted kept (nearer p mask s.exits kept i w)
  unfolding nearer
  nearer_sifted w = sifted_filter (λ y. eqb w 0 || ltb (W y) w) kept

  nearer_none : nearer p mask s.exits kept i 0 ≡ kept
  unfolding nearer
  nearer_none = filter_whole (λ y. eqb 0 0 || ltb (W y) 0) kept (λ y m. refl)

  within_nearer : (n : ℕ) → within p mask leave kept i n ≡ nearer p mask s.exits kept i (suc n)
  within_nearer n =
      within_level n
      ∙ sifted_same kept (level p mask s.exits kept i n) (nearer p mask s.exits kept i (suc n)) (level_sifted n)
      (nearer_sifted (suc n))
      (λ y m. let k = level_kept p mask s some_goal sound i i_goal n y m in
      nearer_in_lem p mask s some_goal sound i i_goal (suc n) y k
      (λ l. let w = level_wait p mask s some_goal sound i i_goal y k n m in omega arith))
      (λ y m. let r = nearer_holds p mask s some_goal sound i i_goal (suc n) y m in
      wait_level p mask s some_goal sound i i_goal y r.0 n (let l = r.1 (omega arith) in omega arith))

  -- a listed move may end in what was reached before, where a state cannot leave
  before_landing : (x : ℕ) → s.exits x ≡ false → (w : ℕ) → W x ≡ w → before p mask leave kept i w ≡ landing p mask s i x
  unfolding before
  before_landing x e zero q =
      sym (landing_nearer p mask s some_goal sound i i_goal x e ∙ ap (nearer p mask s.exits kept i) q ∙ nearer_none)
  before_landing x e (suc n) q =
      within_nearer n
      ∙ sym (landing_nearer p mask s some_goal sound i i_goal x e ∙ ap (nearer p mask s.exits kept i) q)

  -- the move of a state is the listed one
  found_landing : (x : ℕ) → is_in x kept ≡ true → found_by p mask leave kept i (W x) x ≡ move_into p mask (landing p mask s i x) x
  unfolding found_by
  found_landing x m =
      ⊎_elim
      (λ e. rw (agree x m ∙ e, landing_exit p mask s some_goal sound i i_goal x e) (lowest x m e))
      (λ e.
      let stays : goes p leave x ≡ false = agree x m ∙ e in
      rw stays (ap (λ ys. move_into p mask ys x) (before_landing x e (W x) refl)))
      (decided (s.exits x))

  -- the reach leaves the wait and the listed move of every state of the stage
  pub stage_reached : (x : ℕ) → is_in x kept ≡ true → (reached p mask leave kept i x ≡ W x) ×
      (reached_by p mask leave kept i x ≡ move_into p mask (landing p mask s i x) x)
  unfolding reached reached_by
  stage_reached x m = (
    rw (forced_same, sound.forces x i m i_goal) (step_wait x),
    rw (forced_same, sound.forces x i m i_goal)
        (ap (λ w. found_by p mask leave kept i w x) (step_wait x) ∙ found_landing x m),
  )
