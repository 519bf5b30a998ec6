-- What the entries of a kept state are worked out from is the same, on a closed part, in two plants that are alike
-- there; and so are its waits and listed moves. Assumes nothing.
use mathlib.Core.Path.{◌≡◌, refl, sym, subst, ◌∙◌, ap, ap₂}
use mathlib.Core.Bool.{Bool, true, false, ◌||◌}
use mathlib.Core.List.{List, []}
use Prim.Native.Nat.{ℕ, suc, ◌<◌}
use native.Mathlib.Omega.{arith}
use lib.Dec.{eqb, ltb}
use Rattle.statements.specs.Sets.{pick, is_in}
use Rattle.statements.specs.Plants.{Plant}
use Rattle.statements.specs.Kept.{nowhere, stages_to, kept_within, stages_before, Stage, stage_after, stage_for, wait_in}
use Rattle.statements.specs.Kept.{wait_of, nearer, landing, listed_move}
use Rattle.kept.proofs.Waits.{Sound, wait_level, level_wait}
use Rattle.kept.proofs.Kept.{for_sound, for_through}
use Rattle.kept.proofs.Alike.{Alike, Agrees, Same, same_filter, move_is, can_is, level_is, stages_is, kept_is}
use Rattle.kept.proofs.Alike.{before_is}

module _ (p q : Plant) (mask : ℕ) (C : ℕ → Type 0) (a : Alike p q mask C) where
  -- two stages that are the same there
  record SameStage (s t : Stage) : Type 0 where
    pub low : Same C s.earlier t.earlier
    pub out : Agrees C s.exits t.exits
    pub through_is : Same C s.through t.through

  -- what a state's entries are worked out from, with kept sets that have the same members there
  for_is : (kept other : List ℕ) → Same C kept other → (x : ℕ) → C x →
      SameStage (stage_for p mask kept x) (stage_for q mask other x)
  unfolding stage_for stage_after
  for_is kept other both x c =
      subst (λ (s : Stage). SameStage s (stage_for q mask other x))
      (sym (ap₂ (λ t k. pick t (stage_after k p mask kept) (record { earlier = []; exits = nowhere; through = kept }))
      a.settles_are (before_is p q mask C a kept other both x c)))
      (by_sort q.settles (stages_before q mask other x))
    where
      by_sort : (t : Bool) (k : ℕ) →
          SameStage (pick t (stage_after k p mask kept) (record { earlier = []; exits = nowhere; through = kept }))
          (pick t (stage_after k q mask other) (record { earlier = []; exits = nowhere; through = other }))
      by_sort true k =
          let v : ℕ → Bool = λ y. is_in y kept in
          let w : ℕ → Bool = λ y. is_in y other in
          let below = stages_is p q mask C a v w both k in
          record {
            low = below;
            out = can_is p q mask C a (stages_to k p mask v) (stages_to k q mask w) below;
            through_is = stages_is p q mask C a v w both (suc k);
          }
      by_sort false k = record { low = λ y l. refl; out = λ y l. refl; through_is = both }

  -- waits and landings, worked out from two sound stages that are the same there
  module _ (some_goal : 0 < p.goals) (s t : Stage) (same : SameStage s t) (sound : Sound p mask s)
      (other_sound : Sound q mask t) (i : ℕ) (i_goal : i < p.goals) where
    wait_in_lem : (x : ℕ) → C x → is_in x s.through ≡ true →
        wait_in p mask s.exits s.through i x ≡ wait_in q mask t.exits t.through i x
    wait_in_lem x c k =
        let e = a.goals_are in
        let m = sym (same.through_is x c) ∙ k in
        let w = wait_in p mask s.exits s.through i x in
        let v = wait_in q mask t.exits t.through i x in
        let levels =
        level_is p q mask C a s.through t.through same.through_is s.exits t.exits same.out i in
        let up = level_wait q mask t (omega arith) other_sound i (omega arith) x m w
        (sym (levels w x c) ∙ wait_level p mask s some_goal sound i i_goal x k w (omega arith)) in
        let down = level_wait p mask s some_goal sound i i_goal x k v
        (levels v x c ∙ wait_level q mask t (omega arith) other_sound i (omega arith) x m v (omega arith)) in
        omega arith

    landing_is : (x : ℕ) → C x → is_in x s.through ≡ true → Same C (landing p mask s i x) (landing q mask t i x)
    unfolding landing nearer
    landing_is x c k =
        rw (same.out x c, wait_in_lem x c k) (by_exit (t.exits x) (wait_in q mask t.exits t.through i x))
      where
        by_exit : (b : Bool) (w : ℕ) →
            Same C (pick b s.earlier (nearer p mask s.exits s.through i w))
            (pick b t.earlier (nearer q mask t.exits t.through i w))
        by_exit true w = same.low
        by_exit false w =
            same_filter C (λ y. eqb w 0 || ltb (wait_in p mask s.exits s.through i y) w)
            (λ y. eqb w 0 || ltb (wait_in q mask t.exits t.through i y) w) s.through t.through
            (λ y l m. ap (λ v. eqb w 0 || ltb v w) (wait_in_lem y l m)) same.through_is

  -- of a kept state
  module _ (some_goal : 0 < p.goals) (v w : ℕ → Bool) (within : Agrees C v w) (i : ℕ) (i_goal : i < p.goals)
      (x : ℕ) (c : C x) (is_kept : is_in x (kept_within p mask v) ≡ true) where
    abbrev Here : List ℕ
    Here = kept_within p mask v

    abbrev There : List ℕ
    There = kept_within q mask w

    other_goal : 0 < q.goals
    other_goal = let e = a.goals_are in omega arith

    same_stage : SameStage (stage_for p mask Here x) (stage_for q mask There x)
    same_stage = for_is Here There (kept_is p q mask C a v w within) x c

    here_sound : Sound p mask (stage_for p mask Here x)
    here_sound = for_sound p mask v some_goal x is_kept

    there_sound : Sound q mask (stage_for q mask There x)
    there_sound = for_sound q mask w other_goal x (sym (kept_is p q mask C a v w within x c) ∙ is_kept)

    pub wait_is : wait_of p mask Here i x ≡ wait_of q mask There i x
    unfolding wait_of
    wait_is =
        wait_in_lem some_goal (stage_for p mask Here x) (stage_for q mask There x) same_stage here_sound there_sound i i_goal
        x c (for_through p mask v some_goal x is_kept)

    pub listed_is : listed_move p mask Here i x ≡ listed_move q mask There i x
    unfolding listed_move
    listed_is =
        let s = stage_for p mask Here x in
        let t = stage_for q mask There x in
        move_is p q mask C a (landing p mask s i x) (landing q mask t i x)
        (landing_is some_goal s t same_stage here_sound there_sound i i_goal x c
        (for_through p mask v some_goal x is_kept)) x c
