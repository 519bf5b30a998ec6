-- Two plants that are alike on a closed part, one that no move in service leaves: sets with the same members there
-- lead, step by step, to sets with the same members there, so that kept states and stages are the same there. The sets
-- may have more or fewer states elsewhere. Assumes nothing.
use mathlib.Core.Path.{◌≡◌, refl, sym, ◌∙◌, ap, ap₂}
use mathlib.Core.Bool.{Bool, true, false, ◌&&◌, ◌||◌}
use mathlib.Core.List.{List}
use Prim.Native.Nat.{ℕ, zero, suc, ◌+◌, ◌≤◌}
use native.Mathlib.Omega.{arith}
use lib.Dec.{ltb}
use lib.ListN.{length, get_or}
use borrow.Author.Tests.{le-leb}
use Rattle.statements.specs.Sets.{pick, bit, numbers, first, iterate, is_in, filter}
use Rattle.statements.specs.Plants.{Plant, allowed, in_goal, settled, ends, available, goes_into, move_into, can}
use Rattle.statements.specs.Kept.{nowhere, grown, target, forced, forced_all, held_round, held_within, next_stage, stages_to}
use Rattle.statements.specs.Kept.{kept_within, stages_before, stage_of, level}
use Rattle.sets.proofs.Tests.{same_test, and_true, and_left, and_right}
use Rattle.sets.proofs.First.{first_alike}
use Rattle.sets.proofs.Members.{filter_holds, filter_in, sifted_filter}
use Rattle.sets.proofs.Iterate.{iterate_still}
use Rattle.kept.proofs.Moves.{available_bit, available_end, into_available, into_ends, into_all}
use Rattle.kept.proofs.Reach.{steps_full}
use Rattle.kept.proofs.Waits.{has_length}

-- two plants with the same figures agree on the states of a part that moves in service do not leave
pub record Alike (p q : Plant) (mask : ℕ) (C : ℕ → Type 0) : Type 0 where
  pub states_are : p.states ≡ q.states
  pub moves_are : p.moves ≡ q.moves
  pub goals_are : p.goals ≡ q.goals
  pub settles_are : p.settles ≡ q.settles
  pub label : (x : ℕ) → C x → get_or p.labels x 0 ≡ get_or q.labels x 0
  pub arrows : (x u y : ℕ) → C x → bit u mask ≡ true → is_in y (ends p x u) ≡ is_in y (ends q x u)
  pub closed : (x u y : ℕ) → C x → bit u mask ≡ true → is_in y (ends p x u) ≡ true → C y

-- the other way round
pub turned : (p q : Plant) (mask : ℕ) (C : ℕ → Type 0) → Alike p q mask C → Alike q p mask C
turned p q mask C a =
    record {
      states_are = sym a.states_are;
      moves_are = sym a.moves_are;
      goals_are = sym a.goals_are;
      settles_are = sym a.settles_are;
      label = λ x c. sym (a.label x c);
      arrows = λ x u y c b. sym (a.arrows x u y c b);
      closed = λ x u y c b h. a.closed x u y c b (a.arrows x u y c b ∙ h);
    }

-- tests that agree on the part, and sets with the same members there
abbrev pub Agrees : (ℕ → Type 0) → (ℕ → Bool) → (ℕ → Bool) → Type 0
Agrees C f g = (x : ℕ) → C x → f x ≡ g x

abbrev pub Same : (ℕ → Type 0) → List ℕ → List ℕ → Type 0
Same C xs ys = (x : ℕ) → C x → is_in x xs ≡ is_in x ys

filter_is : (f : ℕ → Bool) (xs : List ℕ) (x : ℕ) → is_in x (filter f xs) ≡ (is_in x xs && f x)
filter_is f xs x =
    same_test (is_in x (filter f xs)) (is_in x xs && f x)
    (λ h. let r = filter_holds f xs x h in and_true r.0 r.1)
    (λ h. filter_in f xs x (and_left (is_in x xs) (f x) h) (and_right (is_in x xs) (f x) h))

-- the members at which tests hold that agree on members
pub same_filter : (C : ℕ → Type 0) (f g : ℕ → Bool) (xs ys : List ℕ) →
    ((x : ℕ) → C x → is_in x xs ≡ true → f x ≡ g x) → Same C xs ys → Same C (filter f xs) (filter g ys)
same_filter C f g xs ys t s x c =
    filter_is f xs x ∙ go (is_in x xs) refl ∙ ap (λ m. m && g x) (s x c) ∙ sym (filter_is g ys x)
  where
    go : (b : Bool) → is_in x xs ≡ b → (is_in x xs && f x) ≡ (is_in x xs && g x)
    go true e = ap (λ m. is_in x xs && m) (t x c e)
    go false e = rw e refl

-- moves, one way
module _ (p q : Plant) (mask : ℕ) (C : ℕ → Type 0) (a : Alike p q mask C) where
  available_to : (x u : ℕ) → C x → available p mask x u ≡ true → available q mask x u ≡ true
  unfolding available
  available_to x u c h =
      let b = available_bit p mask x u h in
      let e = available_end p mask x u h in
      and_true b
      (le-leb 1 (length (ends q x u)) (has_length e.0 (ends q x u) (sym (a.arrows x u e.0 c b) ∙ e.1)))

  into_to : (ys zs : List ℕ) → Same C ys zs → (x u : ℕ) → C x → goes_into p mask ys x u ≡ true →
      goes_into q mask zs x u ≡ true
  into_to ys zs s x u c h =
      let v = into_available p mask ys x u h in
      let b = available_bit p mask x u v in
      into_all q mask zs x u (available_to x u c v)
      (λ y m. let e = a.arrows x u y c b ∙ m in
      sym (s y (a.closed x u y c b e)) ∙ into_ends p mask ys x u h y e)

module _ (p q : Plant) (mask : ℕ) (C : ℕ → Type 0) (a : Alike p q mask C) where
  -- moves into sets
  into_is : (ys zs : List ℕ) → Same C ys zs → (x u : ℕ) → C x → goes_into p mask ys x u ≡ goes_into q mask zs x u
  into_is ys zs s x u c =
      same_test (goes_into p mask ys x u) (goes_into q mask zs x u) (into_to p q mask C a ys zs s x u c)
      (into_to q p mask C (turned p q mask C a) zs ys (λ y d. sym (s y d)) x u c)

  pub move_is : (ys zs : List ℕ) → Same C ys zs → (x : ℕ) → C x → move_into p mask ys x ≡ move_into q mask zs x
  unfolding move_into
  move_is ys zs s x c =
      ap (λ n. first n 0 (goes_into p mask ys x)) a.moves_are ∙
      first_alike q.moves 0 (goes_into p mask ys x) (goes_into q mask zs x) (λ u l h. into_is ys zs s x u c)

  pub can_is : (ys zs : List ℕ) → Same C ys zs → Agrees C (can p mask ys) (can q mask zs)
  unfolding can
  can_is ys zs s x c = ap₂ (λ m n. ltb m n) (move_is ys zs s x c) a.moves_are

  -- what the labels say
  goal_is : (i : ℕ) → Agrees C (in_goal p i) (in_goal q i)
  unfolding in_goal
  goal_is i x c = ap (bit (suc i)) (a.label x c)

  pub allowed_is : Agrees C (allowed p) (allowed q)
  unfolding allowed
  allowed_is x c = ap (bit 0) (a.label x c)

  settled_is : Agrees C (settled p) (settled q)
  unfolding settled
  settled_is x c = ap (bit 9) (a.label x c)

  -- the attractor, within sets with the same members, a run being over at the same states
  module _ (all also : List ℕ) (both : Same C all also) where
    steps_is : (ys zs : List ℕ) → Same C ys zs → (n : ℕ) →
        Same C (iterate n (grown p mask all) ys) (iterate n (grown q mask also) zs)
    unfolding iterate grown
    steps_is ys zs s zero = s
    steps_is ys zs s (suc n) =
        let before = iterate n (grown p mask all) ys in
        let other = iterate n (grown q mask also) zs in
        let same = steps_is ys zs s n in
        same_filter C (λ x. is_in x before || can p mask before x) (λ x. is_in x other || can q mask other x) all also
        (λ x c m. ap₂ (λ m n. m || n) (same x c) (can_is before other same x c)) both

    module _ (d e : ℕ → Bool) (over : Agrees C d e) (i : ℕ) where
      target_is : Same C (target p mask d all i) (target q mask e also i)
      unfolding target
      target_is =
          same_filter C (λ x. d x || (in_goal p i x && can p mask all x))
          (λ x. e x || (in_goal q i x && can q mask also x)) all also
          (λ x c m. ap₂ (λ m n. m || n) (over x c)
          (ap₂ (λ m n. m && n) (goal_is i x c) (can_is all also both x c))) both

      pub level_is : (n : ℕ) → Same C (level p mask d all i n) (level q mask e also i n)
      unfolding level
      level_is n =
          steps_is (filter (λ x. d x || in_goal p i x) all) (filter (λ x. e x || in_goal q i x) also)
          (same_filter C (λ x. d x || in_goal p i x) (λ x. e x || in_goal q i x) all also
          (λ x c m. ap₂ (λ m n. m || n) (over x c) (goal_is i x c)) both) n

  -- it may be grown for longer than it needs, and so in both plants as often
  forced_long : (r : Plant) (done : ℕ → Bool) (all : List ℕ) (i n : ℕ) → length all ≤ n →
      forced r mask done all i ≡ iterate n (grown r mask all) (target r mask done all i)
  unfolding forced target
  forced_long r done all i n l =
      sym (iterate_still (length all) n (grown r mask all) (target r mask done all i)
      (steps_full r mask all (target r mask done all i)
      (sifted_filter (λ z. done z || (in_goal r i z && can r mask all z)) all) (length all) (omega arith)) l)

  module _ (d e : ℕ → Bool) (over : Agrees C d e) where
    forced_is : (all also : List ℕ) → Same C all also → (i : ℕ) →
        Same C (forced p mask d all i) (forced q mask e also i)
    forced_is all also both i =
        let n = length all + length also in
        rw (forced_long p d all i n (omega arith), forced_long q e also i n (omega arith))
        (steps_is all also both (target p mask d all i) (target q mask e also i) (target_is all also both d e over i)
        n)

    all_is : (n : ℕ) (all also : List ℕ) → Same C all also →
        Same C (forced_all n p mask d all) (forced_all n q mask e also)
    unfolding forced_all
    all_is zero all also both = both
    all_is (suc n) all also both =
        same_filter C (λ x. is_in x (forced p mask d all n)) (λ x. is_in x (forced q mask e also n))
        (forced_all n p mask d all) (forced_all n q mask e also) (λ x c m. forced_is all also both n x c)
        (all_is n all also both)

    -- the states held
    module _ (v w : ℕ → Bool) (within : Agrees C v w) where
      round_is : (n : ℕ) → Same C (held_round n p mask d v) (held_round n q mask e w)
      unfolding held_round iterate
      round_is zero x c =
          same_filter C v w (numbers p.states 0) (numbers q.states 0) (λ y k m. within y k)
          (λ y k. ap (λ n. is_in y (numbers n 0)) a.states_are) x c
      round_is (suc n) x c =
          let before = held_round n q mask e w in
          all_is p.goals (held_round n p mask d v) before (round_is n) x c ∙
          ap (λ k. is_in x (forced_all k q mask e before)) a.goals_are

      held_is : Same C (held_within p mask d v) (held_within q mask e w)
      unfolding held_within
      held_is x c = round_is p.states x c ∙ ap (λ n. is_in x (held_round n q mask e w)) a.states_are

  -- stages, from starts with the same members
  module _ (v w : ℕ → Bool) (within : Agrees C v w) where
    pub stages_is : (k : ℕ) → Same C (stages_to k p mask v) (stages_to k q mask w)
    unfolding stages_to iterate next_stage
    stages_is zero x c = refl
    stages_is (suc k) x c =
        let low = stages_to k p mask v in
        let high = stages_to k q mask w in
        let leaves = can_is low high (stages_is k) in
        held_is (can p mask low) (can q mask high) leaves (λ y. v y && (settled p y || can p mask low y))
        (λ y. w y && (settled q y || can q mask high y))
        (λ y l. ap₂ (λ m n. m && n) (within y l) (ap₂ (λ m n. m || n) (settled_is y l) (leaves y l))) x c

    -- kept states, in plants of one sort
    pub kept_is : Same C (kept_within p mask v) (kept_within q mask w)
    unfolding kept_within
    kept_is x c =
        ap (λ t. is_in x (pick t (stages_to p.states p mask v) (held_within p mask nowhere v))) a.settles_are ∙
        by_sort q.settles
      where
        by_sort : (t : Bool) →
            is_in x (pick t (stages_to p.states p mask v) (held_within p mask nowhere v)) ≡
            is_in x (pick t (stages_to q.states q mask w) (held_within q mask nowhere w))
        by_sort true = stages_is p.states x c ∙ ap (λ n. is_in x (stages_to n q mask w)) a.states_are
        by_sort false = held_is nowhere nowhere (λ y k. refl) v w within x c

  -- stages counted, from kept sets with the same members
  module _ (kept other : List ℕ) (both : Same C kept other) where
    pub before_is : (x : ℕ) → C x → stages_before p mask kept x ≡ stages_before q mask other x
    unfolding stages_before
    before_is x c =
        ap (λ n. first n 0 (λ k. is_in x (stages_to (suc k) p mask (λ y. is_in y kept)))) a.states_are ∙
        first_alike q.states 0 (λ k. is_in x (stages_to (suc k) p mask (λ y. is_in y kept)))
        (λ k. is_in x (stages_to (suc k) q mask (λ y. is_in y other)))
        (λ k l h. stages_is (λ y. is_in y kept) (λ y. is_in y other) both (suc k) x c)

    pub stage_is : (x : ℕ) → C x → stage_of p mask kept x ≡ stage_of q mask other x
    unfolding stage_of
    stage_is x c = ap suc (before_is x c)
