-- The attractor: the states of a set from which a target is forced. It holds the target, is closed under the
-- controllable predecessor within the set, and is the least such set. Assumes nothing.
use mathlib.Core.Path.{◌≡◌}
use mathlib.Core.Logic.{◌⊎◌, inl, inr, ⊎_elim}
use mathlib.Core.Bool.{Bool, true, ◌&&◌, ◌||◌}
use mathlib.Core.List.{List}
use Prim.Native.Nat.{ℕ, zero, suc, ◌+◌, ◌≤◌}
use native.Mathlib.Omega.{arith}
use lib.ListN.{length}
use Rattle.statements.specs.Sets.{iterate, is_in}
use Rattle.statements.specs.Plants.{Plant, in_goal, can}
use Rattle.statements.specs.Kept.{grown, target, forced}
use Rattle.sets.proofs.Tests.{same_number, and_true, and_left, and_right, or_left, or_right, or_cases}
use Rattle.sets.proofs.Members.{Sifted, sifted_filter, sifted_member, filter_holds, filter_in}
use Rattle.sets.proofs.Iterate.{iterate_sifted, grown_full}
use Rattle.kept.proofs.Moves.{Sub, MaskWithin, can_more}

module _ (p : Plant) (mask : ℕ) (all : List ℕ) where
  -- one step
  pub grown_holds : (ys : List ℕ) (x : ℕ) → is_in x (grown p mask all ys) ≡ true →
      (is_in x all ≡ true) × ((is_in x ys ≡ true) ⊎ (can p mask ys x ≡ true))
  unfolding grown
  grown_holds ys x h =
      let r = filter_holds (λ z. is_in z ys || can p mask ys z) all x h in
      (r.0, or_cases (is_in x ys) (can p mask ys x) r.1)

  pub grown_same : (ys : List ℕ) (x : ℕ) → is_in x all ≡ true → is_in x ys ≡ true → is_in x (grown p mask all ys) ≡ true
  unfolding grown
  grown_same ys x a h =
      filter_in (λ z. is_in z ys || can p mask ys z) all x a (or_left (is_in x ys) (can p mask ys x) h)

  pub grown_can : (ys : List ℕ) (x : ℕ) → is_in x all ≡ true → can p mask ys x ≡ true →
      is_in x (grown p mask all ys) ≡ true
  unfolding grown
  grown_can ys x a h =
      filter_in (λ z. is_in z ys || can p mask ys z) all x a (or_right (is_in x ys) (can p mask ys x) h)

  grown_sifted : (ys : List ℕ) → Sifted all ys → Sifted all (grown p mask all ys)
  unfolding grown
  grown_sifted ys s = sifted_filter (λ z. is_in z ys || can p mask ys z) all

  -- the steps from a target
  module _ (start : List ℕ) (begins : Sifted all start) where
    pub steps_sifted : (n : ℕ) → Sifted all (iterate n (grown p mask all) start)
    steps_sifted n = iterate_sifted all start (grown p mask all) begins grown_sifted n

    pub steps_full : (n : ℕ) → length all ≤ n + length start →
        grown p mask all (iterate n (grown p mask all) start) ≡ iterate n (grown p mask all) start
    steps_full n h =
        grown_full all start (grown p mask all) begins grown_sifted
        (λ k x m.
        let ys = iterate k (grown p mask all) start in
        grown_same ys x (sifted_member all ys (steps_sifted k) x m) m) n h

    pub steps_more : (n : ℕ) → Sub (iterate n (grown p mask all) start) (iterate (suc n) (grown p mask all) start)
    unfolding iterate
    steps_more n x h =
        grown_same (iterate n (grown p mask all) start) x
        (sifted_member all (iterate n (grown p mask all) start) (steps_sifted n) x h) h

    pub steps_start : (n : ℕ) → Sub start (iterate n (grown p mask all) start)
    unfolding iterate
    steps_start zero x h = h
    steps_start (suc n) x h = steps_more n x (steps_start n x h)

    pub steps_later : (n m : ℕ) → n ≤ m →
        Sub (iterate n (grown p mask all) start) (iterate m (grown p mask all) start)
    steps_later n zero l x h = let e : n ≡ 0 = omega arith in rw e at h
    steps_later n (suc m) l x h =
        ⊎_elim (λ e. rw e at h) (λ d. steps_more m x (steps_later n m (omega arith) x h)) (same_number n (suc m))

  -- what contains the target and is closed contains every step
  pub steps_least : (start zs : List ℕ) → Sub start zs →
      ((x : ℕ) → is_in x all ≡ true → can p mask zs x ≡ true → is_in x zs ≡ true) → (n : ℕ) →
      Sub (iterate n (grown p mask all) start) zs
  unfolding iterate
  steps_least start zs b c zero x h = b x h
  steps_least start zs b c (suc n) x h =
      let r = grown_holds (iterate n (grown p mask all) start) x h in
      let ih = steps_least start zs b c n in
      ⊎_elim (λ m. ih x m)
      (λ m. c x r.0 (can_more p mask mask (iterate n (grown p mask all) start) zs x (λ u e. e) ih m)) r.1

  -- the target, with some states at which a run is over
  module _ (done : ℕ → Bool) where
    -- a state at which a run is over, or one in goal i that can go on
    pub target_holds : (i x : ℕ) → is_in x (target p mask done all i) ≡ true →
        (is_in x all ≡ true) × ((done x ≡ true) ⊎ ((in_goal p i x ≡ true) × (can p mask all x ≡ true)))
    unfolding target
    target_holds i x h =
        let r = filter_holds (λ z. done z || (in_goal p i z && can p mask all z)) all x h in
        let on = in_goal p i x && can p mask all x in (
          r.0,
          ⊎_elim (λ e. inl e)
              (λ e. inr (and_left (in_goal p i x) (can p mask all x) e, and_right (in_goal p i x) (can p mask all x) e))
              (or_cases (done x) on r.1),
        )

    pub target_done : (i x : ℕ) → is_in x all ≡ true → done x ≡ true → is_in x (target p mask done all i) ≡ true
    unfolding target
    target_done i x a e =
        filter_in (λ z. done z || (in_goal p i z && can p mask all z)) all x a
        (or_left (done x) (in_goal p i x && can p mask all x) e)

    pub target_in : (i x : ℕ) → is_in x all ≡ true → in_goal p i x ≡ true → can p mask all x ≡ true →
        is_in x (target p mask done all i) ≡ true
    unfolding target
    target_in i x a g c =
        filter_in (λ z. done z || (in_goal p i z && can p mask all z)) all x a
        (or_right (done x) (in_goal p i x && can p mask all x) (and_true g c))

    target_sifted : (i : ℕ) → Sifted all (target p mask done all i)
    unfolding target
    target_sifted i = sifted_filter (λ z. done z || (in_goal p i z && can p mask all z)) all

    -- the states from which goal i is forced within the set
    pub forced_sifted : (i : ℕ) → Sifted all (forced p mask done all i)
    unfolding forced
    forced_sifted i = steps_sifted (target p mask done all i) (target_sifted i) (length all)

    pub forced_target : (i x : ℕ) → is_in x (target p mask done all i) ≡ true → is_in x (forced p mask done all i) ≡ true
    unfolding forced
    forced_target i = steps_start (target p mask done all i) (target_sifted i) (length all)

    pub forced_closed : (i x : ℕ) → is_in x all ≡ true → can p mask (forced p mask done all i) x ≡ true →
        is_in x (forced p mask done all i) ≡ true
    unfolding forced
    forced_closed i x a h =
        rw (← steps_full (target p mask done all i) (target_sifted i) (length all) (omega arith))
        (grown_can (iterate (length all) (grown p mask all) (target p mask done all i)) x a h)

    pub forced_least : (i : ℕ) (zs : List ℕ) → Sub (target p mask done all i) zs →
        ((x : ℕ) → is_in x all ≡ true → can p mask zs x ≡ true → is_in x zs ≡ true) → Sub (forced p mask done all i) zs
    unfolding forced
    forced_least i zs b c = steps_least (target p mask done all i) zs b c (length all)

    pub forced_all_lem : (i : ℕ) → Sub (forced p mask done all i) all
    forced_all_lem i x h = sifted_member all (forced p mask done all i) (forced_sifted i) x h

-- more moves in service, a larger set and more states at which a run is over force from more states
pub forced_more : (p : Plant) (m n : ℕ) (done more : ℕ → Bool) (xs ys : List ℕ) (i : ℕ) → MaskWithin m n →
    ((x : ℕ) → is_in x xs ≡ true → done x ≡ true → more x ≡ true) → Sub xs ys →
    Sub (forced p m done xs i) (forced p n more ys i)
forced_more p m n done more xs ys i w d s =
    forced_least p m xs done i (forced p n more ys i)
    (λ x h. let r = target_holds p m xs done i x h in
    forced_target p n ys more i x
    (⊎_elim (λ e. target_done p n ys more i x (s x r.0) (d x r.0 e))
    (λ e. target_in p n ys more i x (s x r.0) e.0 (can_more p m n xs ys x w s e.1)) r.1))
    (λ x a h.
    forced_closed p n ys more i x (s x a)
    (can_more p m n (forced p n more ys i) (forced p n more ys i) x w (λ y e. e) h))
