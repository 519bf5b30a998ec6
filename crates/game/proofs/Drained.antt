-- What is left when nodes that cannot go on are struck out until there are none: the greatest part of a set all of
-- whose nodes go on within it. Where a goal's turn strikes them out too the same nodes are left in the end. Assumes
-- nothing.
use mathlib.Core.Path.{◌≡◌, refl}
use mathlib.Core.Logic.{◌⊎◌, inl, inr, ⊎_elim}
use mathlib.Core.Bool.{Bool, true, ◌&&◌, ◌||◌}
use mathlib.Core.List.{List, ◌∷◌}
use Prim.Native.Nat.{ℕ, zero, suc, ◌+◌, ◌≤◌, ◌<◌}
use native.Mathlib.Omega.{arith}
use lib.ListN.{length}
use Rattle.statements.specs.Sets.{numbers, iterate, is_in}
use Rattle.sets.proofs.Tests.{and_left, and_right, and_true, or_left, or_right, or_cases}
use Rattle.sets.proofs.Members.{Sifted, sifted_sub, sifted_same, filter_holds, filter_in, is_in_here, is_in_there}
use Rattle.sets.proofs.Members.{is_in_cases}
use Rattle.sets.proofs.Iterate.{iterate_keeps, iterate_sifted, shrunk_full, sifted_few, sifted_longer, sifted_as_long}
use Rattle.game.specs.Game.{Can, aims, reached_in, attracted, attracted_all, held_after}
use Rattle.game.specs.Playing.{Leaves}
use Rattle.game.specs.Draining.{moves_on, drained}
use Rattle.game.proofs.Attractors.{Sub, grown_same, grown_can, grown_holds, reached_within, reached_suc}
use Rattle.game.proofs.Attractors.{reached_zero, reached_attracted}
use Rattle.game.proofs.Rounds.{all_holds, all_in_lem, all_sifted, round_held, round_still, round_leaves}

-- more nodes to go on into
abbrev pub Rises : Can → Type 0
Rises can = (ys zs : List ℕ) (x : ℕ) → Sub ys zs → can ys x ≡ true → can zs x ≡ true

module _ (can : Can) (done : ℕ → Bool) where
  -- one step
  moves_holds : (ys : List ℕ) (x : ℕ) → is_in x (moves_on can done ys) ≡ true
      → (is_in x ys ≡ true) × ((done x ≡ true) ⊎ (can ys x ≡ true))
  unfolding moves_on
  moves_holds ys x m =
      let r = filter_holds (λ y. done y || can ys y) ys x m in
      (r.0, or_cases (done x) (can ys x) r.1)

  moves_in : (ys : List ℕ) (x : ℕ) → is_in x ys ≡ true → (done x ≡ true) ⊎ (can ys x ≡ true)
      → is_in x (moves_on can done ys) ≡ true
  unfolding moves_on
  moves_in ys x m h =
      filter_in (λ y. done y || can ys y) ys x m
      (⊎_elim (λ d. or_left (done x) (can ys x) d) (λ c. or_right (done x) (can ys x) c) h)

  moves_sifted : (base ys : List ℕ) → Sifted base ys → Sifted base (moves_on can done ys)
  unfolding moves_on
  moves_sifted base ys s = sifted_sub (λ y. done y || can ys y) base ys s

  -- a part of the set
  pub drained_within : (ys : List ℕ) → Sub (drained can done ys) ys
  unfolding drained
  drained_within ys =
      iterate_keeps (λ zs. Sub zs ys) (moves_on can done) ys (λ x m. m) (λ zs s x m. s x (moves_holds zs x m).0)
      (length ys)

  pub drained_sifted : (base ys : List ℕ) → Sifted base ys → Sifted base (drained can done ys)
  unfolding drained
  drained_sifted base ys s = iterate_sifted base ys (moves_on can done) s (moves_sifted base) (length ys)

  -- all of whose nodes go on within it
  pub drained_moves : (base ys : List ℕ) → Sifted base ys → (x : ℕ) → is_in x (drained can done ys) ≡ true
      → (done x ≡ true) ⊎ (can (drained can done ys) x ≡ true)
  unfolding drained
  drained_moves base ys s x m =
      let still =
      shrunk_full base ys (moves_on can done) s (moves_sifted base) (λ zs y k. (moves_holds zs y k).0) (length ys)
      (omega arith) in
      (moves_holds (iterate (length ys) (moves_on can done) ys) x (rw still m)).1

  module _ (more : Rises can) where
    -- and the greatest
    pub drained_greatest : (zs ys : List ℕ) → Sub zs ys
        → ((x : ℕ) → is_in x zs ≡ true → (done x ≡ true) ⊎ (can zs x ≡ true)) → Sub zs (drained can done ys)
    unfolding drained
    drained_greatest zs ys s goes =
        iterate_keeps (λ ws. Sub zs ws) (moves_on can done) ys s
        (λ ws t x m. moves_in ws x (t x m) (⊎_elim (λ d. inl d) (λ c. inr (more zs ws x t c)) (goes x m))) (length ys)

    -- so a node of the set at which a run is over, or that can go on into it or a part of it, is in it
    pub drained_joins : (base ys : List ℕ) → Sifted base ys → (x : ℕ) → is_in x ys ≡ true
        → (done x ≡ true) ⊎ (can (drained can done ys) x ≡ true) → is_in x (drained can done ys) ≡ true
    drained_joins base ys s x m goes =
        let left = drained can done ys in
        let all : List ℕ = x ∷ left in
        let on : (y : ℕ) → (done y ≡ true) ⊎ (can left y ≡ true) → (done y ≡ true) ⊎ (can all y ≡ true) =
        λ y h. ⊎_elim (λ d. inl d) (λ c. inr (more left all y (λ z k. is_in_there z x left k) c)) h in
        drained_greatest all ys
        (λ y k. ⊎_elim (λ e. rw e m) (λ l. drained_within ys y l) (is_in_cases y x left k))
        (λ y k. ⊎_elim (λ e. rw e (on x goes)) (λ l. on y (drained_moves base ys s y l)) (is_in_cases y x left k))
        x (is_in_here x left)

    pub drained_closed : (base ys zs : List ℕ) → Sifted base ys → (x : ℕ) → Sub zs (drained can done ys)
        → is_in x ys ≡ true → can zs x ≡ true → is_in x (drained can done ys) ≡ true
    drained_closed base ys zs s x t m c = drained_joins base ys s x m (inr (more zs (drained can done ys) x t c))

    -- an attractor within more nodes has more
    reached_more : (goal : ℕ → Bool) (xs ys : List ℕ) → Sub xs ys → (k : ℕ)
        → Sub (reached_in can done goal xs k) (reached_in can done goal ys k)
    unfolding aims
    reached_more goal xs ys s zero x m =
        let r = filter_holds (λ y. done y || (goal y && can xs y)) xs x (rw (reached_zero can xs done goal) at m) in
        rw (reached_zero can ys done goal)
        (filter_in (λ y. done y || (goal y && can ys y)) ys x (s x r.0)
        (⊎_elim
        (λ d. or_left (done x) _ d)
        (λ b. or_right (done x) _
        (and_true (and_left (goal x) (can xs x) b) (more xs ys x s (and_right (goal x) (can xs x) b))))
        (or_cases (done x) (goal x && can xs x) r.1)))
    reached_more goal xs ys s (suc k) x m =
        let old = reached_in can done goal xs k in
        let new = reached_in can done goal ys k in
        let less = reached_more goal xs ys s k in
        let r = grown_holds can xs old x (rw (reached_suc can xs done goal k) at m) in
        rw (reached_suc can ys done goal k)
        (⊎_elim
        (λ h. grown_same can ys new x (s x r.0) (less x h))
        (λ h. grown_can can ys new x (s x r.0) (more old new x less h))
        r.1)

    attracted_more : (goal : ℕ → Bool) (xs ys : List ℕ) → Sub xs ys
        → Sub (attracted can done goal xs) (attracted can done goal ys)
    unfolding attracted
    attracted_more goal xs ys s x m =
        reached_attracted can ys done goal (length xs) x (reached_more goal xs ys s (length xs) x m)

    -- each node of an attractor goes on within the set
    reached_moves : (goal : ℕ → Bool) (all : List ℕ) (k x : ℕ) → is_in x (reached_in can done goal all k) ≡ true
        → (done x ≡ true) ⊎ (can all x ≡ true)
    unfolding aims
    reached_moves goal all zero x m =
        let r = filter_holds (λ y. done y || (goal y && can all y)) all x (rw (reached_zero can all done goal) at m) in
        ⊎_elim
        (λ d. inl d)
        (λ b. inr (and_right (goal x) (can all x) b))
        (or_cases (done x) (goal x && can all x) r.1)
    reached_moves goal all (suc k) x m =
        ⊎_elim
        (λ h. reached_moves goal all k x h)
        (λ h. inr (more (reached_in can done goal all k) all x (reached_within can all done goal k) h))
        (grown_holds can all (reached_in can done goal all k) x (rw (reached_suc can all done goal k) at m)).1

    pub attracted_moves : (goal : ℕ → Bool) (all : List ℕ) (x : ℕ) → is_in x (attracted can done goal all) ≡ true
        → (done x ≡ true) ⊎ (can all x ≡ true)
    unfolding attracted
    attracted_moves goal all x m = reached_moves goal all (length all) x m

-- what may be left of a set when the goals from `first` up to `end` are reached within it: at most the nodes from which
-- each of these is forced, and at least those that are left in the end
pub record Reduced (can : Can) (done : ℕ → Bool) (goal : ℕ → ℕ → Bool) (n goals first end : ℕ) (old new : List ℕ)
    : Type 0 where
  pub sifted : Sifted (numbers n 0) new
  pub leaves : Leaves can old new
  pub forced : (i : ℕ) → first ≤ i → i < end → Sub new (attracted can done (goal i) old)
  pub held : held_after n goals can done goal new ≡ held_after n goals can done goal old

module _ (can : Can) (done : ℕ → Bool) (goal : ℕ → ℕ → Bool) (n goals : ℕ) (more : Rises can) where
  all_more : (xs ys : List ℕ) → Sub xs ys
      → Sub (attracted_all goals can done goal xs) (attracted_all goals can done goal ys)
  all_more xs ys s x m =
      let r = all_holds can done goal goals xs x m in
      all_in_lem can done goal goals ys x (s x r.0) (λ i l. attracted_more can done more (goal i) xs ys s x (r.1 i l))

  module _ (set : List ℕ) (sifted : Sifted (numbers n 0) set) where
    abbrev last : List ℕ
    last = held_after n goals can done goal set

    -- the nodes left in the end: a part of the set, and a round leaves them as they are
    last_sifted : Sifted (numbers n 0) last
    unfolding held_after
    last_sifted =
        iterate_sifted (numbers n 0) set (attracted_all goals can done goal) sifted
        (λ ys s. all_sifted can done goal goals (numbers n 0) ys s) n

    last_within : Sub last set
    unfolding held_after
    last_within =
        iterate_keeps (λ zs. Sub zs set) (attracted_all goals can done goal) set (λ x m. m)
        (λ zs s x m. s x (all_holds can done goal goals zs x m).0) n

    last_still : attracted_all goals can done goal last ≡ last
    unfolding held_after
    last_still =
        shrunk_full (numbers n 0) set (attracted_all goals can done goal) sifted
        (λ ys s. all_sifted can done goal goals (numbers n 0) ys s)
        (λ ys x m. (all_holds can done goal goals ys x m).0) n (sifted_few n set sifted)

    -- the greatest such part
    last_greatest : (zs : List ℕ) → Sub zs set → Sub zs (attracted_all goals can done goal zs) → Sub zs last
    unfolding held_after
    last_greatest zs s on =
        iterate_keeps (λ ws. Sub zs ws) (attracted_all goals can done goal) set s
        (λ ws t x m. all_more zs ws t x (on x m)) n

  module _ (set : List ℕ) (sifted : Sifted (numbers n 0) set) where
    abbrev round : List ℕ
    round = attracted_all goals can done goal set

    -- a part of the set with all of them has the same nodes left in the end
    same_last : (part : List ℕ) → Sifted (numbers n 0) part → Sub part set
        → Sub (held_after n goals can done goal set) part
        → held_after n goals can done goal part ≡ held_after n goals can done goal set
    same_last part s within spared =
        let old = held_after n goals can done goal set in
        let new = held_after n goals can done goal part in
        sifted_same (numbers n 0) new old (last_sifted part s) (last_sifted set sifted)
        (last_greatest set sifted new (λ x m. within x (last_within part s x m)) (λ x m. rw (last_still part s) m))
        (last_greatest part s old spared (λ x m. rw (last_still set sifted) m))

    -- all goals are reached, and nothing else is struck out
    pub round_reduced : Reduced can done goal n goals 0 goals set round
    round_reduced =
        record {
          sifted = all_sifted can done goal goals (numbers n 0) set sifted;
          leaves = round_leaves can done goal goals set more;
          forced = λ i a b x m. (all_holds can done goal goals set x m).1 i b;
          held = round_held can done goal n goals set sifted;
        }

    -- one goal is reached, and what then cannot go on is struck out too
    module _ (g : ℕ) (low : g < goals) where
      -- the nodes from which it is forced
      abbrev cut : List ℕ
      cut = attracted_all 1 can done (λ i. goal g) set

      abbrev left : List ℕ
      left = drained can done cut

      cut_holds : (x : ℕ) → is_in x cut ≡ true → is_in x (attracted can done (goal g) set) ≡ true
      cut_holds x m = (all_holds can done (λ i. goal g) 1 set x m).1 0 (omega arith)

      left_within : Sub left set
      left_within x m = (all_holds can done (λ i. goal g) 1 set x (drained_within can done cut x m)).0

      left_spares : Sub (held_after n goals can done goal set) left
      left_spares =
          let old = held_after n goals can done goal set in
          let forced : Sub old (attracted can done (goal g) old) =
          λ x m. (all_holds can done goal goals old x (rw (last_still set sifted) m)).1 g low in
          drained_greatest can done more old cut
          (λ x m.
          all_in_lem can done (λ i. goal g) 1 set x (last_within set sifted x m)
          (λ i l. attracted_more can done more (goal g) old set (last_within set sifted) x (forced x m)))
          (λ x m. attracted_moves can done more (goal g) old x (forced x m))

      pub goal_reduced : Reduced can done goal n goals g (g + 1) set left
      goal_reduced =
          let whole = all_sifted can done (λ i. goal g) 1 (numbers n 0) set sifted in
          let sieve = drained_sifted can done (numbers n 0) cut whole in
          record {
            sifted = sieve;
            leaves =
                record {
                  within = left_within;
                  closed = λ ys x s a h.
                      drained_closed can done more (numbers n 0) cut ys whole x s
                      ((round_leaves can done (λ i. goal g) 1 set more).closed ys x
                      (λ y k. drained_within can done cut y (s y k)) a h) h;
                };
            forced = λ i a b x m.
                let same : i ≡ g = omega arith in rw same (cut_holds x (drained_within can done cut x m));
            held = same_last left sieve left_within left_spares;
          }

    -- nothing is struck out
    pub none_reduced : (first end : ℕ)
        → ((i : ℕ) → first ≤ i → i < end → Sub set (attracted can done (goal i) set))
        → Reduced can done goal n goals first end set set
    none_reduced first end forced =
        record {
          sifted = sifted;
          leaves = record { within = λ x m. m; closed = λ ys x s a h. a };
          forced = forced;
          held = refl;
        }

    -- as many nodes are left as there were
    pub reduced_still : (first end : ℕ) (new : List ℕ) → Reduced can done goal n goals first end set new
        → length set ≤ length new → (i : ℕ) → first ≤ i → i < end → Sub set (attracted can done (goal i) set)
    reduced_still first end new r l i a b x m =
        let less = sifted_longer (numbers n 0) new set r.sifted sifted r.leaves.within in
        let same =
        sifted_as_long (numbers n 0) new set r.sifted sifted r.leaves.within (omega (arith, less)) in
        r.forced i a b x (rw same m)

    -- each goal is forced from each node: these are left in the end
    pub forced_held : ((i : ℕ) → i < goals → Sub set (attracted can done (goal i) set))
        → held_after n goals can done goal set ≡ set
    forced_held forced =
        round_still can done goal n goals set sifted
        (sifted_longer (numbers n 0) set round sifted (all_sifted can done goal goals (numbers n 0) set sifted)
        (λ x m. all_in_lem can done goal goals set x m (λ i l. forced i l x m)))
