-- A group dies while a worklist is in use: its node has another, is on the list already, stays because a run is over
-- there, or goes on the list. Assumes nothing.
use mathlib.Core.Path.{◌≡◌, refl, sym, ap, ◌∙◌, subst}
use mathlib.Core.Logic.{◌⊎◌, inl, inr, ⊎_elim}
use mathlib.Core.Bool.{Bool, true, false, ◌&&◌, not}
use mathlib.Core.List.{List, ◌∷◌}
use Prim.Native.Nat.{ℕ, suc, ◌+◌, ◌-◌, ◌≤◌, ◌<◌}
use native.Mathlib.Omega.{arith}
use borrow.Author.Tests.{eq-eqb, ne_eqb, lt-ltb, ltb-true}
use borrow.Author.Count.{below_more}
use lib.Dec.{eqb, ltb}
use lib.ListN.{length, get_or, take, drop, set, length-set}
use lib.Seq.{get_or-set_same, get_or-set_other, set-set, take-set-le, get_or-take, get_or-drop}
use Rattle.statements.specs.Sets.{bit, is_in}
use Rattle.sets.proofs.Tests.{same_number, not_both, and_true, and_left, or_neither}
use Rattle.sets.proofs.Iterate.{sifted_few}
use Rattle.game.specs.Walked.{nodes, can_enter}
use Rattle.game.specs.Packed.{part, groups_in, rev_in, starts_in, labels_in, over_at, can_in}
use Rattle.game.specs.Marks.{Marks, without}
use Rattle.game.specs.Playing.{Ready}
use Rattle.game.specs.Draining.{Draining, Fails}
use Rattle.game.proofs.Counts.{and_on, and_off, count_flip}
use Rattle.game.proofs.Parts.{groups_length, starts_nodes}
use Rattle.game.proofs.Standing.{can_more}
use Rattle.game.proofs.Deaths.{other_tests, unmark, dead_before, some_left, died_last, died_unmarked, died_more}
use Rattle.game.proofs.Strikes.{without_holds, without_in}
use Rattle.game.proofs.Pushing.{can_live, pushed_in, pushed_without, without_more, without_count, same_list}

module _ (graph : List ℕ) (n groups positions goals : ℕ) (ready : Ready graph n groups positions goals) where
  abbrev gs : List ℕ
  gs = groups_in graph groups

  abbrev starts : List ℕ
  starts = starts_in graph n

  abbrev rev : List ℕ
  rev = rev_in graph positions

  abbrev done : ℕ → Bool
  done = over_at (labels_in graph n)

  -- the nodes of groups, and whether a run is over, stand in the array
  pub group_node : (g : ℕ) → g < groups → get_or gs g 0 ≡ get_or graph g 0
  unfolding groups_in
  group_node g h = get_or-take groups graph g 0 h

  pub label_over : (x : ℕ) → x < n → bit 15 (get_or graph (length graph - 1024 + x) 0) ≡ done x
  unfolding over_at labels_in part
  label_over x h =
      let at = length graph - 1024 in
      ap (bit 15)
      (sym (get_or-take (at + n - at) (drop at graph) x 0 (omega arith) ∙ get_or-drop at graph x 0))

  module _ {ok after : ℕ → Bool} {xs first member live dead list : List ℕ} {tail g : ℕ}
      (c : Draining graph n groups positions ok xs first member live dead list tail)
      (fails : Fails starts rev ok after (without (take tail list) xs) g) where
    -- what is left of the set without the nodes on the list
    abbrev rest : List ℕ
    rest = without (take tail list) xs

    -- the group, and its node
    pub kill_group : (g < groups) × (get_or graph g 0 < n)
    kill_group =
        let low = rw fails.of_group at (ready.index.groups fails.place fails.low) in
        let few : g < groups = omega (arith, low, groups_length graph ready.fits) in
        let node = rw (group_node g few) at (ready.index.of_node g low) in
        (few, omega (arith, node, starts_nodes graph ready.fits))

    group_low : g < length gs
    group_low = omega (arith, kill_group.0, groups_length graph ready.fits)

    abbrev f : ℕ
    f = get_or graph g 0

    own : get_or gs g 0 ≡ f
    own = group_node g kill_group.0

    kill_node : f < nodes starts
    kill_node = omega (arith, kill_group.1, starts_nodes graph ready.fits)

    -- each has its place in the arrays
    pub kill_rooms : (g < length dead) × (f < length live) × (f < length member)
    kill_rooms = (
      omega (arith, group_low, c.marks.dead_long),
      omega (arith, kill_node, c.marks.live_long),
      omega (arith, kill_node, c.marks.member_long),
    )

    -- it is dead already
    pub kill_dead : 0 < get_or dead g 0 → Draining graph n groups positions after xs first member live dead list tail
    kill_dead d =
        same_list c
        (dead_before gs starts rev ok (λ x. is_in x rest) member live dead c.marks
        after fails.place g fails.low fails.of_group fails.no fails.same (λ z. omega arith))
        c.others

    module _ (d : get_or dead g 0 ≡ 0) where
      abbrev live' : List ℕ
      live' = set live f (get_or live f 0 - 1)

      abbrev dead' : List ℕ
      dead' = set dead g 1

      pub kill_some : 0 < get_or live f 0
      kill_some =
          some_left gs starts rev ok (λ x. is_in x rest) member live dead c.marks after
          fails.place g fails.low fails.of_group fails.no fails.same group_low f own kill_node d

      -- the other nodes have as many groups as before
      live_else : (x : ℕ) → (x ≡ f → ⊥) → get_or live' x 0 ≡ get_or live x 0
      live_else x q = get_or-set_other live f x (get_or live f 0 - 1) 0 q

      live_own : get_or live' f 0 ≡ get_or live f 0 - 1
      live_own = get_or-set_same live f (get_or live f 0 - 1) 0 (omega (arith, c.marks.live_long, kill_node))

      -- a node of the set that is not on the list is marked
      marked_on : is_in f xs ≡ true → is_in f (take tail list) ≡ false → get_or member f 0 < 1
      marked_on a b =
          ltb-true (get_or member f 0) 1
          (c.marks.member_is f kill_node
          ∙ and_true (without_in f (take tail list) xs a b) (lt-ltb 0 (get_or live f 0) kill_some))

      -- nothing more changes, if its node has another group or no mark
      kept : Marks gs starts rev after (λ x. is_in x rest) member live' dead'
          → (is_in f xs ≡ true → is_in f (take tail list) ≡ false → 0 < get_or live f 0 - 1)
          → Draining graph n groups positions after xs first member live' dead' list tail
      kept m some =
          same_list c m
          (λ x a b.
          ⊎_elim
          (λ q.
          let is : get_or live' x 0 ≡ get_or live f 0 - 1 = ap (λ (y : ℕ). get_or live' y 0) q ∙ live_own in
          inr (omega (arith, some (rw q at a) (rw q at b))))
          (λ q. rw (live_else x q) (c.others x a b))
          (same_number x f))

      pub kill_more : 0 < get_or live f 0 - 1
          → Draining graph n groups positions after xs first member live' dead' list tail
      kill_more l =
          kept
          (died_more gs starts rev ok (λ x. is_in x rest) member live dead c.marks after
          fails.place g fails.low fails.of_group fails.no fails.same group_low f own kill_node d
          (λ z. omega arith))
          (λ a b. l)

      module _ (z : get_or live f 0 - 1 ≡ 0) where
        pub kill_unmarked : 0 < get_or member f 0
            → Draining graph n groups positions after xs first member live' dead' list tail
        kill_unmarked out =
            kept
            (died_unmarked gs starts rev ok (λ x. is_in x rest) member live dead c.marks
            after fails.place g fails.low fails.of_group fails.no fails.same group_low f own kill_node d
            z out)
            (λ a b. absurd (let m = marked_on a b in omega arith))

        -- its node has no group left, and loses its mark
        last_marks : Marks gs starts rev after (λ x. is_in x rest) (set member f 65535) live' dead'
        last_marks =
            died_last gs starts rev ok (λ x. is_in x rest) member live dead c.marks after
            fails.place g fails.low fails.of_group fails.no fails.same group_low f own kill_node d z

        -- a run is over there
        pub kill_over : done f ≡ true
            → Draining graph n groups positions after xs first (set member f 65535) live' dead' list tail
        kill_over t =
            same_list c last_marks
            (λ x a b.
            ⊎_elim
            (λ q. inl (rw q t))
            (λ q. rw (live_else x q) (c.others x a b))
            (same_number x f))

        -- or it is in the set and not on the list yet
        module _ (mark : get_or member f 0 < 1) where
          waits_in : is_in f rest ≡ true
          waits_in =
              and_left (is_in f rest) (ltb 0 (get_or live f 0))
              (sym (c.marks.member_is f kill_node) ∙ lt-ltb (get_or member f 0) 1 mark)

          in_set : is_in f xs ≡ true
          in_set = (without_holds f (take tail list) xs waits_in).0

          pub push_new : is_in f (take tail list) ≡ false
          push_new = (without_holds f (take tail list) xs waits_in).1

          -- so there is room for it
          one_less : (gone : List ℕ)
              → ((y : ℕ) → is_in y (without gone xs) ≡ (is_in y rest && not (eqb y f)))
              → length rest ≡ suc (length (without gone xs))
          one_less gone e =
              let flip =
              count_flip n f (λ (y : ℕ). is_in y rest) (λ (y : ℕ). is_in y (without gone xs)) kill_group.1
              waits_in (rw (e f, eq-eqb f f refl) (and_off (is_in f rest)))
              (λ y l q. rw (e y, ne_eqb y f q) (and_on (is_in y rest))) in
              omega (arith, flip, without_count n (take tail list) xs c.sifted, without_count n gone xs c.sifted)

          pub push_room : tail < length list
          push_room =
              omega (
                arith,
                c.number,
                one_less (f ∷ take tail list) (without_more f (take tail list) xs),
                sifted_few n xs c.sifted,
                c.room,
              )

          -- a part of the set that goes on within itself does not have it
          module _ (t : done f ≡ false) where
            apart_from : (part : List ℕ) → ((x : ℕ) → is_in x part ≡ true → is_in x xs ≡ true)
                → ((x : ℕ) → is_in x part ≡ true → (done x ≡ true) ⊎ (can_in graph n groups positions part x ≡ true))
                → ((x : ℕ) → is_in x part ≡ true → is_in x (take tail list) ≡ false)
                → (x : ℕ) → is_in x part ≡ true → x ≡ f → ⊥
            unfolding can_in
            apart_from part within goes free x m q =
                ⊎_elim
                (λ o. not_both (rw q at o) t)
                (λ h.
                let into : can_enter gs starts rev rest f ≡ true =
                can_more gs starts rev part rest f
                (λ y k. without_in y (take tail list) xs (within y k) (free y k)) (rw q at h) in
                let some =
                can_live gs starts rev after (λ y. is_in y rest) (set member f 65535) live' dead'
                last_marks rest fails.passes f kill_node into in
                omega (arith, some, live_own))
                (goes x m)

            abbrev list' : List ℕ
            list' = set list tail f

            new_marks : Marks gs starts rev after (λ x. is_in x (without (take (tail + 1) list') xs))
                (set member f 65535) live' dead'
            new_marks =
                let un =
                unmark gs starts rev after (λ x. is_in x rest) (set member f 65535) live' dead'
                last_marks f kill_node in
                other_tests gs starts rev after after
                (λ y. is_in y rest && not (eqb y f))
                (λ y. is_in y (without (take (tail + 1) list') xs)) (set member f 65535) live' dead' (λ i l. refl)
                (λ y. sym (pushed_without list tail f push_room xs y))
                (subst
                (λ (l : List ℕ).
                Marks gs starts rev after (λ y. is_in y rest && not (eqb y f)) l live' dead')
                (set-set member f 65535 65535) un)

            own_place : get_or list' tail 0 ≡ f
            own_place = get_or-set_same list tail f 0 push_room

            old_place : (i : ℕ) → i < tail → get_or list' i 0 ≡ get_or list i 0
            old_place i l = get_or-set_other list tail i f 0 (λ q. omega arith)

            new_once : (i : ℕ) → i < tail + 1 → is_in (get_or list' i 0) (take i list') ≡ false
            new_once =
                below_more (λ (i : ℕ). is_in (get_or list' i 0) (take i list') ≡ false) tail
                (λ i l. let k : i ≤ tail = omega arith in rw (old_place i l, take-set-le i list tail f) (c.once i l))
                (let k : tail ≤ tail = omega arith in rw (own_place, take-set-le tail list tail f) push_new)

            -- it goes on the list
            pub kill_push : Draining graph n groups positions after xs first (set member f 65535) live' dead' list'
                (tail + 1)
            kill_push =
                record {
                  marks = new_marks;
                  sifted = c.sifted;
                  room = rw (length-set list tail f) c.room;
                  inside =
                      below_more (λ (i : ℕ). is_in (get_or list' i 0) xs ≡ true) tail
                      (λ i l. rw (old_place i l) (c.inside i l)) (rw own_place in_set);
                  once = new_once;
                  number =
                      omega (
                        arith,
                        c.number,
                        one_less (take (tail + 1) list') (pushed_without list tail f push_room xs),
                      );
                  from = omega (arith, c.from);
                  front = take-set-le (length first) list tail f c.from ∙ c.front;
                  others = λ x a b.
                      let both =
                      or_neither (is_in x (take tail list)) (eqb x f) (sym (pushed_in list tail f push_room x) ∙ b) in
                      let other : x ≡ f → ⊥ = λ q. not_both (eq-eqb x f q) both.1 in
                      rw (live_else x other) (c.others x a both.0);
                  spares = λ part within goes x m.
                      let free = c.spares part within goes in
                      let out =
                      apart_from part
                      (λ y k. (without_holds y first xs (within y k)).0) goes free
                      x m in
                      pushed_in list tail f push_room x ∙ rw (free x m, ne_eqb x f out);
                }
