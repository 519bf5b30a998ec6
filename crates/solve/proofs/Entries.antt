-- The entries told from columns of waits are those of the reach to each goal: where the wait is 0 the state's own move,
-- otherwise the lowest into what is reached in fewer steps. Assumes nothing.
use mathlib.Core.Path.{◌≡◌, sym, ap, ap₂, ◌∙◌, subst}
use mathlib.Core.Logic.{⊎_elim}
use mathlib.Core.Bool.{Bool, true, false, ◌&&◌, ◌||◌, not}
use mathlib.Core.List.{List, [], ◌∷◌}
use Prim.Native.Nat.{ℕ, zero, suc, ◌+◌, ◌-◌, ◌*◌, ◌≤◌, ◌<◌}
use native.Mathlib.Omega.{arith}
use native.Mathlib.Decide.{dec_lt}
use borrow.Author.Tests.{lt-ltb, le-ltb, ltb-true, eq-eqb, ne_eqb}
use lib.Dec.{eqb, ltb}
use lib.ListN.{length, get_or, drop}
use lib.Seq.{get_or-take, get_or-drop}
use Rattle.statements.specs.Sets.{pick, numbers, first, joined, iterate, is_in}
use Rattle.statements.specs.Plants.{Plant, in_goal, move_into, can}
use Rattle.statements.specs.Kept.{grown, target, forced}
use Rattle.statements.specs.Books.{lost_mark}
use Rattle.sets.proofs.Tests.{decided, not_both, or_left, same_test}
use Rattle.sets.proofs.Members.{Sifted, sifted_filter, sifted_sub, filter_same, filter_in, numbers_holds}
use Rattle.sets.proofs.Iterate.{sifted_few, sifted_below, iterate_still}
use Rattle.sets.proofs.First.{first_range, first_holds, first_least}
use Rattle.sets.proofs.Joined.{joined_same}
use Rattle.kept.proofs.Reach.{steps_sifted, steps_full, steps_later, forced_all_lem}
use Rattle.solve.specs.Given.{below}
use Rattle.solve.specs.Reached.{goes, within, before, found_by, step_of, reached, reached_by}
use Rattle.solve.specs.Rows.{Columns, column_of, own_move, entries_of}
use Rattle.solve.proofs.StageReach.{filter_whole}

-- a list is a part of itself
sifted_whole : (xs : List ℕ) → Sifted xs xs
sifted_whole xs = sym (filter_whole (λ y. is_in y xs) xs (λ y m. m))

module _ (p : Plant) (mask : ℕ) (leave all : List ℕ) (set : Sifted (numbers p.states 0) all)
    (small : p.states ≤ 1024) where
  -- the steps of a reach are sets of states, and each is part of the later ones
  target_in : (i : ℕ) → Sifted all (target p mask (goes p leave) all i)
  unfolding target
  target_in i = sifted_filter (λ x. goes p leave x || (in_goal p i x && can p mask all x)) all

  within_later : (i n m : ℕ) → n ≤ m → (x : ℕ) → is_in x (within p mask leave all i n) ≡ true
      → is_in x (within p mask leave all i m) ≡ true
  unfolding within
  within_later i n m l x h =
      steps_later p mask all (target p mask (goes p leave) all i) (target_in i) n m l x h

  -- and of all from which the goal is forced
  within_forced : (i n x : ℕ) → is_in x (within p mask leave all i n) ≡ true
      → is_in x (forced p mask (goes p leave) all i) ≡ true
  unfolding forced within iterate
  within_forced i n x h =
      elim (dec_lt (length all) n) [
        | yes l ↦ sym (ap (is_in x) (full n (omega arith))) ∙ h
        | no l ↦ within_later i n (length all) (omega arith) x h
      ]
    where
      full : (m : ℕ) → length all ≤ m → within p mask leave all i m ≡ within p mask leave all i (length all)
      full m l =
          iterate_still (length all) m (grown p mask all) (target p mask (goes p leave) all i)
          (steps_full p mask all (target p mask (goes p leave) all i) (target_in i) (length all) (omega arith)) l

  -- a state from which it is forced is reached in the step counted for it, and in none before
  step_in : (i x : ℕ) → is_in x (forced p mask (goes p leave) all i) ≡ true
      → is_in x (within p mask leave all i (step_of p mask leave all i x)) ≡ true
  unfolding step_of forced within
  step_in i x h =
      let test : ℕ → Bool = λ n. is_in x (within p mask leave all i n) in
      elim (dec_lt (first (length all) 0 test) (length all)) [
        | yes l ↦ first_holds (length all) 0 test (omega arith)
        | no l ↦
            let r = first_range (length all) 0 test in
            let last : first (length all) 0 test ≡ length all = omega arith in
            ap test last ∙ h
      ]

  step_least : (i x n : ℕ) → is_in x (within p mask leave all i n) ≡ true → step_of p mask leave all i x ≤ n
  unfolding step_of
  step_least i x n h =
      let test : ℕ → Bool = λ k. is_in x (within p mask leave all i k) in
      let r = first_range (length all) 0 test in
      elim (dec_lt n (length all)) [
        | yes l ↦ first_least (length all) 0 test n (omega arith) (omega arith) h
        | no l ↦ omega arith
      ]

  step_few : (i x : ℕ) → step_of p mask leave all i x ≤ 1024
  unfolding step_of
  step_few i x =
      let r = first_range (length all) 0 (λ k. is_in x (within p mask leave all i k)) in
      omega (arith, sifted_few p.states all set)

  reached_in_lem : (i x : ℕ) → is_in x (forced p mask (goes p leave) all i) ≡ true
      → reached p mask leave all i x ≡ step_of p mask leave all i x
  unfolding reached
  reached_in_lem i x h = ap (λ (b : Bool). pick b (step_of p mask leave all i x) lost_mark) h

  reached_out : (i x : ℕ) → is_in x (forced p mask (goes p leave) all i) ≡ false → reached p mask leave all i x ≡ lost_mark
  unfolding reached
  reached_out i x h = ap (λ (b : Bool). pick b (step_of p mask leave all i x) lost_mark) h

  -- the states reached within n steps have smaller waits, and no others
  wait_within : (i n x : ℕ) → n < 65535 → ltb (reached p mask leave all i x) (suc n) ≡ is_in x (within p mask leave all i n)
  wait_within i n x low =
      same_test (ltb (reached p mask leave all i x) (suc n)) (is_in x (within p mask leave all i n))
      (λ t.
      let less = ltb-true (reached p mask leave all i x) (suc n) t in
      ⊎_elim
      (λ h. within_later i (step_of p mask leave all i x) n (omega (arith, reached_in_lem i x h)) x (step_in i x h))
      (λ h. absurd (omega (arith, reached_out i x h)))
      (decided (is_in x (forced p mask (goes p leave) all i))))
      (λ h.
      lt-ltb (reached p mask leave all i x) (suc n)
      (omega (arith, reached_in_lem i x (within_forced i n x h), step_least i x n h)))

  wait_forced : (i x : ℕ) → ltb (reached p mask leave all i x) 65535 ≡ is_in x (forced p mask (goes p leave) all i)
  wait_forced i x =
      ⊎_elim
      (λ h. lt-ltb (reached p mask leave all i x) 65535 (omega (arith, reached_in_lem i x h, step_few i x)) ∙ sym h)
      (λ h. le-ltb (reached p mask leave all i x) 65535 (omega (arith, reached_out i x h)) ∙ sym h)
      (decided (is_in x (forced p mask (goes p leave) all i)))

  within_sifted : (i n : ℕ) → Sifted all (within p mask leave all i n)
  unfolding within
  within_sifted i n = steps_sifted p mask all (target p mask (goes p leave) all i) (target_in i) n

  module _ (waits : List ℕ) (c : Columns p mask leave all waits) where
    column_is : (i x : ℕ) → i < p.goals → x < p.states → get_or (column_of p waits i) x 0 ≡ reached p mask leave all i x
    unfolding column_of
    column_is i x hi hx =
        get_or-take (i * p.states + p.states - i * p.states) (drop (i * p.states) waits) x 0 (omega arith)
        ∙ (get_or-drop (i * p.states) waits x 0 ∙ c.wait_is x i hx hi)

    -- the states with a wait below a limit, by any test that says the same
    below_is : (i w : ℕ) (ys : List ℕ) → i < p.goals → Sifted all ys
        → ((x : ℕ) → x < p.states → ltb (reached p mask leave all i x) w ≡ is_in x ys)
        → below (column_of p waits i) w p.states ≡ ys
    unfolding below
    below_is i w ys hi s same =
        filter_same (λ x. ltb (get_or (column_of p waits i) x 0) w) (λ x. is_in x ys) (numbers p.states 0)
        (λ x m.
        let r = numbers_holds p.states 0 x m in
        ap (λ (v : ℕ). ltb v w) (column_is i x hi (omega arith)) ∙ same x (omega arith))
        ∙ sym (subst (Sifted (numbers p.states 0)) (sym s)
        (sifted_sub (λ y. is_in y ys) (numbers p.states 0) all set))

    -- all states of the set force every goal
    module _ (some_goal : 0 < p.goals)
        (full : (i x : ℕ) → i < p.goals → is_in x all ≡ true → is_in x (forced p mask (goes p leave) all i) ≡ true) where
      -- those with a wait for the first goal are the set
      pub below_all : below (column_of p waits 0) 65535 p.states ≡ all
      below_all =
          below_is 0 65535 all some_goal (sifted_whole all)
          (λ x h.
          wait_forced 0 x
          ∙ same_test (is_in x (forced p mask (goes p leave) all 0)) (is_in x all)
          (λ m. forced_all_lem p mask all (goes p leave) 0 x m) (λ m. full 0 x some_goal m))

      -- and no other state has a wait for it
      pub has_wait : (x : ℕ) → x < p.states → not (eqb (get_or waits x 0) lost_mark) ≡ is_in x all
      has_wait x h =
          let there : 0 * p.states + x ≡ x = omega arith in
          let wait : get_or waits x 0 ≡ reached p mask leave all 0 x =
          ap (λ (k : ℕ). get_or waits k 0) (sym there) ∙ c.wait_is x 0 h some_goal in
          ⊎_elim
          (λ m.
          let forces = full 0 x some_goal m in
          ap not (ne_eqb (get_or waits x 0) lost_mark (λ e. omega (arith, reached_in_lem 0 x forces, step_few 0 x))) ∙ sym m)
          (λ m.
          let none : is_in x (forced p mask (goes p leave) all 0) ≡ false =
          ⊎_elim (λ f. absurd (not_both (forced_all_lem p mask all (goes p leave) 0 x f) m)) (λ f. f)
          (decided (is_in x (forced p mask (goes p leave) all 0))) in
          ap not (eq-eqb (get_or waits x 0) lost_mark (wait ∙ reached_out 0 x none)) ∙ sym m)
          (decided (is_in x all))

      -- a state that leaves is reached at once
      exit_wait : (i x : ℕ) → i < p.goals → is_in x all ≡ true → goes p leave x ≡ true
          → step_of p mask leave all i x ≡ 0
      unfolding within iterate target
      exit_wait i x hi m e =
          let at_once = filter_in (λ y. goes p leave y || (in_goal p i y && can p mask all y)) all x m
          (or_left (goes p leave x) _ e) in
          let most = step_least i x 0 at_once in
          omega arith

      -- so the move of each entry is that of the reach
      module _ (x : ℕ) (m : is_in x all ≡ true) (i : ℕ) (hi : i < p.goals) where
        own_is : own_move p mask leave waits x ≡ found_by p mask leave all i 0 x
        unfolding own_move found_by before
        own_is =
            ap (λ (ys : List ℕ). pick (goes p leave x) (get_or leave x 0) (move_into p mask ys x)) below_all

        later_is : (n : ℕ) → step_of p mask leave all i x ≡ suc n
            → move_into p mask (below (column_of p waits i) (suc n) p.states) x ≡ found_by p mask leave all i (suc n) x
        unfolding found_by before
        later_is n e =
            let low = step_few i x in
            ⊎_elim
            (λ g. absurd (omega (arith, exit_wait i x hi m g)))
            (λ g.
            ap (λ (ys : List ℕ). move_into p mask ys x)
            (below_is i (suc n) (within p mask leave all i n) hi (within_sifted i n)
            (λ y h. wait_within i n y (omega arith)))
            ∙ sym (ap (λ (b : Bool). pick b (get_or leave x 0) (move_into p mask (within p mask leave all i n) x)) g))
            (decided (goes p leave x))

        move_is : (w : ℕ) → w ≡ step_of p mask leave all i x
            → pick (eqb w 0) (own_move p mask leave waits x)
            (move_into p mask (below (column_of p waits i) w p.states) x) ≡ found_by p mask leave all i w x
        move_is zero e = own_is
        move_is (suc n) e = rw (ne_eqb (suc n) 0 (λ q. omega arith)) (later_is n (sym e))

        pub entry_is : let wait = get_or waits (i * p.states + x) 0 in
            wait ∷ (pick (eqb wait 0) (own_move p mask leave waits x)
            (move_into p mask (below (column_of p waits i) wait p.states) x) ∷ [])
            ≡ reached p mask leave all i x ∷ (reached_by p mask leave all i x ∷ [])
        unfolding reached_by
        entry_is =
            let hx = sifted_below p.states all set x m in
            let forces = full i x hi m in
            let step : get_or waits (i * p.states + x) 0 ≡ step_of p mask leave all i x =
            c.wait_is x i hx hi ∙ reached_in_lem i x forces in
            ap₂ (λ (a b : ℕ). a ∷ (b ∷ [])) (c.wait_is x i hx hi)
            (move_is (get_or waits (i * p.states + x) 0) step
            ∙ (ap (λ (w : ℕ). found_by p mask leave all i w x) step
            ∙ sym (ap (λ (b : Bool). pick b (found_by p mask leave all i (step_of p mask leave all i x) x) lost_mark) forces)))

      -- and the entries of a state are those of the reach to each goal
      pub entries_are : (x : ℕ) → is_in x all ≡ true → entries_of p mask (own_move p mask leave waits x) waits x
          ≡ joined p.goals 0 (λ i. reached p mask leave all i x ∷ (reached_by p mask leave all i x ∷ []))
      unfolding entries_of
      entries_are x m =
          joined_same
          (λ i. let wait = get_or waits (i * p.states + x) 0 in
          wait ∷ (pick (eqb wait 0) (own_move p mask leave waits x)
          (move_into p mask (below (column_of p waits i) wait p.states) x) ∷ []))
          (λ i. reached p mask leave all i x ∷ (reached_by p mask leave all i x ∷ [])) p.goals 0
          (λ i l h. entry_is x m i (omega arith))
