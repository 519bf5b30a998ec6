-- A chain takes as many rounds to make as it has states: round n holds the states x with x + n < S. Assumes nothing.
use mathlib.Core.Path.{◌≡◌, refl, sym, ◌∙◌}
use mathlib.Core.Logic.{⊎_elim}
use mathlib.Core.Bool.{true}
use mathlib.Core.List.{List, [], ◌∷◌}
use Prim.Native.Nat.{ℕ, zero, suc, ◌+◌, ◌-◌, ◌<◌}
use native.Mathlib.Omega.{arith}
use lib.ListN.{length}
use borrow.Author.Tests.{le-leb}
use Rattle.statements.specs.Sets.{is_in, filter}
use Rattle.statements.specs.Plants.{Plant, allowed, ends, available, move_into, can}
use Rattle.statements.specs.Kept.{nowhere, forced, held_round}
use Rattle.statements.specs.Rounds.{round_of, round_count, Chain}
use Rattle.sets.proofs.Tests.{not_both, and_true}
use Rattle.sets.proofs.Members.{is_in_cases, is_in_none, filter_holds, filter_in}
use Rattle.kept.proofs.Moves.{can_more, can_move, can_by, into_all, into_ends, into_available, available_bit}
use Rattle.kept.proofs.Moves.{available_end}
use Rattle.kept.proofs.Reach.{target_holds, target_in, forced_target, forced_least}
use Rattle.kept.proofs.Held.{forced_all_holds, forced_all_in, round_suc, round_zero, round_within, round_full}
use Rattle.kept.proofs.Rounds.{round_is, count_is}

-- a state from which a goal is forced within a set can go on within it
forced_can : (p : Plant) (mask : ℕ) (r : List ℕ) (i x : ℕ) → is_in x (forced p mask nowhere r i) ≡ true →
    can p mask r x ≡ true
forced_can p mask r i x h =
    (filter_holds (can p mask r) r x
    (forced_least p mask r nowhere i (filter (can p mask r) r)
    (λ y t.
    let e = target_holds p mask r nowhere i y t in
    ⊎_elim (λ d. absurd (not_both d refl)) (λ g. filter_in (can p mask r) r y e.0 g.1) e.1)
    (λ y a c. filter_in (can p mask r) r y a
    (can_more p mask mask (filter (can p mask r) r) r y (λ u e. e) (λ z m. (filter_holds (can p mask r) r z m).0) c))
    x h)).1

module _ (p : Plant) (mask : ℕ) (chain : Chain p mask) where
  abbrev held : ℕ → List ℕ
  held n = held_round n p mask nowhere (allowed p)

  -- a move into a set from x goes to the next state
  can_next : (ys : List ℕ) (x : ℕ) → can p mask ys x ≡ true → (suc x < p.states) × (is_in (suc x) ys ≡ true)
  can_next ys x c =
      let u = move_into p mask ys x in
      let r = can_move p mask ys x c in
      let a = into_available p mask ys x u r.1 in
      let e = available_end p mask x u a in
      let o = chain.only x u e.0 (available_bit p mask x u a) e.1 in
      (omega (arith, o.0, o.1), rw o.0 at (into_ends p mask ys x u r.1 e.0 e.1))

  next_can : (ys : List ℕ) (x : ℕ) → suc x < p.states → is_in (suc x) ys ≡ true → can p mask ys x ≡ true
  unfolding available
  next_can ys x l m =
      let n = chain.next x l in
      let u = n.0 in
      let e : ends p x u ≡ suc x ∷ [] = n.3 in
      can_by p mask ys x u n.1
      (into_all p mask ys x u
      (and_true n.2 (rw e (le-leb 1 (length (suc x ∷ [])) (omega arith))))
      (λ y i. ⊎_elim (λ q. rw q m) (λ q. absurd (is_in_none y q)) (is_in_cases y (suc x) [] (rw e at i))))

  in_round : (n x : ℕ) → x + n < p.states → is_in x (held n) ≡ true
  in_round zero x l = round_zero p mask nowhere (allowed p) x (omega arith) (chain.labels x (omega arith)).0
  in_round (suc n) x l =
      let r = held n in
      let h = in_round n x (omega arith) in
      rw (round_suc p mask nowhere (allowed p) n)
      (forced_all_in p.goals p mask nowhere r x h
      (λ i g. let z : i ≡ 0 = omega (arith, chain.one_goal) in
      forced_target p mask r nowhere i x
      (target_in p mask r nowhere i x h (rw z (chain.labels x (omega arith)).1)
      (next_can r x (omega arith) (in_round n (suc x) (omega arith))))))

  round_in : (n x : ℕ) → is_in x (held n) ≡ true → x + n < p.states
  round_in zero x h = omega (arith, (round_within p mask nowhere (allowed p) 0 x h).0)
  round_in (suc n) x h =
      let r = held n in
      let e = forced_all_holds p.goals p mask nowhere r x (rw (round_suc p mask nowhere (allowed p) n) at h) in
      let c = can_next r x (forced_can p mask r 0 x (e.1 0 (omega (arith, chain.one_goal)))) in
      omega (arith, round_in n (suc x) c.1)

  some_goal : 0 < p.goals
  some_goal = omega (arith, chain.one_goal)

  -- no round before round S equals its successor: the last state of round k is not in the next
  moves_on_lem : (k : ℕ) → k < p.states → round_of p mask (allowed p) (suc k) ≡ round_of p mask (allowed p) k → ⊥
  moves_on_lem k l e =
      let x = p.states - 1 - k in
      let here : is_in x (round_of p mask (allowed p) k) ≡ true =
      rw (round_is p mask (allowed p) some_goal k) (in_round k x (omega arith)) in
      let there : is_in x (held (suc k)) ≡ true = rw (← round_is p mask (allowed p) some_goal (suc k), e) here in
      omega (arith, round_in (suc k) x there)

  pub takes : round_count p mask (allowed p) ≡ p.states
  takes =
      sym (count_is p mask (allowed p) some_goal p.states
      (round_is p mask (allowed p) some_goal (suc p.states)
      ∙ round_full p mask nowhere (allowed p) p.states (omega arith)
      ∙ sym (round_is p mask (allowed p) some_goal p.states))
      moves_on_lem)
