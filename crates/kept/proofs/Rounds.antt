-- The rounds of request (xiii), forced through round 0, are those of the solver, forced within the round before: a state
-- of round 0 with a move wholly into a round is in that round. So the first that equals its successor comes after at
-- most as many as there are states, and holds the kept states. Assumes nothing.
use mathlib.Core.Path.{◌≡◌, refl, sym, ◌∙◌, ap}
use mathlib.Core.Logic.{⊎_elim}
use mathlib.Core.Bool.{Bool, true, false, ◌&&◌, ◌||◌}
use mathlib.Core.List.{List, []}
use Prim.Native.Nat.{ℕ, zero, suc, ◌≤◌, ◌<◌}
use native.Mathlib.Omega.{arith}
use native.Mathlib.Decide.{dec_lt}
use lib.Dec.{leb}
use lib.ListN.{length}
use borrow.Author.Tests.{le-leb, lt-leb}
use Rattle.statements.specs.Sets.{numbers, every, first, iterate, is_in, all_in, filter}
use Rattle.statements.specs.Plants.{Plant, in_goal, move_into, can}
use Rattle.statements.specs.Kept.{nowhere, grown, forced, forced_all, held_round, held_within, kept_within}
use Rattle.statements.specs.Rounds.{target_into, forced_into, next_round, round_from, same_states, rounds_from, round_of}
use Rattle.statements.specs.Rounds.{round_count, Forced, there, by_move, Aim, Rounded, Counts}
use Rattle.sets.proofs.Tests.{not_both, and_true, and_left, and_right, or_cases}
use Rattle.sets.proofs.Numbers.{every_at, every_all}
use Rattle.sets.proofs.First.{first_range, first_holds, first_before, first_is}
use Rattle.sets.proofs.Members.{Sifted, sifted_filter, sifted_sub, sifted_same, filter_holds, filter_in}
use Rattle.sets.proofs.Members.{all_in_at, all_in_all, numbers_holds, numbers_in_lem}
use Rattle.sets.proofs.Iterate.{iterate_still, sifted_as_long, sifted_longer}
use Rattle.kept.proofs.Moves.{Sub, can_more, can_move, can_by, into_all, into_ends, into_available}
use Rattle.kept.proofs.Reach.{steps_least, steps_start, steps_full, grown_can, target_holds, target_in}
use Rattle.kept.proofs.Reach.{forced_target, forced_closed, forced_least, forced_all_lem}
use Rattle.kept.proofs.Held.{forced_all_holds, forced_all_in, round_suc, round_sifted, round_less, round_later}
use Rattle.kept.proofs.Held.{round_full}
use Rattle.kept.proofs.Kept.{kept_plain}

-- what can be forced in the words of document 02 is what the sets grow to
module _ (p : Plant) (mask : ℕ) (start before : List ℕ) (i : ℕ) where
  abbrev In : ℕ → Type 0
  In x = is_in x start ≡ true

  abbrev goal : List ℕ
  goal = target_into p mask start before i

  goal_sifted : Sifted start goal
  unfolding target_into
  goal_sifted = sifted_filter (λ x. in_goal p i x && can p mask before x) start

  aim_in : (x : ℕ) → Aim p mask start before i x → is_in x goal ≡ true
  unfolding target_into
  aim_in x a =
      filter_in (λ z. in_goal p i z && can p mask before z) start x a.in_start
      (and_true a.in_goal_lem
      (can_by p mask before x a.move a.low (into_all p mask before x a.move a.is_available a.wholly)))

  in_aim : (x : ℕ) → is_in x goal ≡ true → Aim p mask start before i x
  unfolding target_into
  in_aim x h =
      let r = filter_holds (λ z. in_goal p i z && can p mask before z) start x h in
      let u = move_into p mask before x in
      let c = can_move p mask before x (and_right (in_goal p i x) (can p mask before x) r.1) in
      record {
        in_start = r.0;
        in_goal_lem = and_left (in_goal p i x) (can p mask before x) r.1;
        move = u;
        low = c.0;
        is_available = into_available p mask before x u c.1;
        wholly = into_ends p mask before x u c.1;
      }

  forced_in : (x : ℕ) → Forced p mask In (Aim p mask start before i) x → is_in x (forced_into p mask start before i) ≡ true
  unfolding forced_into
  forced_in x (there y a) = steps_start p mask start goal goal_sifted (length start) x (aim_in x a)
  forced_in x (by_move y u s l v f) =
      rw (← steps_full p mask start goal goal_sifted (length start) (omega arith))
      (grown_can p mask start (forced_into p mask start before i) x s
      (can_by p mask (forced_into p mask start before i) x u l
      (into_all p mask (forced_into p mask start before i) x u v (λ z m. forced_in z (f z m)))))

  step_forced : (n x : ℕ) → is_in x (iterate n (grown p mask start) goal) ≡ true →
      Forced p mask In (Aim p mask start before i) x
  unfolding iterate grown
  step_forced zero x h = there x (in_aim x h)
  step_forced (suc n) x h =
      let ys = iterate n (grown p mask start) goal in
      let r = filter_holds (λ z. is_in z ys || can p mask ys z) start x h in
      ⊎_elim (λ e. step_forced n x e)
      (λ c.
      let u = move_into p mask ys x in
      let w = can_move p mask ys x c in
      by_move x u r.0 w.0 (into_available p mask ys x u w.1)
      (λ y m. step_forced n y (into_ends p mask ys x u w.1 y m)))
      (or_cases (is_in x ys) (can p mask ys x) r.1)

  in_forced : (x : ℕ) → is_in x (forced_into p mask start before i) ≡ true →
      Forced p mask In (Aim p mask start before i) x
  unfolding forced_into
  in_forced = step_forced (length start)

-- so the rounds are those of document 02
pub rounded : (p : Plant) (mask : ℕ) (within : ℕ → Bool) → Rounded p mask within
unfolding round_from iterate next_round
rounded p mask within =
    let start = filter within (numbers p.states 0) in
    record {
      begins = λ x. (
        λ h.
            let r = filter_holds within (numbers p.states 0) x h in
            let k = numbers_holds p.states 0 x r.0 in
            (omega arith, r.1),
        λ h. filter_in within (numbers p.states 0) x (numbers_in_lem p.states 0 x (omega arith) (omega (arith, h.0))) h.1,
      );
      next = λ n x.
          let before = iterate n (next_round p mask start) start in
          let test : ℕ → Bool = λ z. every p.goals 0 (λ i. is_in z (forced_into p mask start before i)) in (
            λ h.
                let r = filter_holds test start x h in (
                  r.0,
                  λ i l.
                      in_forced p mask start before i x
                      (every_at p.goals 0 (λ k. is_in x (forced_into p mask start before k)) r.1 i (omega arith) (omega arith)),
                ),
            λ h.
                filter_in test start x h.0
                (every_all p.goals 0 (λ k. is_in x (forced_into p mask start before k))
                (λ i l m. forced_in p mask start before i x (h.1 i (omega arith)))),
          );
    }

module _ (p : Plant) (mask : ℕ) (within : ℕ → Bool) (some_goal : 0 < p.goals) where
  -- round n of the solver, and round 0
  abbrev held : ℕ → List ℕ
  held n = held_round n p mask nowhere within

  start : List ℕ
  start = held 0

  -- a state of round 0 with a move wholly into a round is in that round
  round_closed : (n x : ℕ) → is_in x start ≡ true → can p mask (held n) x ≡ true → is_in x (held n) ≡ true
  unfolding start
  round_closed zero x s c = s
  round_closed (suc n) x s c =
      let before = held n in
      let after = held (suc n) in
      let ih = round_closed n x s (can_more p mask mask after before x (λ u e. e) (round_less p mask nowhere within n) c) in
      rw (round_suc p mask nowhere within n)
      (forced_all_in p.goals p mask nowhere before x ih
      (λ i l. forced_closed p mask before nowhere i x ih
      (can_more p mask mask after (forced p mask nowhere before i) x (λ u e. e)
      (λ y m. (forced_all_holds p.goals p mask nowhere before y (rw (round_suc p mask nowhere within n) at m)).1 i l) c)))

  module _ (n i : ℕ) where
    before : List ℕ
    before = held n

    into_forced : Sub (forced_into p mask start before i) (forced p mask nowhere before i)
    unfolding forced_into target_into before
    into_forced =
        steps_least p mask start (target_into p mask start before i) (forced p mask nowhere before i)
        (λ x h. let r = filter_holds (λ z. in_goal p i z && can p mask before z) start x h in
        let c = and_right (in_goal p i x) (can p mask before x) r.1 in
        forced_target p mask before nowhere i x
        (target_in p mask before nowhere i x (round_closed n x r.0 c) (and_left (in_goal p i x) (can p mask before x) r.1) c))
        (λ x s c. forced_closed p mask before nowhere i x
        (round_closed n x s
        (can_more p mask mask (forced p mask nowhere before i) before x (λ u e. e) (forced_all_lem p mask before nowhere i) c))
        c)
        (length start)

    forced_into_lem : Sub (forced p mask nowhere before i) (forced_into p mask start before i)
    unfolding forced_into target_into before start
    forced_into_lem =
        forced_least p mask before nowhere i (forced_into p mask start before i)
        (λ x h. let r = target_holds p mask before nowhere i x h in
        ⊎_elim (λ d. absurd (not_both d refl))
        (λ g.
        steps_start p mask start (target_into p mask start before i) (goal_sifted p mask start before i) (length start) x
        (filter_in (λ z. in_goal p i z && can p mask before z) start x
        (round_later p mask nowhere within 0 n (omega arith) x r.0) (and_true g.0 g.1)))
        r.1)
        (λ x b c.
        rw (← steps_full p mask start (target_into p mask start before i) (goal_sifted p mask start before i) (length start)
        (omega arith))
        (grown_can p mask start (forced_into p mask start before i) x
        (round_later p mask nowhere within 0 n (omega arith) x b) c))

  next_is : (n : ℕ) → next_round p mask start (held n) ≡ held (suc n)
  unfolding next_round before start
  next_is n =
      let r = held n in
      let test : ℕ → Bool = λ x. every p.goals 0 (λ i. is_in x (forced_into p mask start r i)) in
      sifted_same (numbers p.states 0) (filter test start) (held (suc n))
      (sifted_sub test (numbers p.states 0) start (round_sifted p mask nowhere within 0))
      (round_sifted p mask nowhere within (suc n))
      (λ x h. let e = filter_holds test start x h in
      let each : (i : ℕ) → i < p.goals → is_in x (forced p mask nowhere r i) ≡ true = λ i l.
      into_forced n i x (every_at p.goals 0 (λ k. is_in x (forced_into p mask start r k)) e.1 i (omega arith) (omega arith)) in
      rw (round_suc p mask nowhere within n)
      (forced_all_in p.goals p mask nowhere r x (forced_all_lem p mask r nowhere 0 x (each 0 some_goal)) each))
      (λ x h. let e = forced_all_holds p.goals p mask nowhere r x (rw (round_suc p mask nowhere within n) at h) in
      filter_in test start x (round_later p mask nowhere within 0 n (omega arith) x e.0)
      (every_all p.goals 0 (λ k. is_in x (forced_into p mask start r k)) (λ i l m. forced_into_lem n i x (e.1 i (omega arith)))))

  -- the rounds are the solver's
  pub round_is : (n : ℕ) → round_of p mask within n ≡ held n
  unfolding round_from iterate start held_round
  round_is zero = refl
  round_is (suc n) = ap (next_round p mask start) (round_is n) ∙ next_is n

  same_is : (xs ys : List ℕ) → xs ≡ ys → same_states xs ys ≡ true
  unfolding same_states
  same_is xs ys e = rw e (and_true (all_in_all ys ys (λ x m. m)) (all_in_all ys ys (λ x m. m)))

  same_holds : (n : ℕ) → same_states (round_of p mask within n) (round_of p mask within (suc n)) ≡ true →
      round_of p mask within (suc n) ≡ round_of p mask within n
  unfolding same_states
  same_holds n h =
      let a = round_of p mask within n in
      let b = round_of p mask within (suc n) in
      sifted_same (numbers p.states 0) b a (rw (round_is (suc n)) (round_sifted p mask nowhere within (suc n)))
      (rw (round_is n) (round_sifted p mask nowhere within n))
      (all_in_at b a (and_right (all_in a b) (all_in b a) h)) (all_in_at a b (and_left (all_in a b) (all_in b a) h))

  full : round_of p mask within (suc p.states) ≡ round_of p mask within p.states
  full = round_is (suc p.states) ∙ round_full p mask nowhere within p.states (omega arith) ∙ sym (round_is p.states)

  test : ℕ → Bool
  test n = same_states (round_of p mask within n) (round_of p mask within (suc n))

  count_first : round_count p mask within ≡ first p.states 0 test
  unfolding rounds_from test
  count_first = refl

  at_most : round_count p mask within ≤ p.states
  at_most = omega (arith, count_first, (first_range p.states 0 test).1)

  stands : round_of p mask within (suc (round_count p mask within)) ≡ round_of p mask within (round_count p mask within)
  unfolding rounds_from test
  stands =
      elim (dec_lt (round_count p mask within) p.states) [
        | yes l ↦ same_holds (round_count p mask within) (first_holds p.states 0 test (omega arith))
        | no l ↦
            let e : round_count p mask within ≡ p.states = omega (arith, at_most) in
            rw e full
      ]

  no_earlier : (n : ℕ) → n < round_count p mask within → round_of p mask within (suc n) ≡ round_of p mask within n → ⊥
  unfolding rounds_from test
  no_earlier n l e =
      not_both (same_is (round_of p mask within n) (round_of p mask within (suc n)) (sym e))
      (first_before p.states 0 test n (omega arith) l)

  -- the count is that of the first round that equals its successor
  pub counted : Counts p mask within (round_count p mask within)
  counted = record { stands = stands; no_earlier = no_earlier; at_most = at_most }

  -- and no other number is
  pub count_is : (n : ℕ) → round_of p mask within (suc n) ≡ round_of p mask within n →
      ((k : ℕ) → k < n → round_of p mask within (suc k) ≡ round_of p mask within k → ⊥) → n ≡ round_count p mask within
  count_is n e none =
      elim (dec_lt (round_count p mask within) n) [
        | yes l ↦ absurd (none (round_count p mask within) l stands)
        | no l ↦
            elim (dec_lt n (round_count p mask within)) [
              | yes m ↦ absurd (no_earlier n m e)
              | no m ↦ omega arith
            ]
      ]

  -- it is also told from lengths: the first round that the next leaves no shorter
  pub count_lengths : first p.states 0 (λ n. leb (length (held n)) (length (held (suc n)))) ≡ round_count p mask within
  count_lengths =
      let c = round_count p mask within in
      first_is p.states (λ n. leb (length (held n)) (length (held (suc n)))) c at_most
      (le-leb (length (held c)) (length (held (suc c)))
      (omega (arith, ap length (sym (round_is (suc c)) ∙ stands ∙ round_is c))))
      (λ k h.
      elim (dec_lt (length (held (suc k))) (length (held k))) [
        | yes l ↦ lt-leb (length (held k)) (length (held (suc k))) l
        | no l ↦
            absurd (no_earlier k h (round_is (suc k) ∙
            sifted_as_long (numbers p.states 0) (held (suc k)) (held k) (round_sifted p mask nowhere within (suc k))
            (round_sifted p mask nowhere within k) (round_less p mask nowhere within k)
            (omega (
              arith,
              sifted_longer (numbers p.states 0) (held (suc k)) (held k)
                  (round_sifted p mask nowhere within (suc k)) (round_sifted p mask nowhere within k)
                  (round_less p mask nowhere within k),
            ))
            ∙ sym (round_is k)))
      ])

  -- the last round holds the kept states
  pub holds_kept : p.settles ≡ false → round_of p mask within (round_count p mask within) ≡ kept_within p mask within
  unfolding held_within held_round iterate
  holds_kept plain =
      let n = round_count p mask within in
      round_is n ∙ sym (kept_plain p mask within plain ∙
      iterate_still n p.states (forced_all p.goals p mask nowhere) (filter within (numbers p.states 0))
      (sym (round_is (suc n)) ∙ stands ∙ round_is n) at_most)

-- from no state there is no round
pub none_from : (p : Plant) (mask : ℕ) → rounds_from p mask [] ≡ 0
unfolding rounds_from round_from iterate next_round filter same_states all_in
none_from p mask =
    first_is p.states (λ n. same_states (round_from p mask [] n) (round_from p mask [] (suc n))) 0 (omega arith) refl
    (λ j h. absurd (omega arith))
