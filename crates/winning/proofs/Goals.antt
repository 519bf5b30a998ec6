-- The goal arrived at: it is the first that is not served, from the sought one on in turn, or the sought one if all are
-- served; to arrive again changes nothing; and passing a goal comes nearer to every other that is not served.
-- Assumes nothing.
use mathlib.Core.Path.{◌≡◌, sym, ap, ◌∙◌}
use mathlib.Core.Logic.{◌⊎◌, inl, inr}
use mathlib.Core.Bool.{Bool, true, not}
use mathlib.Core.List.{List}
use Prim.Native.Nat.{ℕ, suc, ◌+◌, ◌-◌, ◌%◌, ◌≤◌, ◌<◌}
use native.Mathlib.Nat.{add-suc, mod-lt, mod-eq_of_lt, mod_self, suc-mod, mod-eq-sub-mod}
use native.Mathlib.Omega.{arith}
use native.Mathlib.Decide.{dec_lt}
use lib.Dec.{leb}
use borrow.Author.Tests.{eqb-true, eqb-false, ne_eqb, le-leb, lt-leb, not-true, not-false}
use Rattle.statements.specs.Sets.{pick}
use Rattle.statements.specs.Books.{book_goals, wait_at, goal_after, served, passes, arrive}
use Rattle.statements.specs.Demands.{Arriving}
use Rattle.sets.proofs.First.{first_range, first_holds, first_least, first_before}

-- goals in turn
module _ (n i k : ℕ) where
  -- k places after goal i without going round, and going round once
  pub after_on : i + k < n → goal_after n i k ≡ i + k
  unfolding goal_after
  after_on h = mod-eq_of_lt h

  pub after_round : n ≤ i + k → i + k < n + n → goal_after n i k ≡ i + k - n
  unfolding goal_after
  after_round h l = mod-eq-sub-mod h ∙ mod-eq_of_lt (omega arith)

  -- it is a goal
  pub after_below : i < n → goal_after n i k < n
  unfolding goal_after
  after_below h = mod-lt (i + k) (omega arith)

  -- a place further on is the goal after it, and after the last the first
  after_suc : goal_after n i (suc k) ≡ suc (goal_after n i k) % n
  unfolding goal_after
  after_suc = ap (λ (m : ℕ). m % n) (add-suc i k) ∙ suc-mod (i + k) n

  after_next : suc (goal_after n i k) < n → goal_after n i (suc k) ≡ suc (goal_after n i k)
  after_next h = after_suc ∙ mod-eq_of_lt h

  after_last : suc (goal_after n i k) ≡ n → goal_after n i (suc k) ≡ 0
  after_last e = after_suc ∙ ap (λ (m : ℕ). m % n) e ∙ mod_self n

-- no place on it is the goal itself
after_none : (n i : ℕ) → i < n → goal_after n i 0 ≡ i
after_none n i h = omega (arith, after_on n i 0 (omega arith))

-- how many places goal i comes after goal s
pub ahead : ℕ → ℕ → ℕ → ℕ
ahead n s i = pick (leb s i) (i - s) (i + n - s)

-- without going round, and going round
ahead_on : (n s i : ℕ) → s ≤ i → ahead n s i ≡ i - s
unfolding ahead
ahead_on n s i h = rw (le-leb s i h)

ahead_round : (n s i : ℕ) → i < s → ahead n s i ≡ i + n - s
unfolding ahead
ahead_round n s i h = rw (lt-leb s i h)

-- it is less than all the goals, and so many places after goal s comes goal i
ahead_below : (n s i : ℕ) → s < n → i < n → ahead n s i < n
ahead_below n s i hs hi =
    elim (dec_lt i s) [
      | yes l ↦ rw (ahead_round n s i l) (omega arith)
      | no l ↦ rw (ahead_on n s i (omega arith)) (omega arith)
    ]

after_ahead : (n s i : ℕ) → s < n → i < n → goal_after n s (ahead n s i) ≡ i
after_ahead n s i hs hi =
    elim (dec_lt i s) [
      | yes l ↦ rw (ahead_round n s i l) (omega (arith, after_round n s (i + n - s) (omega arith) (omega arith)))
      | no l ↦ rw (ahead_on n s i (omega arith)) (omega (arith, after_on n s (i - s) (omega arith)))
    ]

-- and no other number of places below that of all goals
ahead_only : (n s i k : ℕ) → s < n → k < n → goal_after n s k ≡ i → ahead n s i ≡ k
ahead_only n s i k hs hk e =
    elim (dec_lt (s + k) n) [
      | yes l ↦ omega (arith, after_on n s k l, ahead_on n s i (omega (arith, after_on n s k l)))
      | no l ↦
          let there = after_round n s k (omega arith) (omega arith) in
          omega (arith, there, ahead_round n s i (omega (arith, there)))
    ]

-- from a goal k places on, no more than goal i is, it is k places less
ahead_after :
    (n s i k : ℕ) → s < n → i < n → k ≤ ahead n s i → ahead n (goal_after n s k) i ≡ ahead n s i - k
ahead_after n s i k hs hi hk =
    elim (dec_lt i s) [
      | yes l ↦
          let far = ahead_round n s i l in
          elim (dec_lt (s + k) n) [
            | yes m ↦ rw (after_on n s k m) (omega (arith, ahead_round n (s + k) i (omega arith)))
            | no m ↦
                rw (after_round n s k (omega arith) (omega arith))
                (omega (arith, ahead_on n (s + k - n) i (omega arith)))
          ]
      | no l ↦
          let near = ahead_on n s i (omega arith) in
          rw (after_on n s k (omega arith)) (omega (arith, ahead_on n (s + k) i (omega arith)))
    ]

-- the goals that are passed in a state of a book, from a sought one on
module _ (b : List ℕ) (x i : ℕ) where
  -- the goal k places on is not served
  abbrev pub Stops : ℕ → Bool
  Stops k = not (served b x (goal_after (book_goals b) i k))

  -- above wait 0 it is not
  stops_above : (k : ℕ) → 0 < wait_at b x (goal_after (book_goals b) i k) → Stops k ≡ true
  unfolding served
  stops_above k h = rw (ne_eqb (wait_at b x (goal_after (book_goals b) i k)) 0 (λ e. omega arith))

  -- at most all goals are passed
  passes_range : passes b x i ≤ book_goals b
  unfolding passes
  passes_range = omega (arith, first_range (book_goals b) 0 Stops)

  -- those passed are served
  pub passes_served : (k : ℕ) → k < passes b x i → wait_at b x (goal_after (book_goals b) i k) ≡ 0
  unfolding passes served
  passes_served k h =
      eqb-true _ 0 (not-false _ (first_before (book_goals b) 0 Stops k (omega arith) h))

  -- a goal that is not served is not passed
  passes_least :
      (k : ℕ) → k < book_goals b → 0 < wait_at b x (goal_after (book_goals b) i k) → passes b x i ≤ k
  unfolding passes
  passes_least k h w = first_least (book_goals b) 0 Stops k (omega arith) (omega arith) (stops_above k w)

  -- if not all are passed, the goal arrived at is not served
  passes_stops : passes b x i < book_goals b → 0 < wait_at b x (arrive b x i)
  unfolding passes arrive served
  passes_stops h =
      let stop = not-true (served b x (arrive b x i)) (first_holds (book_goals b) 0 Stops (omega arith)) in
      omega (arith, eqb-false (wait_at b x (arrive b x i)) 0 stop)

  module _ (hi : i < book_goals b) where
    -- the goal arrived at is a goal
    pub arrive_below : arrive b x i < book_goals b
    unfolding arrive
    arrive_below = after_below (book_goals b) i (passes b x i) hi

    -- no goal is passed: the sought one stays
    arrive_none : passes b x i ≡ 0 → arrive b x i ≡ i
    unfolding arrive
    arrive_none e = rw e (after_none (book_goals b) i hi)

    -- all are: it stays
    arrive_all : passes b x i ≡ book_goals b → arrive b x i ≡ i
    unfolding arrive
    arrive_all e = rw e (omega (arith, after_round (book_goals b) i (book_goals b) (omega arith) (omega arith)))

    -- a sought goal that is not served stays
    pub arrive_unserved : 0 < wait_at b x i → arrive b x i ≡ i
    arrive_unserved w =
        arrive_none (omega (arith, passes_least 0 (omega arith) (rw (after_none (book_goals b) i hi) w)))

    -- the first goal that is not served is the one arrived at
    arrive_until :
        (k : ℕ) → k < book_goals b → ((j : ℕ) → j < k → wait_at b x (goal_after (book_goals b) i j) ≡ 0) →
        0 < wait_at b x (goal_after (book_goals b) i k) → arrive b x i ≡ goal_after (book_goals b) i k
    unfolding arrive
    arrive_until k hk before w =
        let most = passes_least k hk w in
        elim (dec_lt (passes b x i) k) [
          | yes l ↦ absurd (omega (arith, passes_stops (omega arith), before (passes b x i) l))
          | no l ↦ ap (goal_after (book_goals b) i) (omega arith)
        ]

    -- if the goal arrived at is served, so is every goal
    arrive_all_served : (j : ℕ) → j < book_goals b → wait_at b x (arrive b x i) ≡ 0 → wait_at b x j ≡ 0
    arrive_all_served j hj e =
        let n = book_goals b in
        elim (dec_lt 0 (wait_at b x j)) [
          | yes l ↦
              let far = ahead_below n i j hi hj in
              let least = passes_least (ahead n i j) far (rw (after_ahead n i j hi hj) l) in
              absurd (omega (arith, passes_stops (omega arith)))
          | no l ↦ omega arith
        ]

    -- a goal arrived at that is served is the sought one, all being passed
    arrive_served : wait_at b x (arrive b x i) ≡ 0 → arrive b x i ≡ i
    arrive_served e =
        elim (dec_lt (passes b x i) (book_goals b)) [
          | yes l ↦ absurd (omega (arith, passes_stops l))
          | no l ↦ arrive_all (omega (arith, passes_range))
        ]

    -- if all are served, the sought one stays
    arrive_stays : ((j : ℕ) → j < book_goals b → wait_at b x j ≡ 0) → arrive b x i ≡ i
    arrive_stays all = arrive_served (all (arrive b x i) arrive_below)

    -- where the sought goal is served any goal is too, or the one arrived at comes nearer to it in turn
    pub nears :
        (j : ℕ) → j < book_goals b → wait_at b x i ≡ 0 →
        (wait_at b x j ≡ 0) ⊎ (ahead (book_goals b) (arrive b x i) j < ahead (book_goals b) i j)
    unfolding arrive
    nears j hj w =
        let n = book_goals b in
        let k = passes b x i in
        elim (dec_lt 0 (wait_at b x j)) [
          | yes l ↦
              let far = ahead_below n i j hi hj in
              let least = passes_least (ahead n i j) far (rw (after_ahead n i j hi hj) l) in
              elim (dec_lt 0 k) [
                | yes m ↦ inr (omega (arith, ahead_after n i j k hi hj least))
                | no m ↦
                    let none : k ≡ 0 = omega arith in
                    let here = arrive_none none in
                    absurd (omega (arith, rw here at (passes_stops (omega arith))))
              ]
          | no l ↦ inl (omega arith)
        ]

    -- so it comes sooner in turn
    arrive_sooner :
        (j k : ℕ) → k < book_goals b → goal_after (book_goals b) i k ≡ j → wait_at b x i ≡ 0 →
        (wait_at b x j ≡ 0) ⊎ ((m : ℕ) × (m < k) × (goal_after (book_goals b) (arrive b x i) m ≡ j))
    arrive_sooner j k hk e w =
        let n = book_goals b in
        let hj : j < n = rw (sym e) (after_below n i k hi) in
        elim (nears j hj w) [
          | inl z ↦ inl z
          | inr l ↦
              inr (
                ahead n (arrive b x i) j,
                omega (arith, l, ahead_only n i j k hi hk e),
                after_ahead n (arrive b x i) j arrive_below hj,
              )
        ]

-- to arrive again changes nothing
pub arrive_again : (b : List ℕ) (x i : ℕ) → i < book_goals b → arrive b x (arrive b x i) ≡ arrive b x i
arrive_again b x i hi =
    elim (dec_lt 0 (wait_at b x (arrive b x i))) [
      | yes l ↦ arrive_unserved b x (arrive b x i) (arrive_below b x i hi) l
      | no l ↦ let same = arrive_served b x i hi (omega arith) in rw (same, same)
    ]

-- arriving is what request (v) says of it
pub arriving : Arriving
arriving =
    record {
      itself = after_none;
      next = after_next;
      after_last = after_last;
      in_range = after_below;
      each = λ n i j hi hj. (ahead n i j, ahead_below n i j hi hj, after_ahead n i j hi hj);
      until = λ b x i k hi. arrive_until b x i hi k;
      stays = arrive_stays;
      goal = arrive_below;
      passed = passes_served;
      all_served = λ b x i j hi. arrive_all_served b x i hi j;
      sooner = λ b x i j k hi. arrive_sooner b x i hi j k;
      idempotent = arrive_again;
    }
