-- The desk follows the book: from what consult's calls promise of the books written for a plant (`Steps`) and of the
-- goal arrived at (`Arriving`). The wait shown falls with each report until the goal sought is served; then the next goal
-- in turn that is not served is sought, and so each comes. Assumes nothing else.
use mathlib.Core.Path.{◌≡◌, refl, sym, ◌∙◌, ap, subst}
use mathlib.Core.Logic.{inl, inr, ⊎_elim}
use mathlib.Core.Bool.{true, false}
use mathlib.Core.List.{List}
use Prim.Native.Nat.{ℕ, zero, suc, ◌+◌, ◌*◌, ◌≤◌, ◌<◌}
use native.Mathlib.Omega.{arith}
use Rattle.statements.specs.Sets.{is_in}
use Rattle.statements.specs.Plants.{Plant, plant_of, ends}
use Rattle.statements.specs.Books.{book_goals, wait_at, move_at, is_lost, goal_after, passes, arrive}
use Rattle.statements.specs.Calls.{moves_fault}
use Rattle.statements.specs.Demands.{Arriving}
use Rattle.statements.specs.Strategies.{InGoal}
use Rattle.sets.proofs.Tests.{same_number}
use Rattle.promises.specs.Says.{Advises, Determined}
use Rattle.promises.specs.Steps.{Guides, Steps}
use Rattle.desk.specs.Desk.{Desk}
use Rattle.desk.specs.Desk.{strays, report_fault, goal_held, StartSays, ReportSays, Answering}
use Rattle.desk.specs.Followed.{Session, state_at, sought_at, MetBy, Followed, Following}
use Rattle.desk.proofs.Against.{answering}

module _ (s b : List ℕ) (guide : Guides s b) (plain : (plant_of s).settles ≡ false) (arriving : Arriving) where
  abbrev p : Plant
  p = plant_of s

  -- a goal of the plant is one of the book, and so is the one arrived at
  of_book : {i : ℕ} → i < p.goals → i < book_goals b
  of_book h = rw guide.goals h

  arrived : (x i : ℕ) → i < p.goals → arrive b x i < p.goals
  arrived x i hi = rw guide.goals at (arriving.goal b x i (of_book hi))

  -- a goal that is not served stays the one sought
  unserved : (x i : ℕ) → i < p.goals → 0 < wait_at b x i → arrive b x i ≡ i
  unserved x i hi pos =
      let n = book_goals b in
      let none : goal_after n i 0 ≡ i = arriving.itself n i (of_book hi) in
      arriving.until b x i 0 (of_book hi) (omega (arith, of_book hi)) (λ j l. absurd (omega arith))
      (rw none pos) ∙ none

  -- the desk is in a kept state x, to which it came seeking goal i
  record At (x i : ℕ) (r : Desk) : Type 0 where
    state_low : x < p.states
    goal_low : i < p.goals
    kept : is_lost b x ≡ false
    number : r.advice.number ≡ 0
    lost : r.advice.lost ≡ false
    action : r.advice.action ≡ move_at b x (arrive b x i)
    wait : r.advice.wait ≡ wait_at b x (arrive b x i)
    seek : r.advice.seek ≡ arrive b x i
    state : r.state ≡ x
    goal : r.goal ≡ arrive b x i

  at : (n x i : ℕ) (r : Desk) → x < p.states → i < p.goals → is_lost b x ≡ false → n ≡ 0 →
      Advises n b x i r.advice → r.state ≡ x → r.goal ≡ goal_held b x i → At x i r
  unfolding goal_held
  at n x i r hx hi k fine shows state goal =
      record {
        state_low = hx;
        goal_low = hi;
        kept = k;
        number = shows.number ∙ fine;
        lost = shows.lost ∙ rw (fine, k) refl;
        action = shows.action ∙ rw (fine, k) refl;
        wait = shows.wait ∙ rw (fine, k) refl;
        seek = shows.seek ∙ rw (fine, k) refl;
        state = state;
        goal = goal ∙ rw k refl;
      }

  started : (x : ℕ) (r : Desk) → x < p.states → is_lost b x ≡ false → StartSays s b x r → At x 0 r
  started x r hx k says =
      let fine = guide.consulted x 0 hx guide.some_goal in
      at (moves_fault s b x 0) x 0 r hx guide.some_goal k fine says.shows (says.state ∙ rw fine refl)
      (says.goal ∙ rw fine refl)

  -- a report of an end of the move shown is accepted
  taken : (x g y : ℕ) → x < p.states → g < p.goals → y < p.states → is_lost b x ≡ false → arrive b x g ≡ g →
      is_in y (ends p x (move_at b x g)) ≡ true → report_fault s b x g y ≡ 0
  unfolding report_fault strays
  taken x g y hx hg hy k again end = rw (guide.stepped x g y hx hg hy, again, k, end) refl

  reported : (x i y : ℕ) (r t : Desk) → At x i r → is_in y (ends p x r.advice.action) ≡ true →
      ReportSays s b r.state r.goal y t → At y (arrive b x i) t
  reported x i y r t a m says =
      let g = arrive b x i in
      let hg = arrived x i a.goal_low in
      let again : arrive b x g ≡ g = arriving.idempotent b x i (of_book a.goal_low) in
      let end : is_in y (ends p x (move_at b x g)) ≡ true = rw a.action at m in
      let on = guide.stays x g y a.state_low hg a.kept end in
      let fine = taken x g y a.state_low hg on.0 a.kept again end in
      let told : ReportSays s b x g y t = rw (a.state, a.goal) at says in
      at (report_fault s b x g y) y g t on.0 hg on.1 fine
      (subst (λ (h : ℕ). Advises (report_fault s b x g y) b y h t.advice) again told.shows)
      (told.state ∙ rw fine refl)
      (told.goal ∙ rw fine (ap (goal_held b y) again))

  module _ (start : ℕ) (reports : ℕ → ℕ) (desk : ℕ → Desk) (m : ℕ) (hx : start < p.states)
      (kept : is_lost b start ≡ false) (session : Session s b start reports desk m) where
    -- where the desk is after n reports, and what it shows
    abbrev x_at : ℕ → ℕ
    x_at = state_at start reports

    abbrev seek_at : ℕ → ℕ
    seek_at n = (desk n).advice.seek

    always : (n : ℕ) → n ≤ m → At (x_at n) (sought_at desk n) (desk n)
    unfolding state_at sought_at
    always zero l = started start (desk 0) hx kept session.starts
    always (suc n) l =
        let a = always n (omega arith) in
        rw a.seek
        (reported (x_at n) (sought_at desk n) (reports n) (desk n) (desk (suc n)) a
        (rw a.state at (session.correct n (omega arith))) (session.goes n (omega arith)))

    seek_low : (n : ℕ) → n ≤ m → seek_at n < p.goals
    seek_low n l =
        let a = always n l in rw a.seek (arrived (x_at n) (sought_at desk n) a.goal_low)

    -- a goal with wait 0 is met, and only such a one
    met : (n i : ℕ) → n ≤ m → i < p.goals → wait_at b (x_at n) i ≡ 0 → InGoal p i (desk n).state
    met n i l hi z =
        let a = always n l in
        rw a.state ((guide.served plain (x_at n) i a.state_low hi a.kept).0 z)

    goal_served : (n i : ℕ) → n ≤ m → i < p.goals → InGoal p i (desk n).state → wait_at b (x_at n) i ≡ 0
    goal_served n i l hi g =
        let a = always n l in
        (guide.served plain (x_at n) i a.state_low hi a.kept).1 (rw a.state at g)

    -- where the wait shown is 0 every goal is met
    all_met : (n i : ℕ) → n ≤ m → i < p.goals → (desk n).advice.wait ≡ 0 → InGoal p i (desk n).state
    all_met n i l hi z =
        let a = always n l in
        met n i l hi
        (arriving.all_served b (x_at n) (sought_at desk n) i (of_book a.goal_low) (of_book hi) (sym a.wait ∙ z))

    -- a goal that is not served in the next state is still the one sought there
    still : (n : ℕ) → n < m → 0 < wait_at b (x_at (suc n)) (seek_at n) → seek_at (suc n) ≡ seek_at n
    unfolding sought_at
    still n l pos =
        let c = always (suc n) (omega arith) in
        c.seek ∙ unserved (x_at (suc n)) (seek_at n) c.goal_low pos

    -- the wait shown is that of the goal shown, and falls
    wait_is : (n : ℕ) → n ≤ m → (desk n).advice.wait ≡ wait_at b (x_at n) (seek_at n)
    wait_is n l = let a = always n l in a.wait ∙ rw a.seek refl

    falls : (n : ℕ) → n < m → 0 < (desk n).advice.wait →
        wait_at b (x_at (suc n)) (seek_at n) < (desk n).advice.wait
    unfolding state_at
    falls n l pos =
        let a = always n (omega arith) in
        let e = wait_is n (omega arith) in
        let end : is_in (reports n) (ends p (x_at n) (move_at b (x_at n) (seek_at n))) ≡ true =
        rw a.seek (rw (a.action, a.state) at (session.correct n l)) in
        let f =
        guide.nearer plain (x_at n) (seek_at n) (reports n) a.state_low (seek_low n (omega arith)) a.kept
        (omega arith) end in
        omega (arith, f, e)

    -- the moment at which the goal sought is served: it was still the one sought when the desk came there
    record Reached (n : ℕ) : Type 0 where
      moment : ℕ
      later : n ≤ moment
      by : moment ≤ n + (desk n).advice.wait
      sought : sought_at desk moment ≡ seek_at n
      serves : wait_at b (x_at moment) (seek_at n) ≡ 0

    reaches : (w n : ℕ) → (desk n).advice.wait ≤ w → 0 < (desk n).advice.wait → n + (desk n).advice.wait ≤ m →
        Reached n
    unfolding sought_at
    reaches zero n lw pos l = absurd (omega arith)
    reaches (suc w) n lw pos l =
        ⊎_elim
        (λ z. record { moment = suc n; later = omega arith; by = omega arith; sought = refl; serves = z })
        (λ d. go (still n (omega arith) (omega arith)) (falls n (omega arith) pos) (omega arith) (reaches w (suc n)))
        (same_number (wait_at b (x_at (suc n)) (seek_at n)) 0)
      where
        go : seek_at (suc n) ≡ seek_at n → wait_at b (x_at (suc n)) (seek_at n) < (desk n).advice.wait →
            0 < wait_at b (x_at (suc n)) (seek_at n) →
            ((desk (suc n)).advice.wait ≤ w → 0 < (desk (suc n)).advice.wait →
            suc n + (desk (suc n)).advice.wait ≤ m → Reached (suc n)) → Reached n
        go same f more later =
            let e : (desk (suc n)).advice.wait ≡ wait_at b (x_at (suc n)) (seek_at n) =
            wait_is (suc n) (omega arith) ∙ ap (wait_at b (x_at (suc n))) same in
            let r = later (omega arith) (omega arith) (omega arith) in
            record {
              moment = r.moment;
              later = omega (arith, r.later);
              by = omega (arith, r.by);
              sought = r.sought ∙ same;
              serves = ap (wait_at b (x_at r.moment)) (sym same) ∙ r.serves;
            }

    in_time : (n : ℕ) → n + (desk n).advice.wait ≤ m → MetBy s desk (seek_at n) n (n + (desk n).advice.wait)
    in_time n l =
        ⊎_elim
        (λ z. (n, omega arith, omega arith, all_met n (seek_at n) (omega arith) (seek_low n (omega arith)) z))
        (λ d.
        let r = reaches (desk n).advice.wait n (omega arith) (omega arith) l in (
          r.moment,
          r.later,
          r.by,
          met r.moment (seek_at n) (omega (arith, r.by)) (seek_low n (omega arith)) r.serves,
        ))
        (same_number (desk n).advice.wait 0)

    -- a wait shown is at most 1,023
    short : (n : ℕ) → n ≤ m → (desk n).advice.wait ≤ 1023
    short n l =
        let a = always n l in
        rw (wait_is n l) (guide.short (x_at n) (seek_at n) a.state_low (seek_low n l) a.kept)

    -- the goal d places after the one sought is met within d + 1 longest waits
    abbrev Soon : ℕ → ℕ → Type 0
    Soon d n =
        (i : ℕ) → goal_after (book_goals b) (seek_at n) d ≡ i → d < book_goals b → n + suc d * 1023 ≤ m →
        MetBy s desk i n (n + suc d * 1023)

    -- from the moment at which the one sought is served, if it holds of goals that come sooner
    one_turn : (d n : ℕ) → ((e k : ℕ) → e < d → Soon e k) → Soon d n
    one_turn d n ih i e hd l =
        let low = arriving.in_range (book_goals b) (seek_at n) d (of_book (seek_low n (omega arith))) in
        let hi : i < p.goals = omega (arith, low, e, guide.goals) in
        ⊎_elim
        (λ z. (n, omega arith, omega arith, all_met n i (omega arith) hi z))
        (λ c.
        let w = short n (omega arith) in
        from i e hd l hi (reaches (desk n).advice.wait n (omega arith) (omega arith) (omega arith)))
        (same_number (desk n).advice.wait 0)
      where
        from : (i : ℕ) → goal_after (book_goals b) (seek_at n) d ≡ i → d < book_goals b → n + suc d * 1023 ≤ m →
            i < p.goals → Reached n → MetBy s desk i n (n + suc d * 1023)
        from i e hd l hi r =
            let w = short n (omega arith) in
            let k = r.moment in
            let low : k ≤ m = omega (arith, r.by) in
            let a = always k low in
            ⊎_elim
            (λ z. (k, r.later, omega (arith, r.by), met k i low hi z))
            (λ q.
            let there : goal_after (book_goals b) (seek_at k) q.0 ≡ i =
            rw (a.seek, r.sought) q.2 in
            let f = ih q.0 k q.1 i there (omega (arith, q.1)) (omega (arith, q.1, r.by)) in
            (f.0, omega (arith, f.1, r.later), omega (arith, f.2, q.1, r.by), f.3))
            (arriving.sooner b (x_at k) (seek_at n) i d (of_book (seek_low n (omega arith))) hd e r.serves)

    in_turn_lem : (top d n : ℕ) → d ≤ top → Soon d n
    in_turn_lem zero d n h = one_turn d n (λ e k l. absurd (omega arith))
    in_turn_lem (suc top) d n h = one_turn d n (λ e k l. in_turn_lem top e k (omega arith))

    each : (i n : ℕ) → i < p.goals → n + p.goals * 1023 ≤ m → MetBy s desk i n (n + p.goals * 1023)
    each i n hi l =
        let q = arriving.each (book_goals b) (seek_at n) i (of_book (seek_low n (omega arith))) (of_book hi) in
        let d = q.0 in
        let few : d < p.goals = omega (arith, q.1, guide.goals) in
        let f = in_turn_lem d d n (omega arith) i q.2 q.1 (omega (arith, few)) in
        (f.0, f.1, omega (arith, f.2, few), f.3)

    followed : Followed s b start reports desk m
    followed =
        record {
          answered = λ n l. let a = always n l in (a.number, a.lost);
          holds = λ n l. let a = always n l in (a.state, a.goal ∙ sym a.seek);
          goes_on = λ n l.
              let a = always n l in
              rw (a.state, a.action)
              (guide.goes_on (x_at n) (arrive b (x_at n) (sought_at desk n)) a.state_low
              (arrived (x_at n) (sought_at desk n) a.goal_low) a.kept);
          arrives = λ n l. let a = always n l in a.seek ∙ rw a.state refl;
          passed = λ n k l h.
              let a = always n l in
              let low = arriving.in_range p.goals (sought_at desk n) k a.goal_low in
              let over : k < passes b (x_at n) (sought_at desk n) = rw a.state at h in
              met n (goal_after p.goals (sought_at desk n) k) l low
              (rw guide.goals at (arriving.passed b (x_at n) (sought_at desk n) k over));
          in_time = in_time;
          onward = λ n l.
              ⊎_elim
              (λ z. inl (met (suc n) (seek_at n) (omega arith) (seek_low n (omega arith)) z))
              (λ d. inr (still n l (omega arith)))
              (same_number (wait_at b (x_at (suc n)) (seek_at n)) 0);
          all_served = λ n l. (
            λ z i hi. all_met n i l hi z,
            λ all. wait_is n l ∙ goal_served n (seek_at n) l (seek_low n l) (all (seek_at n) (seek_low n l)),
          );
          stays = λ n l z.
              let a = always n l in
              a.seek ∙
              arriving.stays b (x_at n) (sought_at desk n) (of_book a.goal_low)
              (λ j hj.
              arriving.all_served b (x_at n) (sought_at desk n) j (of_book a.goal_low) hj (sym a.wait ∙ z));
          each = each;
        }

pub following : Arriving → Steps → Following
following arriving steps =
    record {
      follows = λ s b written plain start reports desk m hx kept session.
          followed s b (steps.guides s b written) plain arriving start reports desk m hx kept session;
    }

-- what both calls of the desk cite, from what the calls of consult cite
pub of_desk : Arriving × (Steps × Determined) → Answering × Following
of_desk cited = (answering cited.1.0 cited.1.1, following cited.0 cited.1.0)
