-- Following a book whose moves stay in a set, never lead to a later stage and bring the goal picked for nearer, or lead
-- to an earlier stage, wins without leaving the set; picking for one goal alone forces, through no later stage, that goal
-- or the way into an earlier stage within its wait: its runs seek the goals as the book says. Assumes nothing.
use mathlib.Core.Path.{◌≡◌, refl, ap}
use mathlib.Core.Logic.{◌⊎◌, inl, inr, ⊎_elim}
use mathlib.Core.Bool.{true, false}
use mathlib.Core.List.{List, [], ◌∷◌}
use mathlib.Core.Option.{some}
use Prim.Native.Nat.{ℕ, zero, suc, ◌≤◌, ◌<◌}
use native.Mathlib.Omega.{arith}
use native.Mathlib.Decide.{dec_lt}
use Rattle.statements.specs.Sets.{is_in}
use Rattle.statements.specs.Plants.{Plant, settled, ends}
use Rattle.statements.specs.Books.{book_goals, wait_at, move_at, stage_at, is_lost, arrive}
use Rattle.statements.specs.Strategies.{Turn, Strategy, PicksMove, Play, turns, Run, HoldsBy, WinsBy, Forces, InGoal}
use Rattle.statements.specs.Strategies.{unsettled, sought_after, following}
use Rattle.statements.specs.Demands.{Meets}
use Rattle.winning.proofs.Goals.{arrive_below}
use Rattle.winning.proofs.Seeking.{falls_to_0, Seeks, seeks_again, few_unsettled, few_settles}

-- where a move of the entry of x and goal i may end: in a state of a set and no later stage; where x leaves its stage in
-- an earlier one; above wait 0 in an earlier one or with a smaller wait
pub record Closer (kept leaves : ℕ → Type 0) (b : List ℕ) (x i y : ℕ) : Type 0 where
  pub stays : kept y
  pub no_later : stage_at b y ≤ stage_at b x
  pub leaving : leaves x → stage_at b y < stage_at b x
  pub nearing : 0 < wait_at b x i → (wait_at b y i < wait_at b x i) ⊎ (stage_at b y < stage_at b x)

-- a strategy steers within a set by a book: in each state of the set it picks an available move for some goal, told from
-- the turns so far and the present state, whose arrows end where the entry says
pub record Steers (p : Plant) (mask : ℕ) (kept leaves : ℕ → Type 0) (b : List ℕ) (f : Strategy)
    (aim : List Turn → ℕ → ℕ) : Type 0 where
  pub picks : (past : List Turn) (x : ℕ) → kept x → PicksMove p mask f past x
  pub into :
      (past : List Turn) (x u y : ℕ) → kept x → f past x ≡ some u → is_in y (ends p x u) ≡ true →
      Closer kept leaves b x (aim past x) y

module _ {p : Plant} {mask : ℕ} {kept leaves : ℕ → Type 0} {b : List ℕ} {f : Strategy} {aim : List Turn → ℕ → ℕ}
    (s : Steers p mask kept leaves b f aim) (start : ℕ) (begun : kept start) where
  -- no play leaves the set
  in_set : (past : List Turn) (y : ℕ) → Play p mask f start past y → kept y
  in_set [] y e = rw e begun
  in_set (t ∷ past) y h = (s.into past t.state t.move y (in_set past t.state h.0) h.1 h.3).stays

  -- a strategy that steers never gets stuck and never leaves the set
  pub steers_holds : HoldsBy p mask kept start f
  steers_holds = record { never_stuck = λ past x h. s.picks past x (in_set past x h); stays = in_set }

  -- at each moment of its runs the state is in the set, and leads on to the next
  pub steers_nears :
      (states moves : ℕ → ℕ) → Run p mask f start states moves → (n : ℕ) →
      kept (states n) × Closer kept leaves b (states n) (aim (turns states moves n) (states n)) (states (suc n))
  unfolding turns
  steers_nears states moves r n =
      let past = turns states moves n in
      let k = in_set past (states n) (r n) in
      (k, s.into past (states n) (moves n) (states (suc n)) k (r (suc n)).1 (r (suc n)).3)

-- a book guides within a set: it shows the states of the set, waits of 0 are goals met where the stage is not left, its
-- moves are available and lead on, stages are counted from 1, and where the plant settles a state that is not settled
-- leaves its stage
pub record Guides (p : Plant) (mask : ℕ) (kept leaves : ℕ → Type 0) (b : List ℕ) : Type 0 where
  pub goals : book_goals b ≡ p.goals
  pub shown : (x : ℕ) → kept x → is_lost b x ≡ false
  pub met : (x i : ℕ) → kept x → i < p.goals → wait_at b x i ≡ 0 → InGoal p i x ⊎ leaves x
  pub rule : (x i : ℕ) → kept x → i < p.goals → Meets p mask x (Closer kept leaves b x i) (move_at b x i)
  pub from_one : (x : ℕ) → kept x → 0 < stage_at b x
  pub calm : p.settles ≡ true → (x : ℕ) → kept x → (settled p x ≡ true) ⊎ leaves x

-- it guides within the states of no later stage than a number
guides_below :
    {p : Plant} {mask : ℕ} {kept leaves : ℕ → Type 0} {b : List ℕ} (c : ℕ) → Guides p mask kept leaves b →
    Guides p mask (λ y. kept y × (stage_at b y ≤ c)) leaves b
guides_below c g =
    record {
      goals = g.goals;
      shown = λ x k. g.shown x k.0;
      met = λ x i k. g.met x i k.0;
      rule = λ x i k hi.
          let r = g.rule x i k.0 hi in
          record {
            is_available = r.is_available;
            ends_well = λ y m.
                let q = r.ends_well y m in
                record {
                  stays = (q.stays, omega (arith, q.no_later, k.1));
                  no_later = q.no_later;
                  leaving = q.leaving;
                  nearing = q.nearing;
                };
          };
      from_one = λ x k. g.from_one x k.0;
      calm = λ e x k. g.calm e x k.0;
    }

module _ {p : Plant} {mask : ℕ} {kept leaves : ℕ → Type 0} {b : List ℕ} (g : Guides p mask kept leaves b) where
  -- a strategy that picks the moves of a book that guides steers
  pub book_steers :
      (f : Strategy) (aim : List Turn → ℕ → ℕ) → ((past : List Turn) (x : ℕ) → aim past x < p.goals) →
      ((past : List Turn) (x : ℕ) → kept x → f past x ≡ some (move_at b x (aim past x))) →
      Steers p mask kept leaves b f aim
  book_steers f aim below listed =
      record {
        picks = λ past x k.
            let i = aim past x in
            (move_at b x i, listed past x k, (g.rule x i k (below past x)).is_available);
        into = λ past x u y k e h.
            let same : move_at b x (aim past x) ≡ u = cc (listed past x k) in
            (g.rule x (aim past x) k (below past x)).ends_well y (rw same h);
      }

  -- picking for one goal alone steers
  for_goal : (i : ℕ) → i < p.goals → Steers p mask kept leaves b (λ past x. some (move_at b x i)) (λ past x. i)
  for_goal i h = book_steers (λ past x. some (move_at b x i)) (λ past x. i) (λ past x. h) (λ past x k. refl)

-- what a wait is for: the goal, an earlier stage, or a state of the same stage that is left for one
abbrev pub Target : Plant → (ℕ → Type 0) → (ℕ → Type 0) → List ℕ → ℕ → ℕ → ℕ → Type 0
Target p kept leaves b x i y =
    InGoal p i y ⊎ ((kept y × (stage_at b y < stage_at b x)) ⊎ (kept y × (stage_at b y ≡ stage_at b x) × leaves y))

module _ {p : Plant} {mask : ℕ} {kept leaves : ℕ → Type 0} {b : List ℕ} (g : Guides p mask kept leaves b) where
  -- this is then forced, through no later stage, within the wait, and so within any longer time
  pub forces :
      (x i n : ℕ) → kept x → i < p.goals → wait_at b x i ≤ n →
      Forces p mask (λ y. kept y × (stage_at b y ≤ stage_at b x)) x (Target p kept leaves b x i) n
  unfolding turns
  forces x i n k h l =
      let c = stage_at b x in
      let steers = for_goal (guides_below c g) i h in
      let here : kept x × (stage_at b x ≤ c) = (k, omega arith) in (
        λ past y. some (move_at b y i),
        record {
          holds = steers_holds steers x here;
          in_time = λ states moves r.
              let begun : wait_at b (states 0) i ≡ wait_at b x i = ap (λ y. wait_at b y i) (r 0) in
              let near = steers_nears steers x here states moves r in
              ⊎_elim
              (λ met. (
                met.moment,
                omega arith,
                ⊎_elim (λ t. inl t) (λ t. inr (inr ((near met.moment).0.0, met.still, t)))
                    (g.met (states met.moment) i (near met.moment).0.0 h met.over),
              ))
              (λ met. (suc met.moment, omega arith, inr (inl ((near (suc met.moment)).0.0, met.gone))))
              (falls_to_0 (λ m. wait_at b (states m) i) (λ m. stage_at b (states m) ≡ c)
              (λ m. stage_at b (states (suc m)) < c)
              (λ m same w.
              elim (dec_lt (stage_at b (states (suc m))) c) [
                | yes low ↦ inr low
                | no low ↦
                    let q = (near m).1 in
                    ⊎_elim (λ d. inl (omega (arith, q.no_later, same, low), d)) (λ d. inr (omega (arith, d, same)))
                    (q.nearing w)
              ])
              0 (ap (stage_at b) (r 0)));
        },
      )

  module _ (x goal : ℕ) (k : kept x) (h : goal < p.goals) where
    -- the goal sought is always a goal
    sought_below : (past : List Turn) → sought_after b goal past < book_goals b
    unfolding sought_after
    sought_below [] = rw g.goals h
    sought_below (t ∷ past) = arrive_below b t.state (sought_after b goal past) (sought_below past)

    -- following the book steers by the goal arrived at
    for_sought : Steers p mask kept leaves b (following b goal) (λ past y. arrive b y (sought_after b goal past))
    unfolding following
    for_sought =
        book_steers g (following b goal) (λ past y. arrive b y (sought_after b goal past))
        (λ past y. rw (← g.goals) (arrive_below b y (sought_after b goal past) (sought_below past)))
        (λ past y c. rw (g.shown y c, following))

    -- each of its runs seeks the goals as the book says
    run_seeks :
        (states moves : ℕ → ℕ) → Run p mask (following b goal) x states moves →
        Seeks p b states (λ n. sought_after b goal (turns states moves n))
    unfolding turns sought_after
    run_seeks states moves r =
        let near = steers_nears for_sought x k states moves r in
        record {
          as_many = g.goals;
          begun = h;
          next = λ n. refl;
          down = λ n. (near n).1.no_later;
          met = λ n i hi e.
              ⊎_elim (λ t. inl t) (λ t. inr ((near n).1.leaving t)) (g.met (states n) i (near n).0 hi e);
          falls = λ n hn. (near n).1.nearing;
        }

    -- and goes through states of the set of no later stage than the first
    pub run_kept :
        (states moves : ℕ → ℕ) → Run p mask (following b goal) x states moves → (n : ℕ) →
        kept (states n) × (stage_at b (states n) ≤ stage_at b x)
    unfolding turns
    run_kept states moves r zero =
        ((steers_nears for_sought x k states moves r 0).0, omega (arith, ap (stage_at b) (r 0)))
    run_kept states moves r (suc n) =
        let near = steers_nears for_sought x k states moves r in
        ((near (suc n)).0, omega (arith, (near n).1.no_later, (run_kept states moves r n).1))

    -- and has fewer states that are not settled than the first one's stage says
    pub run_few :
        p.settles ≡ true → (states moves : ℕ → ℕ) → Run p mask (following b goal) x states moves → (n : ℕ) →
        unsettled p states n < stage_at b x
    unfolding turns
    run_few e states moves r n =
        let near = steers_nears for_sought x k states moves r in
        let few =
        few_unsettled p b states (λ m. (near m).1.no_later)
        (λ m. ⊎_elim (λ t. inl t) (λ t. inr ((near m).1.leaving t)) (g.calm e (states m) (near m).0)) n in
        let first : stage_at b (states 0) ≡ stage_at b x = ap (stage_at b) (r 0) in
        omega (arith, few, first, g.from_one (states n) (near n).0)

    -- following the book from any state of the set and any first goal wins within the set
    pub follows : WinsBy p mask kept x (following b goal)
    follows =
        record {
          holds = steers_holds for_sought x k;
          again = λ states moves r. seeks_again (run_seeks states moves r);
          settles = λ e states moves r. few_settles p states (stage_at b x) (run_few e states moves r);
        }
