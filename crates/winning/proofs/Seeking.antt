-- Goals sought along any sequence of states on which stages never rise, and in a stage the wait for the goal arrived at
-- falls: that goal stays until its wait is 0 or the stage is left, and then the next one arrived at comes nearer to every
-- other that is not served, so that each is met again and again. Where each state is settled or left for an earlier
-- stage, fewer are not settled than the first one's stage says. Assumes nothing.
use mathlib.Core.Path.{◌≡◌, sym, ap, ◌∙◌}
use mathlib.Core.Logic.{◌⊎◌, inl, inr, ⊎_elim}
use mathlib.Core.Bool.{true}
use mathlib.Core.List.{List}
use Prim.Native.Nat.{ℕ, zero, suc, ◌+◌, ◌≤◌, ◌<◌}
use native.Mathlib.Omega.{arith}
use native.Mathlib.Decide.{dec_lt, le_ind}
use Rattle.statements.specs.Plants.{Plant, in_goal, settled}
use Rattle.statements.specs.Books.{book_goals, wait_at, stage_at, goal_after, passes, arrive}
use Rattle.statements.specs.Strategies.{InGoal, Settles, unsettled, Leaves}
use Rattle.sets.proofs.Tests.{decided, not_both}
use Rattle.winning.proofs.Goals.{after_below, ahead, passes_served, arrive_below}
use Rattle.winning.proofs.Goals.{arrive_unserved, arrive_again, nears}

-- a moment, within as many as a number is at moment n, at which the number is 0 and something else still holds
pub record Over (number : ℕ → ℕ) (along : ℕ → Type 0) (n : ℕ) : Type 0 where
  pub moment : ℕ
  pub later : n ≤ moment
  pub soon : moment ≤ n + number n
  pub still : along moment
  pub over : number moment ≡ 0

-- or one before that, after which all this is left
pub record Gone (number : ℕ → ℕ) (left : ℕ → Type 0) (n : ℕ) : Type 0 where
  pub moment : ℕ
  pub later : n ≤ moment
  pub soon : moment < n + number n
  pub gone : left moment

-- there is one where the number falls as long as it is above 0, and the other goes on to hold, or all this is left
pub falls_to_0 :
    (number : ℕ → ℕ) (along left : ℕ → Type 0) →
    ((n : ℕ) → along n → 0 < number n → (along (suc n) × (number (suc n) < number n)) ⊎ left n) →
    (n : ℕ) → along n → Over number along n ⊎ Gone number left n
falls_to_0 number along left step n a = go (suc (number n)) n a (omega arith)
  where
    go : (k n : ℕ) → along n → number n < k → Over number along n ⊎ Gone number left n
    go zero n a h = absurd (omega arith)
    go (suc k) n a h =
        elim (dec_lt 0 (number n)) [
          | no l ↦ inl record { moment = n; later = omega arith; soon = omega arith; still = a; over = omega arith }
          | yes l ↦
              ⊎_elim
              (λ next. ⊎_elim
              (λ r. inl record {
                moment = r.moment;
                later = omega arith;
                soon = omega arith;
                still = r.still;
                over = r.over;
              })
              (λ r. inr record { moment = r.moment; later = omega arith; soon = omega arith; gone = r.gone })
              (go k (suc n) next.0 (omega arith)))
              (λ g. inr record { moment = n; later = omega arith; soon = omega arith; gone = g })
              (step n a l)
        ]

-- goals are sought along a sequence of states as a book says: the first is a goal, each next one is the one arrived at;
-- stages never rise; a wait of 0 is a goal met, or the stage is left; and above wait 0 the wait for the goal arrived at
-- is smaller at the next state, or the stage is left
pub record Seeks (p : Plant) (b : List ℕ) (states goals : ℕ → ℕ) : Type 0 where
  pub as_many : book_goals b ≡ p.goals
  pub begun : goals 0 < p.goals
  pub next : (n : ℕ) → goals (suc n) ≡ arrive b (states n) (goals n)
  pub down : (n : ℕ) → stage_at b (states (suc n)) ≤ stage_at b (states n)
  pub met : (n i : ℕ) → i < p.goals → wait_at b (states n) i ≡ 0 → InGoal p i (states n) ⊎ Leaves b states n n
  pub falls :
      (n : ℕ) →
      let i = arrive b (states n) (goals n) in
      i < p.goals → 0 < wait_at b (states n) i →
      (wait_at b (states (suc n)) i < wait_at b (states n) i) ⊎ Leaves b states n n

module _ {p : Plant} {b : List ℕ} {states goals : ℕ → ℕ} (s : Seeks p b states goals) where
  -- the goal arrived at
  abbrev Aim : ℕ → ℕ
  Aim n = arrive b (states n) (goals n)

  -- the goal sought is always a goal, and so is the one arrived at
  seeks_below : (n : ℕ) → goals n < book_goals b
  seeks_below zero = rw s.as_many s.begun
  seeks_below (suc n) = rw (s.next n) (arrive_below b (states n) (goals n) (seeks_below n))

  aim_below : (n : ℕ) → Aim n < book_goals b
  aim_below n = arrive_below b (states n) (goals n) (seeks_below n)

  aim_goal : (n : ℕ) → Aim n < p.goals
  aim_goal n = rw (← s.as_many) (aim_below n)

  no_later : (n m : ℕ) → n ≤ m → stage_at b (states m) ≤ stage_at b (states n)
  no_later n = le_ind (λ m. stage_at b (states m) ≤ stage_at b (states n)) (omega arith) (λ m h l. omega (arith, s.down m))

  -- it stays until its wait is 0, unless the stage is left: until then the goal arrived at is the one arrived at from it
  seeks_over :
      (n : ℕ) →
      Over (λ m. wait_at b (states m) (Aim n)) (λ m. (n ≤ m) × (Aim m ≡ arrive b (states m) (Aim n))) n
      ⊎ Gone (λ m. wait_at b (states m) (Aim n)) (Leaves b states n) n
  seeks_over n =
      falls_to_0 (λ m. wait_at b (states m) (Aim n)) (λ m. (n ≤ m) × (Aim m ≡ arrive b (states m) (Aim n)))
      (Leaves b states n)
      (λ m same l.
      let stays : Aim m ≡ Aim n = same.1 ∙ arrive_unserved b (states m) (Aim n) (aim_below n) l in
      ⊎_elim
      (λ w. inl ((omega (arith, same.0), ap (arrive b (states (suc m))) (s.next m ∙ stays)), rw stays at w))
      (λ g. inr (omega (arith, g, no_later n m same.0)))
      (s.falls m (aim_goal m) (rw stays l)))
      n (omega arith, sym (arrive_again b (states n) (goals n) (seeks_below n)))

  -- it is met within its wait, or the stage is left
  pub seeks_in_time :
      (n : ℕ) →
      let i = arrive b (states n) (goals n) in
      (m : ℕ) × (n ≤ m) × (m ≤ n + wait_at b (states n) i) × (InGoal p i (states m) ⊎ Leaves b states n m)
  seeks_in_time n =
      ⊎_elim
      (λ r. (
        r.moment,
        r.later,
        r.soon,
        ⊎_elim (λ g. inl g) (λ g. inr (omega (arith, g, no_later n r.moment r.later)))
            (s.met r.moment (Aim n) (aim_goal n) r.over),
      ))
      (λ r. (r.moment, r.later, omega arith, inr r.gone))
      (seeks_over n)

  -- the goals passed are met, or the stage is left
  pub seeks_passed :
      (n k : ℕ) → k < passes b (states n) (goals n) →
      InGoal p (goal_after p.goals (goals n) k) (states n) ⊎ Leaves b states n n
  seeks_passed n k h =
      let below = after_below (book_goals b) (goals n) k (seeks_below n) in
      ⊎_elim
      (λ g. inl (ap (λ (m : ℕ). in_goal p (goal_after m (goals n) k) (states n)) (sym s.as_many) ∙ g))
      (λ g. inr g)
      (s.met n (goal_after (book_goals b) (goals n) k) (rw (← s.as_many) below)
      (passes_served b (states n) (goals n) k h))

  -- every goal is met again and again: by stages, and in a stage by how far ahead in turn it is
  pub seeks_again : (i n : ℕ) → i < p.goals → (m : ℕ) × (n ≤ m) × InGoal p i (states m)
  seeks_again i n hi = by_stage (suc (stage_at b (states n))) n (omega arith)
    where
      Met : ℕ → Type 0
      Met n = (m : ℕ) × (n ≤ m) × InGoal p i (states m)

      sooner : (n m : ℕ) → n ≤ m → Met m → Met n
      sooner n m l r = (r.0, omega (arith, r.1), r.2)

      by_turn :
          (c : ℕ) → ((n : ℕ) → stage_at b (states n) < c → Met n) →
          (k n : ℕ) → stage_at b (states n) ≤ c → ahead (book_goals b) (Aim n) i < k → Met n
      by_turn c lower zero n l h = absurd (omega arith)
      by_turn c lower (suc k) n l h =
          ⊎_elim
          (λ r.
          let m = r.moment in
          let down = no_later n m r.later in
          elim (nears b (states m) (Aim n) (aim_below n) i (rw s.as_many hi) r.over) [
            | inl e ↦
                ⊎_elim (λ g. (m, r.later, g))
                (λ g. sooner n (suc m) (omega (arith, r.later)) (lower (suc m) (omega arith)))
                (s.met m i hi e)
            | inr a ↦
                sooner n m r.later (by_turn c lower k m (omega arith) (rw r.still.1 (omega arith)))
          ])
          (λ r. sooner n (suc r.moment) (omega (arith, r.later)) (lower (suc r.moment) (omega (arith, r.gone))))
          (seeks_over n)

      by_stage : (c n : ℕ) → stage_at b (states n) < c → Met n
      by_stage zero n h = absurd (omega arith)
      by_stage (suc c) n h =
          by_turn c (λ m l. by_stage c m l) (suc (ahead (book_goals b) (Aim n) i)) n (omega arith) (omega arith)

-- where each state is settled or left for an earlier stage, those that are not settled are few
pub few_unsettled :
    (p : Plant) (b : List ℕ) (states : ℕ → ℕ) →
    ((n : ℕ) → stage_at b (states (suc n)) ≤ stage_at b (states n)) →
    ((n : ℕ) → (settled p (states n) ≡ true) ⊎ Leaves b states n n) →
    (n : ℕ) → unsettled p states n + stage_at b (states n) ≤ stage_at b (states 0)
unfolding unsettled
few_unsettled p b states down calm zero = omega arith
few_unsettled p b states down calm (suc n) =
    let ih = few_unsettled p b states down calm n in
    ⊎_elim
    (λ e. rw e (omega (arith, down n, ih)))
    (λ e. rw e (⊎_elim (λ t. absurd (not_both t e)) (λ g. omega (arith, g, ih)) (calm n)))
    (decided (settled p (states n)))

-- and then it is settled from some moment on
pub few_settles : (p : Plant) (states : ℕ → ℕ) (c : ℕ) → ((n : ℕ) → unsettled p states n < c) → Settles p states
unfolding unsettled
few_settles p states c few deny = go c 0 (λ n. omega (arith, few n))
  where
    count_up : (n m : ℕ) → n ≤ m → unsettled p states n ≤ unsettled p states m
    count_up n = le_ind (λ m. unsettled p states n ≤ unsettled p states m) (omega arith) (λ m h l. omega arith)

    go : (c n : ℕ) → ((m : ℕ) → unsettled p states m < c + unsettled p states n) → ⊥
    go zero n h = omega (arith, h n)
    go (suc c) n h =
        deny (
          n,
          λ m l.
              ⊎_elim (λ e. e)
              (λ e. absurd (go c (suc m) (λ k. rw e (omega (arith, h k, count_up n m l)))))
              (decided (settled p (states m))),
        )
