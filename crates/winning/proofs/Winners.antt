-- No strategy wins from a state outside, where the states outside have ranks: the opponent answers every move by a
-- state outside of no higher rank, and of a lower one where the goal of that rank was met, as long as states are calm. A
-- winning strategy would come to calm states for good and meet the goal of the present rank again and again, so that the
-- rank fell for ever. Assumes nothing.
use mathlib.Core.Path.{◌≡◌}
use mathlib.Core.Logic.{⊎_elim}
use mathlib.Core.Bool.{true}
use Prim.Native.Nat.{ℕ, zero, suc, ◌+◌, ◌-◌, ◌≤◌, ◌<◌}
use native.Mathlib.Omega.{arith}
use native.Mathlib.Decide.{dec_lt, le_ind}
use Rattle.statements.specs.Sets.{is_in}
use Rattle.statements.specs.Plants.{Plant, in_goal, ends, available}
use Rattle.statements.specs.Strategies.{Strategy, turns, Run, HoldsBy}
use Rattle.sets.proofs.Tests.{same_number}
use Rattle.winning.proofs.Runs.{Opposed, opposed}

-- the opponent escapes: each move from a state that is surely left to it has an end that leaves the set or, if the state
-- is outside, is outside too; while the states are calm that has a rank no higher, and lower where the goal of the rank
-- is met
pub record Escapes (p : Plant) (mask : ℕ) (within out sure calm : ℕ → Type 0) (rank goal : ℕ → ℕ) : Type 0 where
  pub goal_below : (x : ℕ) → out x → calm x → goal (rank x) < p.goals
  pub escape :
      (x u : ℕ) → within x → available p mask x u ≡ true →
      (y : ℕ) × (is_in y (ends p x u) ≡ true) ×
      (within y → out x → sure x → out y ×
      (calm x → calm y → (rank y ≤ rank x) × (in_goal p (goal (rank x)) x ≡ true → rank y < rank x)))

-- a sequence that never rises and falls again and again from every value is impossible
pub sinks :
    (μ : ℕ → ℕ) → ((n : ℕ) → μ (suc n) ≤ μ n) →
    ((n : ℕ) → (m : ℕ) × (n ≤ m) × (μ m ≡ μ n → μ (suc m) < μ m)) → ⊥
sinks μ down again = go (suc (μ 0)) 0 (omega arith)
  where
    below : (n m : ℕ) → n ≤ m → μ m ≤ μ n
    below n = le_ind (λ m. μ m ≤ μ n) (omega arith) (λ m h l. omega (arith, down m))

    go : (k n : ℕ) → μ n < k → ⊥
    go zero n h = omega arith
    go (suc k) n h =
        let r = again n in
        let b = below n r.0 r.1 in
        elim (dec_lt (μ r.0) (μ n)) [
          | yes l ↦ go k r.0 (omega arith)
          | no l ↦ go k (suc r.0) (omega (arith, r.2 (omega arith)))
        ]

-- the answers along a run
abbrev Answered : Plant → (ℕ → Type 0) → (ℕ → Type 0) → (ℕ → Type 0) → (ℕ → ℕ) → (ℕ → ℕ) → ℕ → ℕ → Type 0
Answered p out sure calm rank goal x y =
    out x → sure x → out y ×
    (calm x → calm y → (rank y ≤ rank x) × (in_goal p (goal (rank x)) x ≡ true → rank y < rank x))

-- a sequence comes to calm states for good, and meets each goal again and again
pub record Lasts (p : Plant) (calm : ℕ → Type 0) (states : ℕ → ℕ) : Type 0 where
  pub calms : (((n : ℕ) × ((m : ℕ) → n ≤ m → calm (states m))) → ⊥) → ⊥
  pub again : (i n : ℕ) → i < p.goals → (m : ℕ) × (n ≤ m) × (in_goal p i (states m) ≡ true)

module _ {p : Plant} {mask : ℕ} {within out sure calm : ℕ → Type 0} {rank goal : ℕ → ℕ}
    (e : Escapes p mask within out sure calm rank goal) (x : ℕ) (o : out x) (f : Strategy) (h : HoldsBy p mask within x f)
    (surely : (states moves : ℕ → ℕ) → Run p mask f x states moves → (n : ℕ) →
    ((m : ℕ) → m ≤ n → out (states m)) → sure (states n)) where
  abbrev Against : Type 0
  Against = Opposed p mask x f (λ n y. Unit {0}) (Answered p out sure calm rank goal)

  -- the run of an opponent who escapes stays outside
  stays_out : (r : Against) (n m : ℕ) → m ≤ n → out (r.states m)
  unfolding turns
  stays_out r zero m l = let q : m ≡ 0 = omega arith in rw (q, r.run 0) o
  stays_out r (suc n) m l =
      ⊎_elim
      (λ q. rw q (r.step n (stays_out r n n (omega arith))
      (surely r.states r.moves r.run n (stays_out r n))).0)
      (λ d. stays_out r n m (omega arith))
      (same_number m (suc n))

  -- and does not last
  lost_run : (r : Against) → Lasts p calm r.states → ⊥
  lost_run r l = l.calms from
    where
      sinking : (n : ℕ) → calm (r.states n) → calm (r.states (suc n)) →
          (rank (r.states (suc n)) ≤ rank (r.states n)) ×
          (in_goal p (goal (rank (r.states n))) (r.states n) ≡ true → rank (r.states (suc n)) < rank (r.states n))
      sinking n =
          (r.step n (stays_out r n n (omega arith)) (surely r.states r.moves r.run n (stays_out r n))).1

      from : (n : ℕ) × ((m : ℕ) → n ≤ m → calm (r.states m)) → ⊥
      from (b, still) =
          sinks (λ n. rank (r.states (b + n)))
          (λ n. rw (let q : b + suc n ≡ suc (b + n) = omega arith in q)
          (sinking (b + n) (still (b + n) (omega arith)) (still (suc (b + n)) (omega arith))).0)
          (λ n.
          let i = goal (rank (r.states (b + n))) in
          let below =
          e.goal_below (r.states (b + n)) (stays_out r (b + n) (b + n) (omega arith)) (still (b + n) (omega arith)) in
          let m = l.again i (b + n) below in
          let q : b + (m.0 - b) ≡ m.0 = omega arith in
          let q' : b + suc (m.0 - b) ≡ suc m.0 = omega arith in (
            m.0 - b,
            omega arith,
            rw (q, q')
                (λ same. (sinking m.0 (still m.0 (omega arith)) (still (suc m.0) (omega arith))).1 (rw same m.2)),
          ))

  -- no strategy that holds within the set, and whose runs outside last, begins outside
  pub no_run :
      ((states moves : ℕ → ℕ) → Run p mask f x states moves → ((n : ℕ) → out (states n)) → Lasts p calm states) → ⊥
  no_run lasts =
      let r = opposed p mask within x f (λ n y. Unit {0}) (Answered p out sure calm rank goal) h tt
      (λ n y u k q a. let r = e.escape y u k a in (r.0, r.1, λ z. (tt, r.2 z))) in
      lost_run r (lasts r.states r.moves r.run (λ n. stays_out r n n (omega arith)))
