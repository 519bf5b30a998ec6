-- Runs of a strategy: an opponent who answers every move makes one, and a larger set is easier to stay in. A run is
-- built turn by turn from the strategy's pick and the answer to it. Assumes nothing.
use mathlib.Core.Path.{◌≡◌, refl}
use mathlib.Core.Logic.{◌↔◌}
use mathlib.Core.Bool.{true}
use mathlib.Core.List.{List, [], ◌∷◌}
use Prim.Native.Nat.{ℕ, zero, suc}
use Rattle.statements.specs.Sets.{is_in}
use Rattle.statements.specs.Plants.{Plant, ends, available}
use Rattle.statements.specs.Strategies.{Turn, Strategy, PicksMove, Play, turns, Run}
use Rattle.statements.specs.Strategies.{HoldsBy, WinsBy, Wins, Forces}
use Rattle.statements.specs.Demands.{Meets}

-- a state reached at moment n, the turns that led there, and what is known of it
record Reached (p : Plant) (mask start : ℕ) (f : Strategy) (Inv : ℕ → Type 0) : Type 0 where
  past : List Turn
  state : ℕ
  play : Play p mask f start past state
  known : Inv state

-- a run against a strategy, with a fact of each state and one of each two states in turn
pub record Opposed (p : Plant) (mask start : ℕ) (f : Strategy) (Inv Step : ℕ → ℕ → Type 0) : Type 0 where
  pub states : ℕ → ℕ
  pub moves : ℕ → ℕ
  pub run : Run p mask f start states moves
  pub known : (n : ℕ) → Inv n (states n)
  pub step : (n : ℕ) → Step (states n) (states (suc n))

-- an answer to a move made in state x at moment n: an end of the move with the facts, if it is in the set
abbrev pub Answer : Plant → (ℕ → Type 0) → (ℕ → ℕ → Type 0) → (ℕ → ℕ → Type 0) → ℕ → ℕ → ℕ → Type 0
Answer p within Inv Step n x u =
    (y : ℕ) × (is_in y (ends p x u) ≡ true) × (within y → Inv (suc n) y × Step x y)

module _ (p : Plant) (mask : ℕ) (within : ℕ → Type 0) (start : ℕ) (f : Strategy) (Inv Step : ℕ → ℕ → Type 0)
    (h : HoldsBy p mask within start f) (begun : Inv 0 start)
    (answer : (n x u : ℕ) → within x → Inv n x → available p mask x u ≡ true → Answer p within Inv Step n x u) where
  -- the strategy's move in a state reached, and the opponent's answer to it
  pick : (n : ℕ) (q : Reached p mask start f (Inv n)) → PicksMove p mask f q.past q.state
  pick n q = h.never_stuck q.past q.state q.play

  reply : (n : ℕ) (q : Reached p mask start f (Inv n)) → Answer p within Inv Step n q.state (pick n q).0
  reply n q = answer n q.state (pick n q).0 (h.stays q.past q.state q.play) q.known (pick n q).2

  -- the turns after that, which make a play
  turned : (n : ℕ) → Reached p mask start f (Inv n) → List Turn
  turned n q = record { state = q.state; move = (pick n q).0 } ∷ q.past

  onward : (n : ℕ) (q : Reached p mask start f (Inv n)) → Play p mask f start (turned n q) (reply n q).0
  unfolding turned
  onward n q = (q.play, (pick n q).1, (pick n q).2, (reply n q).1)

  -- what is known of the answer
  facts : (n : ℕ) (q : Reached p mask start f (Inv n)) → Inv (suc n) (reply n q).0 × Step q.state (reply n q).0
  facts n q = (reply n q).2 (h.stays (turned n q) (reply n q).0 (onward n q))

  -- the state reached at each moment, and that its turns are those of the sequence
  reached : (n : ℕ) → Reached p mask start f (Inv n)
  reached zero = record { past = []; state = start; play = refl; known = begun }
  reached (suc n) =
      let q = reached n in
      record { past = turned n q; state = (reply n q).0; play = onward n q; known = (facts n q).0 }

  pasts : (n : ℕ) → turns (λ k. (reached k).state) (λ k. (pick k (reached k)).0) n ≡ (reached n).past
  unfolding reached turned turns
  pasts zero = refl
  pasts (suc n) = rw (pasts n)

  -- an opponent who answers every available move so that a fact stays true makes a run on which it is true
  pub opposed : Opposed p mask start f Inv Step
  unfolding reached
  opposed =
      record {
        states = λ n. (reached n).state;
        moves = λ n. (pick n (reached n)).0;
        run = λ n. rw (pasts n) (reached n).play;
        known = λ n. (reached n).known;
        step = λ n. (facts n (reached n)).1;
      }

module _ (p : Plant) (mask : ℕ) (within more : ℕ → Type 0) (larger : (y : ℕ) → within y → more y) (x : ℕ) where
  -- a strategy that holds within a set holds within a larger one
  pub holds_larger : (f : Strategy) → HoldsBy p mask within x f → HoldsBy p mask more x f
  holds_larger f h =
      record { never_stuck = h.never_stuck; stays = λ past y play. larger y (h.stays past y play) }

  -- a strategy that wins within a set wins within a larger one
  pub wins_by_larger : (f : Strategy) → WinsBy p mask within x f → WinsBy p mask more x f
  wins_by_larger f w = record { holds = holds_larger f w.holds; again = w.again; settles = w.settles }

  -- where a strategy wins within a set, one wins within a larger one
  pub wins_larger : Wins p mask within x → Wins p mask more x
  wins_larger w = (w.0, wins_by_larger w.0 w.1)

  -- where a strategy forces a property in time within a set, one forces a wider one within a larger set
  pub forces_larger : (good other : ℕ → Type 0) → ((y : ℕ) → good y → other y) → (n : ℕ) →
      Forces p mask within x good n → Forces p mask more x other n
  forces_larger good other wider n w = (
    w.0,
    record {
      holds = holds_larger w.0 w.1.holds;
      in_time = λ states moves r.
          let m = w.1.in_time states moves r in
          (m.0, m.1, wider (states m.0) m.2);
    },
  )

-- a move whose arrows end in states with a property ends in states with a wider one
pub meets_larger :
    (p : Plant) (mask x u : ℕ) (good other : ℕ → Type 0) → ((y : ℕ) → good y → other y) →
    Meets p mask x good u → Meets p mask x other u
meets_larger p mask x u good other larger h =
    record { is_available = h.is_available; ends_well = λ y m. larger y (h.ends_well y m) }

module _ (p : Plant) (mask : ℕ) (within other : ℕ → Type 0) (same : (y : ℕ) → within y ↔ other y) (x : ℕ) where
  -- a strategy forces a property in time within a set exactly when one forces the same within another set of the same
  -- states
  pub forces_same : (good as_good : ℕ → Type 0) → ((y : ℕ) → good y ↔ as_good y) → (n : ℕ) →
      Forces p mask within x good n ↔ Forces p mask other x as_good n
  forces_same good as_good alike n = (
    forces_larger p mask within other (λ y. (same y).0) x good as_good (λ y. (alike y).0) n,
    forces_larger p mask other within (λ y. (same y).1) x as_good good (λ y. (alike y).1) n,
  )

-- a state from which a strategy wins without leaving a set is in the set
pub wins_within : (p : Plant) (mask : ℕ) (within : ℕ → Type 0) (x : ℕ) → Wins p mask within x → within x
wins_within p mask within x w = w.1.holds.stays [] x refl
