-- Strategies over whole histories, their plays and runs, what it is to win and to force a goal in time, and following a
-- book or picking from it. A strategy is a history-dependent controller; which arrow is followed is the opponent's
-- choice.
use Rattle.std.specs.Prelude.{◌≡◌, ◌⊎◌, true, false, List, [], ◌∷◌, ℕ, zero, suc, ◌+◌, ◌≤◌, ◌<◌}
use Rattle.std.proofs.Math.Option.{Option, none, some}
use Rattle.statements.specs.Sets.{pick, bit, is_in}
use Rattle.statements.specs.Plants.{Plant, in_goal, settled, ends, available}
use Rattle.statements.specs.Books.{wait_at, move_at, stage_at, is_lost, goal_after, passes, arrive, good_moves}

-- a state that was passed and the move made there
pub record Turn : Type 0 where
  pub state : ℕ
  pub move : ℕ

-- a strategy picks a move, or none, from the turns so far, the last one first, and the present state
abbrev pub Strategy : Type 0
Strategy = List Turn → ℕ → Option ℕ

-- a strategy picks an available move after some turns in state x
abbrev pub PicksMove : Plant → ℕ → Strategy → List Turn → ℕ → Type 0
PicksMove p mask f past x = (u : ℕ) × (f past x ≡ some u) × (available p mask x u ≡ true)

-- following a strategy from a state can lead through these turns to state x: each move was the one picked, it was
-- available, and each state follows by one of its arrows
abbrev pub Play : Plant → ℕ → Strategy → ℕ → List Turn → ℕ → Type 0
Play p mask f start [] x = x ≡ start
Play p mask f start (t ∷ past) x =
    Play p mask f start past t.state × (f past t.state ≡ some t.move) ×
    (available p mask t.state t.move ≡ true) × (is_in x (ends p t.state t.move) ≡ true)

-- the first n turns of an endless sequence of states and moves, the last one first
unfoldable pub turns : (ℕ → ℕ) → (ℕ → ℕ) → ℕ → List Turn
turns states moves zero = []
turns states moves (suc n) = record { state = states n; move = moves n } ∷ turns states moves n

-- a run: an endless sequence all of whose beginnings are plays
abbrev pub Run : Plant → ℕ → Strategy → ℕ → (ℕ → ℕ) → (ℕ → ℕ) → Type 0
Run p mask f start states moves = (n : ℕ) → Play p mask f start (turns states moves n) (states n)

-- a strategy, followed from a state, never gets stuck and never leaves a set of states
pub record HoldsBy (p : Plant) (mask : ℕ) (within : ℕ → Type 0) (start : ℕ)
    (f : List Turn → ℕ → Option ℕ) : Type 0 where
  pub never_stuck : (past : List Turn) (x : ℕ) → Play p mask f start past x → PicksMove p mask f past x
  pub stays : (past : List Turn) (x : ℕ) → Play p mask f start past x → within x

-- a sequence of states is settled from some moment on: it cannot be that there is no such moment. (Which moment it is
-- cannot be told in general: whether a stage will be left is the opponent's choice)
abbrev pub Settles : Plant → (ℕ → ℕ) → Type 0
Settles p states = (((n : ℕ) × ((m : ℕ) → n ≤ m → settled p (states m) ≡ true)) → ⊥) → ⊥

-- it wins: besides, every run is in each goal again and again, and in a plant that settles is settled from some moment
-- on
pub record WinsBy (p : Plant) (mask : ℕ) (within : ℕ → Type 0) (start : ℕ)
    (f : List Turn → ℕ → Option ℕ) : Type 0 where
  pub holds : HoldsBy p mask within start f
  pub again : (states moves : ℕ → ℕ) → Run p mask f start states moves → (i n : ℕ) → i < p.goals →
      (m : ℕ) × (n ≤ m) × (in_goal p i (states m) ≡ true)
  pub settles : p.settles ≡ true → (states moves : ℕ → ℕ) → Run p mask f start states moves → Settles p states

-- some strategy wins from a state without leaving a set
abbrev pub Wins : Plant → ℕ → (ℕ → Type 0) → ℕ → Type 0
Wins p mask within start = (f : Strategy) × WinsBy p mask within start f

-- a sequence has come to a state with a property by moment n
abbrev pub Comes : (ℕ → Type 0) → (ℕ → ℕ) → ℕ → Type 0
Comes good states n = (m : ℕ) × (m ≤ n) × good (states m)

-- it forces a property within n moves: besides, every run has come to a state with it by moment n
pub record ForcesBy (p : Plant) (mask : ℕ) (within : ℕ → Type 0) (start : ℕ) (good : ℕ → Type 0) (n : ℕ)
    (f : List Turn → ℕ → Option ℕ) : Type 0 where
  pub holds : HoldsBy p mask within start f
  pub in_time : (states moves : ℕ → ℕ) → Run p mask f start states moves → Comes good states n

abbrev pub Forces : Plant → ℕ → (ℕ → Type 0) → ℕ → (ℕ → Type 0) → ℕ → Type 0
Forces p mask within start good n = (f : Strategy) × ForcesBy p mask within start good n f

-- a state is in goal i
abbrev pub InGoal : Plant → ℕ → ℕ → Type 0
InGoal p i x = in_goal p i x ≡ true

-- request (ix): it stays settled until it comes out, to a state with a property: besides, on every run each state is
-- settled, and each goal is met again and again, unless the run has come out by then
pub record StaysBy (p : Plant) (mask : ℕ) (within out : ℕ → Type 0) (start : ℕ)
    (f : List Turn → ℕ → Option ℕ) : Type 0 where
  pub holds : HoldsBy p mask within start f
  pub calm : (states moves : ℕ → ℕ) → Run p mask f start states moves → (n : ℕ) →
      (settled p (states n) ≡ true) ⊎ Comes out states n
  pub again : (states moves : ℕ → ℕ) → Run p mask f start states moves → (i n : ℕ) → i < p.goals →
      (m : ℕ) × (n ≤ m) × (InGoal p i (states m) ⊎ Comes out states m)

abbrev pub Stays : Plant → ℕ → (ℕ → Type 0) → (ℕ → Type 0) → ℕ → Type 0
Stays p mask within out start = (f : Strategy) × StaysBy p mask within out start f

-- how many of the first n states of a sequence are not settled
unfoldable pub unsettled : Plant → (ℕ → ℕ) → ℕ → ℕ
unsettled p states zero = 0
unsettled p states (suc n) = pick (settled p (states n)) 0 1 + unsettled p states n

-- following a book as consult answers: the goal sought after some turns, begun with a first goal, is the one arrived at
-- last; the move is that of the goal arrived at in the present state
unfoldable pub sought_after : List ℕ → ℕ → List Turn → ℕ
sought_after b goal [] = goal
sought_after b goal (t ∷ past) = arrive b t.state (sought_after b goal past)

unfoldable pub following : List ℕ → ℕ → List Turn → ℕ → Option ℕ
following b goal past x =
    elim (is_lost b x) [ true ↦ none | false ↦ some (move_at b x (arrive b x (sought_after b goal past))) ]

-- picking from a book: an endless sequence of states, goals sought and moves. Each move is any one that meets the rule
-- for its state and the goal arrived at there, for whatever reason it was picked; the next state is the end of one of
-- its arrows, and the next goal sought the one arrived at
pub record Picks (p : Plant) (b : List ℕ) (states goals moves : ℕ → ℕ) : Type 0 where
  pub good : (n : ℕ) → bit (moves n) (good_moves p b (states n) (arrive b (states n) (goals n))) ≡ true
  pub leads : (n : ℕ) → is_in (states (suc n)) (ends p (states n) (moves n)) ≡ true
  pub seeks : (n : ℕ) → goals (suc n) ≡ arrive b (states n) (goals n)

-- from moment n to the one after moment m it has come to an earlier stage
abbrev pub Leaves : List ℕ → (ℕ → ℕ) → ℕ → ℕ → Type 0
Leaves b states n m = stage_at b (states (suc m)) < stage_at b (states n)

-- such a sequence serves: all its states are kept in the book; at any moment the goals passed are met, and the goal
-- arrived at is met within the wait shown, unless an earlier stage is come to; and each goal is met again and again.
-- Stages never rise, and in a plant that settles fewer states are not settled than the first one's stage says
pub record Serves (p : Plant) (b : List ℕ) (states goals : ℕ → ℕ) : Type 0 where
  pub kept : (n : ℕ) → (states n < p.states) × (is_lost b (states n) ≡ false)
  pub passed : (n k : ℕ) → k < passes b (states n) (goals n) →
      InGoal p (goal_after p.goals (goals n) k) (states n) ⊎ Leaves b states n n
  pub in_time : (n : ℕ) →
      let i = arrive b (states n) (goals n) in
      (m : ℕ) × (n ≤ m) × (m ≤ n + wait_at b (states n) i) × (InGoal p i (states m) ⊎ Leaves b states n m)
  pub again : (i n : ℕ) → i < p.goals → (m : ℕ) × (n ≤ m) × InGoal p i (states m)
  pub no_later : (n : ℕ) → stage_at b (states (suc n)) ≤ stage_at b (states n)
  pub few : p.settles ≡ true → (n : ℕ) → unsettled p states n < stage_at b (states 0)
