-- Taking moves straight from the calls: consult, and the call for all good moves, asked at one state after another, each
-- by its own contract, and what that comes to, after some steps and for ever.
use Rattle.std.specs.Prelude.{◌≡◌, ◌⊎◌, true, false, List, ℕ, zero, suc, ◌+◌, ◌≤◌, ◌<◌, take}
use Rattle.promises.specs.Answers.{Advice}
use Rattle.promises.specs.Answers.{Answer}
use Rattle.promises.specs.Answers.{Mask}
use Rattle.statements.specs.Sets.{bit, lowest, is_in}
use Rattle.statements.specs.Plants.{plant_of, ends, available}
use Rattle.statements.specs.Books.{book_mask, stage_at, is_lost, goal_after, passes}
use Rattle.statements.specs.Strategies.{InGoal, unsettled, Leaves}
use Rattle.promises.specs.Says.{ConsultSays, MovesSays, WithdrawSays, WithdrawListSays, ReturnSays}
use Rattle.promises.specs.Says.{MakeIndexedSays, WithdrawIndexedSays}
use Rattle.promises.specs.Traces.{Begun, book_after}

-- the move u taken by a book b in the plant with the bytes s, in state x, seeking goal i: the one that consult answered,
-- or any of the mask that the call for all good moves answers
abbrev pub Taken : List ℕ → List ℕ → ℕ → ℕ → Advice → ℕ → Type 0
Taken s b x i r u = (u ≡ r.action) ⊎ ((m : Mask) × MovesSays s b x i m × (bit u m.mask ≡ true))

-- a walk of n steps from state x, seeking goal i, to state y, seeking goal j: consult is asked for the state and the
-- goal sought, a move is taken, the next state is the end of one of its arrows, and the next goal sought is the one
-- answered
abbrev pub WalksTo : List ℕ → List ℕ → ℕ → ℕ → ℕ → ℕ → ℕ → Type 0
WalksTo s b zero x i y j = (y ≡ x) × (j ≡ i)
WalksTo s b (suc n) x i y j =
    (r : Advice) × (u : ℕ) × (z : ℕ) × ConsultSays b x i r × Taken s b x i r u ×
    (is_in z (ends (plant_of s) x u) ≡ true) × WalksTo s b n z r.seek y j

-- what the calls answer where it has come to: consult is not refused and does not say lost, the move that it answers is
-- available, and the mask of all good moves, which is not refused either, is not 0
pub record Answered (s b : List ℕ) (x i : ℕ) : Type 0 where
  pub state : x < (plant_of s).states
  pub goal : i < (plant_of s).goals
  pub advised : {r : Advice} → ConsultSays b x i r →
      (r.number ≡ 0) × (r.lost ≡ false) × (available (plant_of s) (book_mask b) x r.action ≡ true)
  pub masked : {m : Mask} → MovesSays s b x i m → (m.number ≡ 0) × (m.mask ≡ 0 → ⊥)

-- a walk without end (a run of the closed loop)
pub record Walk (s b : List ℕ) (states goals moves : ℕ → ℕ) (advice : ℕ → Advice) : Type 0 where
  pub consulted : (n : ℕ) → ConsultSays b (states n) (goals n) (advice n)
  pub taken : (n : ℕ) → Taken s b (states n) (goals n) (advice n) (moves n)
  pub leads : (n : ℕ) → is_in (states (suc n)) (ends (plant_of s) (states n) (moves n)) ≡ true
  pub seeks : (n : ℕ) → goals (suc n) ≡ (advice n).seek

-- what it comes to
pub record Walked (s b : List ℕ) (states goals : ℕ → ℕ) (advice : ℕ → Advice) : Type 0 where
  -- consult is never refused, and no state is lost
  pub answered : (n : ℕ) → ((advice n).number ≡ 0) × ((advice n).lost ≡ false)
  -- the move that it answers is available, so that a walk can always go on
  pub goes_on : (n : ℕ) → available (plant_of s) (book_mask b) (states n) (advice n).action ≡ true
  -- nor is the call for all good moves refused, and the move that consult answers is the lowest of its mask
  pub masked : (n : ℕ) (m : Mask) → MovesSays s b (states n) (goals n) m →
      (m.number ≡ 0) × ((advice n).action ≡ lowest (plant_of s).moves m.mask)
  -- the goals passed are met there and then, unless an earlier stage comes next
  pub passed : (n k : ℕ) → k < passes b (states n) (goals n) →
      InGoal (plant_of s) (goal_after (plant_of s).goals (goals n) k) (states n) ⊎ Leaves b states n n
  -- the goal answered is met within the wait answered, unless an earlier stage comes next by then
  pub in_time : (n : ℕ) →
      (m : ℕ) × (n ≤ m) × (m ≤ n + (advice n).wait) ×
      (InGoal (plant_of s) (advice n).seek (states m) ⊎ Leaves b states n m)
  -- each goal is met again and again
  pub again : (i n : ℕ) → i < (plant_of s).goals → (m : ℕ) × (n ≤ m) × InGoal (plant_of s) i (states m)
  -- in a book without stages there is no earlier one
  pub one_stage : (plant_of s).settles ≡ false → (n m : ℕ) → Leaves b states n m → ⊥
  -- in one with stages these never rise, and fewer states are not settled than the first one's stage says
  pub no_later : (n : ℕ) → stage_at b (states (suc n)) ≤ stage_at b (states n)
  pub few : (plant_of s).settles ≡ true → (n : ℕ) → unsettled (plant_of s) states n < stage_at b (states 0)

-- from any state that the book keeps and any first goal
pub record Walking (s b : List ℕ) : Type 0 where
  -- after any number of steps the walk can go on
  pub after : (n x i y j : ℕ) → x < (plant_of s).states → is_lost b x ≡ false → i < (plant_of s).goals →
      WalksTo s b n x i y j → Answered s b y j
  -- and what it comes to for ever
  pub for_ever : (states goals moves : ℕ → ℕ) (advice : ℕ → Advice) → states 0 < (plant_of s).states →
      is_lost b (states 0) ≡ false → goals 0 < (plant_of s).goals → Walk s b states goals moves advice →
      Walked s b states goals advice

pub record Walks : Type 0 where
  -- by the standing book after an accepted make and any list of calls
  pub standing : (s : List ℕ) (t : Begun s) → Walking s (book_after s t)
  -- by the book of an accepted withdrawal, or of a list of them, from any book, also one that nobody made, or of an
  -- accepted return to one
  pub withdrawn : {s b o o' d d' : List ℕ} {gone : ℕ} {r : Answer} → WithdrawSays s b gone o o' d d' r →
      r.number ≡ 0 → Walking s (take r.length o')
  pub withdrawn_list_lem : {s b masks o o' d d' : List ℕ} {r : Answer} → WithdrawListSays s b masks o o' d d' r →
      r.number ≡ 0 → Walking s (take r.length o')
  pub returned : {s b o o' d d' : List ℕ} {back : ℕ} {r : Answer} → ReturnSays s b back o o' d d' r →
      r.number ≡ 0 → Walking s (take r.length o')
  -- by the book of an accepted make or withdrawal by an index
  pub made_by : {s index o o' : List ℕ} {mask : ℕ} {r : Answer} → MakeIndexedSays s index mask o o' r →
      r.number ≡ 0 → Walking s (take r.length o')
  pub withdrawn_by : {s index b o o' d d' : List ℕ} {gone : ℕ} {r : Answer} →
      WithdrawIndexedSays s index b gone o o' d d' r → r.number ≡ 0 → Walking s (take r.length o')
  -- in any book, consult and the call for all good moves answer the same once more for the goal that consult answered
  pub same_advice : {b : List ℕ} {x i : ℕ} {r r' : Advice} → ConsultSays b x i r → r.number ≡ 0 → r.lost ≡ false →
      ConsultSays b x r.seek r' → r' ≡ r
  pub same_mask : {s b : List ℕ} {x i : ℕ} {r : Advice} {m m' : Mask} → ConsultSays b x i r → r.number ≡ 0 →
      r.lost ≡ false → MovesSays s b x i m → MovesSays s b x r.seek m' → m' ≡ m
