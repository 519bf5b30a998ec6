-- Request (xii): the desk follows the book, over any length of correct reports. For plants without settling, and books
-- that the calls wrote for them.
use Rattle.std.specs.Prelude.{◌≡◌, ◌↔◌, ◌⊎◌, true, false, List, ℕ, zero, suc, ◌+◌, ◌*◌, ◌≤◌, ◌<◌}
use Rattle.statements.specs.Sets.{is_in}
use Rattle.statements.specs.Plants.{plant_of, ends, available}
use Rattle.statements.specs.Books.{book_mask, is_lost, goal_after, passes, arrive}
use Rattle.statements.specs.Strategies.{InGoal}
use Rattle.promises.specs.Steps.{WrittenFor}
use Rattle.desk.specs.Desk.{Desk}
use Rattle.desk.specs.Desk.{StartSays, ReportSays}

-- a start and m reports, plant and book unchanged: each report is handed what the desk held, and is correct: it is the
-- end of an arrow of the move shown
pub record Session (s b : List ℕ) (start : ℕ) (reports : ℕ → ℕ) (desk : ℕ → Desk) (m : ℕ) : Type 0 where
  pub starts : StartSays s b start (desk 0)
  pub goes : (n : ℕ) → n < m → ReportSays s b (desk n).state (desk n).goal (reports n) (desk (suc n))
  pub correct : (n : ℕ) → n < m →
      is_in (reports n) (ends (plant_of s) (desk n).state (desk n).advice.action) ≡ true

-- where the desk is after n reports
unfoldable pub state_at : ℕ → (ℕ → ℕ) → ℕ → ℕ
state_at start reports zero = start
state_at start reports (suc n) = reports n

-- the goal sought when it comes there: at the start goal 0, then the one shown before
unfoldable pub sought_at : (ℕ → Desk) → ℕ → ℕ
sought_at desk zero = 0
sought_at desk (suc n) = (desk n).advice.seek

-- goal i is met by one of the states from the n-th to the last-th, both included
abbrev pub MetBy : List ℕ → (ℕ → Desk) → ℕ → ℕ → ℕ → Type 0
MetBy s desk i n last = (k : ℕ) × (n ≤ k) × (k ≤ last) × InGoal (plant_of s) i (desk k).state

-- what a session comes to
pub record Followed (s b : List ℕ) (start : ℕ) (reports : ℕ → ℕ) (desk : ℕ → Desk) (m : ℕ) : Type 0 where
  -- no call is refused, no state is lost, and the desk holds the state reported and the goal shown
  pub answered : (n : ℕ) → n ≤ m → ((desk n).advice.number ≡ 0) × ((desk n).advice.lost ≡ false)
  pub holds : (n : ℕ) → n ≤ m →
      ((desk n).state ≡ state_at start reports n) × ((desk n).goal ≡ (desk n).advice.seek)
  -- the move shown is available, so that the session can always go on
  pub goes_on : (n : ℕ) → n ≤ m →
      available (plant_of s) (book_mask b) (desk n).state (desk n).advice.action ≡ true
  -- the goal shown is the one arrived at from the one sought, and the goals passed over are met there
  pub arrives : (n : ℕ) → n ≤ m → (desk n).advice.seek ≡ arrive b (desk n).state (sought_at desk n)
  pub passed : (n k : ℕ) → n ≤ m → k < passes b (desk n).state (sought_at desk n) →
      InGoal (plant_of s) (goal_after (plant_of s).goals (sought_at desk n) k) (desk n).state
  -- the goal sought is met within the wait shown, when it became the one sought and at every later moment
  pub in_time : (n : ℕ) → n + (desk n).advice.wait ≤ m →
      MetBy s desk (desk n).advice.seek n (n + (desk n).advice.wait)
  -- in the state that follows it is met, or is still the one sought
  pub onward : (n : ℕ) → n < m →
      InGoal (plant_of s) (desk n).advice.seek (desk (suc n)).state ⊎
      ((desk (suc n)).advice.seek ≡ (desk n).advice.seek)
  -- the wait shown is 0 exactly where all goals are met; there the goal sought stays, to be sought anew in the next state
  pub all_served : (n : ℕ) → n ≤ m →
      ((desk n).advice.wait ≡ 0) ↔ ((i : ℕ) → i < (plant_of s).goals → InGoal (plant_of s) i (desk n).state)
  pub stays : (n : ℕ) → n ≤ m → (desk n).advice.wait ≡ 0 → (desk n).advice.seek ≡ sought_at desk n
  -- every goal is met within N times 1,023 moves from any moment on
  pub each : (i n : ℕ) → i < (plant_of s).goals → n + (plant_of s).goals * 1023 ≤ m →
      MetBy s desk i n (n + (plant_of s).goals * 1023)

-- from any state that a book keeps which was written for the plant, with any correct reports
pub record Following : Type 0 where
  pub follows : (s b : List ℕ) → WrittenFor s b → (plant_of s).settles ≡ false →
      (start : ℕ) (reports : ℕ → ℕ) (desk : ℕ → Desk) (m : ℕ) → start < (plant_of s).states → is_lost b start ≡ false →
      Session s b start reports desk m → Followed s b start reports desk m
