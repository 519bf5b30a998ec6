-- Request (xii): what the desk answers, with answer 13, and what it holds.
use Rattle.std.specs.Prelude.{◌≡◌, ◌↔◌, ◌⊎◌, Bool, true, false, ◌||◌, not, List, ℕ, eqb}
use Rattle.statements.specs.Sets.{pick, is_in}
use Rattle.statements.specs.Plants.{first_of, when, plant_of, ends}
use Rattle.statements.specs.Books.{move_at, is_lost, arrive}
use Rattle.statements.specs.Calls.{moves_fault}
use Rattle.promises.specs.Answers.{Advice, advice_of}
use Rattle.promises.specs.Says.{ConsultSays, Advises, step_fault}
use Rattle.desk.specs.declared.AtDesk.{AtDesk}

-- what start and report answer, with every field: the advice for the state that the desk is in, and what it holds
pub record Desk : Type 0 where
  pub advice : Advice
  pub state : ℕ
  pub goal : ℕ

abbrev pub desk_of : AtDesk → Desk
desk_of d = record { advice = advice_of d.advice; state = d.state; goal = d.goal }

-- state x is lost in the book b handed in, or state y is not the end of an arrow of the move that consult gives there
-- for x and goal i
unfoldable pub strays : List ℕ → List ℕ → ℕ → ℕ → ℕ → Bool
strays s b x i y = is_lost b x || not (is_in y (ends (plant_of s) x (move_at b x (arrive b x i))))

-- what a report of state y answers when state x and goal i are held: 1 to 5, 8 for what is held or what is reported, 13,
-- or 0
unfoldable pub report_fault : List ℕ → List ℕ → ℕ → ℕ → ℕ → ℕ
report_fault s b x i y = first_of (step_fault s b x i y) (when (strays s b x i y) 13)

-- the goal held in state y when goal i was sought there: in a lost state that one, otherwise the one arrived at
unfoldable pub goal_held : List ℕ → ℕ → ℕ → ℕ
goal_held b y i = pick (is_lost b y) i (arrive b y i)

-- starting in state x: plant and book are checked as in withdraw, the state as in consult; goal 0 is sought. A refused
-- start holds 0 and 0
pub record StartSays (s b : List ℕ) (x : ℕ) (r : Desk) : Type 0 where
  pub shows : Advises (moves_fault s b x 0) b x 0 r.advice
  pub state : r.state ≡ pick (eqb (moves_fault s b x 0) 0) x 0
  pub goal : r.goal ≡ pick (eqb (moves_fault s b x 0) 0) (goal_held b x 0) 0

-- reporting state y when state x and goal i are held: the goal that consult arrives at for x and i is sought in y. A
-- refused report leaves what is held
pub record ReportSays (s b : List ℕ) (x i y : ℕ) (r : Desk) : Type 0 where
  pub shows : Advises (report_fault s b x i y) b y (arrive b x i) r.advice
  pub state : r.state ≡ pick (eqb (report_fault s b x i y) 0) y x
  pub goal : r.goal ≡ pick (eqb (report_fault s b x i y) 0) (goal_held b y (arrive b x i)) i

-- what that comes to for any plant and any book, also one that nobody made, and for both sorts of plant
pub record Answering : Type 0 where
  -- accepted, the desk answers what consult does: a start for its state and goal 0, a report for the state reported and
  -- the goal that consult answered for what is held
  pub start_consults : {s b : List ℕ} {x : ℕ} {r : Desk} {a : Advice} → StartSays s b x r → r.advice.number ≡ 0 →
      ConsultSays b x 0 a → r.advice ≡ a
  pub report_consults : {s b : List ℕ} {x i y : ℕ} {r : Desk} {here a : Advice} → ReportSays s b x i y r →
      r.advice.number ≡ 0 → ConsultSays b x i here → ConsultSays b y here.seek a → r.advice ≡ a
  -- it then holds that state, and the goal answered; if the state is lost, the goal sought
  pub start_holds : {s b : List ℕ} {x : ℕ} {r : Desk} → StartSays s b x r → r.advice.number ≡ 0 →
      (r.state ≡ x) × (r.advice.lost ≡ false → r.goal ≡ r.advice.seek) × (r.advice.lost ≡ true → r.goal ≡ 0)
  pub report_holds : {s b : List ℕ} {x i y : ℕ} {r : Desk} {here : Advice} → ReportSays s b x i y r →
      r.advice.number ≡ 0 → ConsultSays b x i here →
      (r.state ≡ y) × (r.advice.lost ≡ false → r.goal ≡ r.advice.seek) ×
      (r.advice.lost ≡ true → r.goal ≡ here.seek)
  -- refused, a start holds 0 and 0, and a report leaves what is held
  pub start_refused : {s b : List ℕ} {x : ℕ} {r : Desk} → StartSays s b x r → (r.advice.number ≡ 0 → ⊥) →
      (r.state ≡ 0) × (r.goal ≡ 0)
  pub report_refused : {s b : List ℕ} {x i y : ℕ} {r : Desk} → ReportSays s b x i y r →
      (r.advice.number ≡ 0 → ⊥) → (r.state ≡ x) × (r.goal ≡ i)
  -- 13 comes last, and exactly where the state held is lost in the book, or the state reported is not the end of an
  -- arrow of the move that consult answers for what is held
  pub thirteen : {s b : List ℕ} {x i y : ℕ} {r : Desk} {here : Advice} → ReportSays s b x i y r →
      ConsultSays b x i here →
      (r.advice.number ≡ 13) ↔
      ((step_fault s b x i y ≡ 0) ×
      ((here.lost ≡ true) ⊎ (is_in y (ends (plant_of s) x here.action) ≡ false)))
  -- nothing is left open
  pub start_determined : {s b : List ℕ} {x : ℕ} {r r' : Desk} → StartSays s b x r → StartSays s b x r' → r ≡ r'
  pub report_determined : {s b : List ℕ} {x i y : ℕ} {r r' : Desk} → ReportSays s b x i y r →
      ReportSays s b x i y r' → r ≡ r'
  -- the fields fix what the desk hands back
  pub desks : (r r' : AtDesk) → desk_of r ≡ desk_of r' → r ≡ r'
