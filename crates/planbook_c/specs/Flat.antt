-- The answers of the C interface, as structs of 32-bit numbers, and what they say of the planner's definitions.
use Rattle.std.specs.Prelude.{◌≡◌, ◌&&◌, not, List, ℕ, eqb, length, take, drop, get_or, Float}
use Rattle.statements.specs.Sets.{pick}
use Rattle.statements.specs.Books.{is_lost, wait_at, move_at, arrive}
use Rattle.statements.specs.Calls.{consult_fault, moves_fault, row_part}
use Rattle.promises.specs.Says.{accepted, keeps, row_start}
use Rattle.gauge.specs.Bands.{deviation_of, gauge_fault, band_at, is_found}
use Rattle.promises.specs.Answers as planner
use Rattle.gauge.specs.Bands as planner_gauge
use Rattle.desk.specs.Desk as planner_desk
use Rattle.desk.specs.Desk.{report_fault, goal_held}
use Rattle.planbook_c.specs.declared.Answer.{Answer}
use Rattle.planbook_c.specs.declared.Cost.{Cost}
use Rattle.planbook_c.specs.declared.Advice.{Advice}
use Rattle.planbook_c.specs.declared.Mask.{Mask}
use Rattle.planbook_c.specs.declared.Part.{Part}
use Rattle.planbook_c.specs.declared.Place.{Place}
use Rattle.planbook_c.specs.declared.Desk.{Desk}

-- an answer of make, of withdraw, of a list of withdrawals, of return or of index with the planner's own type
abbrev pub plain : Answer → planner.Answer
plain r = record { number = r.number; length = r.length; drops = r.drops }

-- an answer of preview with the planner's own type
abbrev pub plain_cost : Cost → planner.Cost
plain_cost r = record { number = r.number; drops = r.drops; kept = r.kept }

-- an answer of the call for all good moves with the planner's own type
abbrev pub plain_mask : Mask → planner.Mask
plain_mask r = record { number = r.number; mask = r.mask }

-- consulting a book b for a state x and the goal i sought: a refusal's number or 0; 1 for a lost state; or the move and
-- the wait of the goal arrived at, and that goal; every field that is not given is 0
pub record AdviceSays (b : List ℕ) (x i : ℕ) (r : Advice) : Type 0 where
  pub number : r.number ≡ consult_fault b x i
  pub lost : r.lost ≡ pick (accepted b x i && is_lost b x) 1 0
  pub action : r.action ≡ pick (keeps b x i) (move_at b x (arrive b x i)) 0
  pub wait : r.wait ≡ pick (keeps b x i) (wait_at b x (arrive b x i)) 0
  pub seek : r.seek ≡ pick (keeps b x i) (arrive b x i) 0

-- the row of a state x in a book b: a refusal's number or 0, where in the book it starts and how long it is, and that
-- this part of the book is the row; 0 and 0 when refused
pub record PartSays (b : List ℕ) (x : ℕ) (r : Part) : Type 0 where
  pub number : r.number ≡ consult_fault b x 0
  pub start : r.start ≡ row_start b x
  pub long : r.length ≡ length (row_part b x)
  pub bytes : take r.length (drop r.start b) ≡ row_part b x

-- a reading and an aim by a table of bands and S: a refusal's number or 0; 1 if some band holds the deviation, and the
-- state of that band; every field that is not given is 0
pub record PlaceIs (kinds : List ℕ) (ends : List Float) (states : List ℕ) (s : ℕ) (reading aim : Float)
    (r : Place) : Type 0 where
  pub number : r.number ≡ gauge_fault kinds ends states s reading aim
  pub found : r.found ≡ pick (is_found kinds ends states s reading aim) 1 0
  pub state : r.state ≡
      pick (is_found kinds ends states s reading aim)
      (get_or states (band_at kinds ends states (deviation_of reading aim)) 0) 0

-- an answer of consult, field by field, with 1 for a lost state
pub record FlatAdvice (r : planner.Advice) (f : Advice) : Type 0 where
  pub number : f.number ≡ r.number
  pub lost : f.lost ≡ pick r.lost 1 0
  pub action : f.action ≡ r.action
  pub wait : f.wait ≡ r.wait
  pub seek : f.seek ≡ r.seek

-- an answer of the gauge call, field by field, with 1 where a band holds the deviation
pub record FlatPlace (r : planner_gauge.Place) (f : Place) : Type 0 where
  pub number : f.number ≡ r.number
  pub found : f.found ≡ pick r.found 1 0
  pub state : f.state ≡ r.state

-- an answer of the desk, field by field, with 1 for a lost state
pub record Flattens (r : planner_desk.Desk) (f : Desk) : Type 0 where
  pub number : f.number ≡ r.advice.number
  pub lost : f.lost ≡ pick r.advice.lost 1 0
  pub action : f.action ≡ r.advice.action
  pub wait : f.wait ≡ r.advice.wait
  pub seek : f.seek ≡ r.advice.seek
  pub state : f.state ≡ r.state
  pub goal : f.goal ≡ r.goal

-- the advice in an answer of the desk with a number, for a state x of a book b and the goal i sought: 1 for a lost state,
-- or the move and the wait of the goal arrived at, and that goal; every field that is not given is 0
pub record Shows (number_is : ℕ) (b : List ℕ) (x i : ℕ) (r : Desk) : Type 0 where
  pub number : r.number ≡ number_is
  pub lost : r.lost ≡ pick (eqb number_is 0 && is_lost b x) 1 0
  pub action : r.action ≡ pick (eqb number_is 0 && not (is_lost b x)) (move_at b x (arrive b x i)) 0
  pub wait : r.wait ≡ pick (eqb number_is 0 && not (is_lost b x)) (wait_at b x (arrive b x i)) 0
  pub seek : r.seek ≡ pick (eqb number_is 0 && not (is_lost b x)) (arrive b x i) 0

-- the desk starts in state x of the plant with the bytes s, by a book b: a refusal's number or 0, the advice there, where
-- goal 0 is sought, and what the desk holds; a refused start holds 0 and 0
pub record StartIs (s b : List ℕ) (x : ℕ) (r : Desk) : Type 0 where
  pub shows : Shows (moves_fault s b x 0) b x 0 r
  pub state : r.state ≡ pick (eqb (moves_fault s b x 0) 0) x 0
  pub goal : r.goal ≡ pick (eqb (moves_fault s b x 0) 0) (goal_held b x 0) 0

-- state y is reported when state x and goal i are held: a refusal's number or 0, the advice there, where the goal that
-- consult arrives at for x and i is sought, and what the desk holds; a refused report leaves what is held
pub record ReportIs (s b : List ℕ) (x i y : ℕ) (r : Desk) : Type 0 where
  pub shows : Shows (report_fault s b x i y) b y (arrive b x i) r
  pub state : r.state ≡ pick (eqb (report_fault s b x i y) 0) y x
  pub goal : r.goal ≡ pick (eqb (report_fault s b x i y) 0) (goal_held b y (arrive b x i)) i
