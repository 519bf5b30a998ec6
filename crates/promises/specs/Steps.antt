-- Following a book step by step: the books that the calls write for a plant, and what their rows, moves and arrows come
-- to for one who makes the listed moves and is told where they led. Nothing need be known of how a book is worked out.
use Rattle.std.specs.Prelude.{◌≡◌, ◌↔◌, true, false, List, ℕ, ◌≤◌, ◌<◌, take}
use Rattle.promises.specs.Answers.{Answer}
use Rattle.statements.specs.Sets.{is_in}
use Rattle.statements.specs.Plants.{plant_of, ends, available}
use Rattle.statements.specs.Books.{book_goals, book_mask, wait_at, move_at, is_lost, arrive}
use Rattle.statements.specs.Calls.{consult_fault, moves_fault}
use Rattle.statements.specs.Strategies.{InGoal}
use Rattle.promises.specs.Says.{MakeIndexedSays, WithdrawSays, WithdrawListSays, ReturnSays, WithdrawIndexedSays}
use Rattle.promises.specs.Says.{step_fault}
use Rattle.promises.specs.Traces.{Begun, book_after}

-- a book written for the plant with the bytes s: the standing book after an accepted make and any list of calls; or that
-- of an accepted call, the first bytes of its buffer, as many as it returned, whatever book was handed in
pub data WrittenFor (s : List ℕ) : List ℕ → Type 0 where
  standing : (t : Begun s) → WrittenFor s (book_after s t)
  withdrawn : {b o o' d d' : List ℕ} {gone : ℕ} {r : Answer} → WithdrawSays s b gone o o' d d' r → r.number ≡ 0 →
      WrittenFor s (take r.length o')
  withdrawn_list_lem : {b masks o o' d d' : List ℕ} {r : Answer} → WithdrawListSays s b masks o o' d d' r →
      r.number ≡ 0 → WrittenFor s (take r.length o')
  returned : {b o o' d d' : List ℕ} {back : ℕ} {r : Answer} → ReturnSays s b back o o' d d' r → r.number ≡ 0 →
      WrittenFor s (take r.length o')
  made_by : {index o o' : List ℕ} {mask : ℕ} {r : Answer} → MakeIndexedSays s index mask o o' r → r.number ≡ 0 →
      WrittenFor s (take r.length o')
  withdrawn_by : {index b o o' d d' : List ℕ} {gone : ℕ} {r : Answer} →
      WithdrawIndexedSays s index b gone o o' d d' r → r.number ≡ 0 → WrittenFor s (take r.length o')

-- a book b guides one who follows it in the plant with the bytes s
pub record Guides (s b : List ℕ) : Type 0 where
  -- it has the plant's goals, of which there is one at least
  pub goals : book_goals b ≡ (plant_of s).goals
  pub some_goal : 0 < (plant_of s).goals
  -- a call that consults it with the plant is accepted for any state and goal, and so is a step
  pub consulted : (x i : ℕ) → x < (plant_of s).states → i < (plant_of s).goals → moves_fault s b x i ≡ 0
  pub stepped : (x i y : ℕ) → x < (plant_of s).states → i < (plant_of s).goals → y < (plant_of s).states →
      step_fault s b x i y ≡ 0
  -- the listed move of a kept state is available, and leads to states that are kept
  pub goes_on : (x i : ℕ) → x < (plant_of s).states → i < (plant_of s).goals → is_lost b x ≡ false →
      available (plant_of s) (book_mask b) x (move_at b x i) ≡ true
  pub stays : (x i y : ℕ) → x < (plant_of s).states → i < (plant_of s).goals → is_lost b x ≡ false →
      is_in y (ends (plant_of s) x (move_at b x i)) ≡ true → (y < (plant_of s).states) × (is_lost b y ≡ false)
  -- its wait is at most 1,023
  pub short : (x i : ℕ) → x < (plant_of s).states → i < (plant_of s).goals → is_lost b x ≡ false → wait_at b x i ≤ 1023
  -- where the plant does not settle it is 0 exactly in the goal, and above 0 the listed move leads to smaller waits
  pub served : (plant_of s).settles ≡ false → (x i : ℕ) → x < (plant_of s).states → i < (plant_of s).goals →
      is_lost b x ≡ false → (wait_at b x i ≡ 0) ↔ InGoal (plant_of s) i x
  pub nearer : (plant_of s).settles ≡ false → (x i y : ℕ) → x < (plant_of s).states → i < (plant_of s).goals →
      is_lost b x ≡ false → 0 < wait_at b x i → is_in y (ends (plant_of s) x (move_at b x i)) ≡ true →
      wait_at b y i < wait_at b x i

pub record Steps : Type 0 where
  -- every book that the calls write for a plant guides
  pub guides : (s b : List ℕ) → WrittenFor s b → Guides s b
  -- in any book, also one that nobody made: where a call that consults it with a plant is accepted consult is too, and
  -- where a step is, both are for the state in which it begins, and consult for the one that followed, where the goal
  -- arrived at is sought
  pub alone : (s b : List ℕ) (x i : ℕ) → moves_fault s b x i ≡ 0 → consult_fault b x i ≡ 0
  pub onward : (s b : List ℕ) (x i y : ℕ) → step_fault s b x i y ≡ 0 →
      (moves_fault s b x i ≡ 0) × (consult_fault b y (arrive b x i) ≡ 0)
  -- a step is refused with none of the numbers above 8
  pub numbers : (s b : List ℕ) (x i y : ℕ) → step_fault s b x i y ≤ 8
