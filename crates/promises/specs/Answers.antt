-- What the calls answer, with every field: a refusal's number or 0, and 0 or false in each field that is not given.
use Rattle.std.specs.Prelude.{Bool, true, false, ℕ, Option, Some, None, Result, Ok, Err}
use Rattle.refusal.specs.declared.Refusal.{Refusal}
use Rattle.refusal.specs.Numbers.{number_of}
use Rattle.promises.specs.declared.Wrote.{Wrote}
use Rattle.promises.specs.declared.Preview.{Preview}
use Rattle.promises.specs.declared.NextMove.{NextMove}
use Rattle.promises.specs.declared.Step.{Step}

-- make, withdraw, a list of withdrawals, return and index: the length of the book or index written and the number of
-- states listed, which a return has gained and the others have dropped
pub record Answer : Type 0 where
  pub number : ℕ
  pub length : ℕ
  pub drops : ℕ

abbrev pub answer_of : Result Wrote Refusal → Answer
answer_of (Ok w) = record { number = 0; length = w.length; drops = w.drops }
answer_of (Err why) = record { number = number_of why; length = 0; drops = 0 }

-- a preview: the number of states that the withdrawal would drop and that of the states it would keep
pub record Cost : Type 0 where
  pub number : ℕ
  pub drops : ℕ
  pub kept : ℕ

abbrev pub cost_of : Result Preview Refusal → Cost
cost_of (Ok p) = record { number = 0; drops = p.drops; kept = p.kept }
cost_of (Err why) = record { number = number_of why; drops = 0; kept = 0 }

-- consult: a lost state has `lost`; a kept one the move and the wait of the goal arrived at, and that goal, to be sought
-- from here on
pub record Advice : Type 0 where
  pub number : ℕ
  pub lost : Bool
  pub action : ℕ
  pub wait : ℕ
  pub seek : ℕ

abbrev pub advice_of : Result (Option NextMove) Refusal → Advice
advice_of (Ok (Some m)) = record { number = 0; lost = false; action = m.action; wait = m.wait; seek = m.seek }
advice_of (Ok None) = record { number = 0; lost = true; action = 0; wait = 0; seek = 0 }
advice_of (Err why) = record { number = number_of why; lost = false; action = 0; wait = 0; seek = 0 }

-- the call for all good moves: the moves as a mask, bit u for move u
pub record Mask : Type 0 where
  pub number : ℕ
  pub mask : ℕ

abbrev pub mask_of : Result ℕ Refusal → Mask
mask_of (Ok moves) = record { number = 0; mask = moves }
mask_of (Err why) = record { number = number_of why; mask = 0 }

-- consulting a step: the advice for the state in which it begins, whether the move advised there may lead to the state
-- that followed, and the advice for that one
pub record Stepped : Type 0 where
  pub here : Advice
  pub leads : Bool
  pub next : Advice

abbrev pub stepped_of : Step → Stepped
stepped_of s = record { here = advice_of s.here; leads = s.leads; next = advice_of s.next }
