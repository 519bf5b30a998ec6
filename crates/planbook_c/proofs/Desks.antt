-- What the desk answers, as 32-bit numbers. Assumes nothing.
use mathlib.Core.Path.{◌∙◌, ap}
use mathlib.Core.Bool.{Bool}
use mathlib.Core.List.{List}
use Prim.Native.Nat.{ℕ}
use Rattle.statements.specs.Sets.{pick}
use Rattle.promises.specs.Says.{Advises}
use Rattle.desk.specs.Desk as answered
use Rattle.desk.specs.Desk.{StartSays, ReportSays}
use Rattle.planbook_c.specs.declared.Desk.{Desk}
use Rattle.planbook_c.specs.Flat.{Flattens, Shows, StartIs, ReportIs}

-- the advice in it
shows : {n : ℕ} {b : List ℕ} {x i : ℕ} {r : answered.Desk} {f : Desk} → Advises n b x i r.advice → Flattens r f →
    Shows n b x i f
shows says flat =
    record {
      number = flat.number ∙ says.number;
      lost = flat.lost ∙ ap (λ (t : Bool). pick t 1 0) says.lost;
      action = flat.action ∙ says.action;
      wait = flat.wait ∙ says.wait;
      seek = flat.seek ∙ says.seek;
    }

pub start_is : {s b : List ℕ} {x : ℕ} {r : answered.Desk} {f : Desk} → StartSays s b x r → Flattens r f →
    StartIs s b x f
start_is says flat =
    record {
      shows = shows says.shows flat;
      state = flat.state ∙ says.state;
      goal = flat.goal ∙ says.goal;
    }

pub report_is : {s b : List ℕ} {x i y : ℕ} {r : answered.Desk} {f : Desk} → ReportSays s b x i y r → Flattens r f →
    ReportIs s b x i y f
report_is says flat =
    record {
      shows = shows says.shows flat;
      state = flat.state ∙ says.state;
      goal = flat.goal ∙ says.goal;
    }
