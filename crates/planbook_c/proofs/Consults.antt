-- What consult answers, as 32-bit numbers. Assumes nothing.
use mathlib.Core.Path.{◌∙◌, ap}
use mathlib.Core.Bool.{Bool}
use mathlib.Core.List.{List}
use Prim.Native.Nat.{ℕ}
use Rattle.statements.specs.Sets.{pick}
use Rattle.promises.specs.Says.{ConsultSays}
use Rattle.promises.specs.Answers as answered
use Rattle.planbook_c.specs.declared.Advice.{Advice}
use Rattle.planbook_c.specs.Flat.{FlatAdvice, AdviceSays}

-- with 1 for a lost state
pub advice_says : {b : List ℕ} {x i : ℕ} {r : answered.Advice} {f : Advice} → ConsultSays b x i r → FlatAdvice r f →
    AdviceSays b x i f
advice_says says flat =
    record {
      number = flat.number ∙ says.number;
      lost = flat.lost ∙ ap (λ (t : Bool). pick t 1 0) says.lost;
      action = flat.action ∙ says.action;
      wait = flat.wait ∙ says.wait;
      seek = flat.seek ∙ says.seek;
    }
