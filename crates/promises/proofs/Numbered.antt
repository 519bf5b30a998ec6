-- An answer has the number 0 exactly where the call is accepted. Assumes nothing.
use mathlib.Core.Path.{◌≡◌, refl}
use Rattle.std.specs.Prelude.{Option, Some, None, Result, Ok, Err}
use Rattle.refusal.specs.declared.Refusal.{Refusal}
use Rattle.refusal.proofs.Refused.{some_refusal}
use Rattle.promises.specs.declared.NextMove.{NextMove}
use Rattle.promises.specs.Answers.{advice_of}

pub number_ok : (r : Result (Option NextMove) Refusal) (given : Option NextMove) → r ≡ Ok given → (advice_of r).number ≡ 0
number_ok r None e = rw e refl
number_ok r (Some next) e = rw e refl

pub number_err : (r : Result (Option NextMove) Refusal) (why : Refusal) → r ≡ Err why → (advice_of r).number ≡ 0 → ⊥
number_err r why e z = some_refusal why (rw e at z)
