-- What is handed in fixes what the calls answer and write: each promise is an equation for every field and buffer, and
-- what hangs on the answer's number hangs on what is handed in. Assumes nothing.
use mathlib.Core.Path.{◌≡◌, refl, sym, ap, ◌∙◌}
use mathlib.Core.Bool.{true≢false}
use mathlib.Core.List.{List}
use Prim.Native.Nat.{ℕ}
use Rattle.std.specs.Prelude.{Option, Some, None, Result, Ok}
use Rattle.refusal.specs.declared.Refusal.{Refusal}
use Rattle.refusal.proofs.Refused.{same_result}
use Rattle.promises.specs.declared.Wrote.{Wrote}
use Rattle.promises.specs.declared.Preview.{Preview}
use Rattle.promises.specs.declared.NextMove.{NextMove}
use Rattle.promises.specs.declared.Step.{Step}
use Rattle.promises.specs.Answers.{Advice, advice_of}
use Rattle.promises.specs.Answers.{Answer, answer_of}
use Rattle.promises.specs.Answers.{Cost, cost_of}
use Rattle.promises.specs.Answers.{Mask, mask_of}
use Rattle.promises.specs.Answers.{Stepped, stepped_of}
use Rattle.promises.specs.Says.{Advises, StepSays, Writes, Determined}

-- answers with the same fields are the same
same_advice : {r r' : Advice} → r.number ≡ r'.number → r.lost ≡ r'.lost → r.action ≡ r'.action
    → r.wait ≡ r'.wait → r.seek ≡ r'.seek → r ≡ r'
same_advice en el ea ew es = λ k. record { number = en k; lost = el k; action = ea k; wait = ew k; seek = es k }

same_mask : {r r' : Mask} → r.number ≡ r'.number → r.mask ≡ r'.mask → r ≡ r'
same_mask en em = λ k. record { number = en k; mask = em k }

same_answer : {r r' : Answer} → r.number ≡ r'.number → r.length ≡ r'.length → r.drops ≡ r'.drops → r ≡ r'
same_answer en el ed = λ k. record { number = en k; length = el k; drops = ed k }

same_cost : {c c' : Cost} → c.number ≡ c'.number → c.drops ≡ c'.drops → c.kept ≡ c'.kept → c ≡ c'
same_cost en ed ek = λ k. record { number = en k; drops = ed k; kept = ek k }

same_advises : {n : ℕ} {b : List ℕ} {x i : ℕ} {r r' : Advice} → Advises n b x i r → Advises n b x i r' → r ≡ r'
same_advises h k = same_advice (cc) (cc) (cc) (cc) (cc)

same_step : {s b : List ℕ} {x i y : ℕ} {r r' : Stepped} → StepSays s b x i y r → StepSays s b x i y r' → r ≡ r'
same_step {s} {b} {x} {i} {y} {r} {r'} h k =
    let here = same_advises h.here k.here in
    let seek : r.here.seek ≡ r'.here.seek = ap (λ (a : Advice). a.seek) here in
    let leads : r.leads ≡ r'.leads = h.leads ∙ sym k.leads in
    let next = same_advises (rw seek at h.next) k.next in
    λ j. record { here = here j; leads = leads j; next = next j }

same_pointer : {q q' : ℕ × ℕ} → q.0 ≡ q'.0 → q.1 ≡ q'.1 → q ≡ q'
same_pointer eb ep = λ k. (eb k, ep k)

-- what is written, and its answer
same_written : {number : ℕ} {after listed o o' o'' d d' d'' : List ℕ} {r r' : Answer}
    → Writes number after listed o o' d d' r → Writes number after listed o o'' d d'' r'
    → (r ≡ r') × (o' ≡ o'') × (d' ≡ d'')
same_written h k = (same_answer (cc) (cc) (cc), cc, cc)

-- what a call hands back is told by the fields
pub same_wrote : (r r' : Result Wrote Refusal) → answer_of r ≡ answer_of r' → r ≡ r'
same_wrote =
    same_result answer_of (λ (a : Answer). a.number) (λ w. refl) (λ why. refl)
    (λ w w' e. λ k. record { length = (e k).length; drops = (e k).drops })

pub same_preview : (r r' : Result Preview Refusal) → cost_of r ≡ cost_of r' → r ≡ r'
same_preview =
    same_result cost_of (λ (c : Cost). c.number) (λ p. refl) (λ why. refl)
    (λ p p' e. λ k. record { drops = (e k).drops; kept = (e k).kept })

pub same_moves : (r r' : Result ℕ Refusal) → mask_of r ≡ mask_of r' → r ≡ r'
same_moves =
    same_result mask_of (λ (m : Mask). m.number) (λ m. refl) (λ why. refl) (λ m m' e. ap (λ (a : Mask). a.mask) e)

accepted_advice : (m : Option NextMove) → (advice_of (Ok m)).number ≡ 0
accepted_advice (Some m) = refl
accepted_advice None = refl

same_next : (m m' : Option NextMove) → advice_of (Ok m) ≡ advice_of (Ok m') → m ≡ m'
same_next (Some m) (Some m') e =
    λ k. Some (record { action = (e k).action; wait = (e k).wait; seek = (e k).seek })
same_next (Some m) None e = absurd (true≢false (sym (ap (λ (a : Advice). a.lost) e)))
same_next None (Some m) e = absurd (true≢false (ap (λ (a : Advice). a.lost) e))
same_next None None e = refl

pub same_advised : (r r' : Result (Option NextMove) Refusal) → advice_of r ≡ advice_of r' → r ≡ r'
same_advised =
    same_result advice_of (λ (a : Advice). a.number) accepted_advice (λ why. refl) same_next

pub same_stepped : (r r' : Step) → stepped_of r ≡ stepped_of r' → r ≡ r'
same_stepped r r' e =
    let here = same_advised r.here r'.here (ap (λ (s : Stepped). s.here) e) in
    let next = same_advised r.next r'.next (ap (λ (s : Stepped). s.next) e) in
    λ k. record { here = here k; leads = (e k).leads; next = next k }

pub determined : Determined
determined =
    record {
      consult = λ h k. same_advice (cc) (cc) (cc) (cc) (cc);
      advice = same_advises;
      step = same_step;
      moves = λ h k. same_mask (cc) (cc);
      writes = λ h k. same_written h.writes k.writes;
      index = λ s h k. let same = same_written h k in (same.0, same.1);
      preview = λ h k. (same_cost (cc) (cc) (cc), cc);
      row = λ h k. (cc, same_pointer (cc) (cc));
      answers = same_wrote;
      costs = same_preview;
      advices = same_advised;
      masks = same_moves;
      steps = same_stepped;
    }
