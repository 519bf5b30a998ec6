-- What the desk answers, case by case, from what consult's calls say. Assumes nothing.
use mathlib.Core.Path.{◌≡◌, refl, sym, ◌∙◌, subst}
use mathlib.Core.Logic.{inl, inr}
use mathlib.Core.Bool.{Bool, true, false, not}
use mathlib.Core.List.{List}
use Prim.Native.Nat.{ℕ, zero, suc}
use native.Mathlib.Omega.{arith}
use lib.Dec.{eqb}
use borrow.Author.Tests.{ne_eqb}
use Rattle.statements.specs.Sets.{pick, is_in}
use Rattle.statements.specs.Plants.{first_of, when, plant_of, ends}
use Rattle.statements.specs.Books.{move_at, is_lost, arrive}
use Rattle.statements.specs.Calls.{moves_fault}
use Rattle.sets.proofs.Tests.{decided, not_both}
use Rattle.promises.specs.Answers.{Advice, Stepped}
use Rattle.promises.specs.Says.{Advises, step_fault, StepSays}
use Rattle.promises.specs.Steps.{Steps}
use Rattle.desk.specs.Desk.{strays, report_fault, goal_held, StartSays, ReportSays}

-- no advice, whatever state and goal it would be for
abbrev pub Silent : ℕ → Advice → Type 0
Silent n a = (a.number ≡ n) × (a.lost ≡ false) × (a.action ≡ 0) × (a.wait ≡ 0) × (a.seek ≡ 0)

silent_advises : {n m : ℕ} {b : List ℕ} {x i : ℕ} {a : Advice} → m ≡ n → (n ≡ 0 → ⊥) → Silent m a → Advises n b x i a
silent_advises {n} e h quiet =
    let no : eqb n 0 ≡ false = ne_eqb n 0 h in
    record {
      number = quiet.0 ∙ e;
      lost = rw no quiet.1;
      action = rw no quiet.2;
      wait = rw no quiet.3;
      seek = rw no quiet.4;
    }

advises_silent : {n : ℕ} {b : List ℕ} {x i : ℕ} {a : Advice} → (n ≡ 0 → ⊥) → Advises n b x i a → Silent n a
advises_silent {n} h says =
    let no : eqb n 0 ≡ false = ne_eqb n 0 h in
    (says.number, says.lost ∙ rw no refl, says.action ∙ rw no refl, says.wait ∙ rw no refl, says.seek ∙ rw no refl)

-- what an accepted advice has
module _ {n : ℕ} {b : List ℕ} {x i : ℕ} {a : Advice} (fine : n ≡ 0) (says : Advises n b x i a) where
  pub lost_is : a.lost ≡ is_lost b x
  lost_is = says.lost ∙ rw fine refl

  module _ (kept : is_lost b x ≡ false) where
    pub action_is : a.action ≡ move_at b x (arrive b x i)
    action_is = says.action ∙ rw (fine, kept) refl

    pub seek_is : a.seek ≡ arrive b x i
    seek_is = says.seek ∙ rw (fine, kept) refl

  -- the goal held with it
  held_is : (g : ℕ) → g ≡ pick a.lost i a.seek → g ≡ goal_held b x i
  unfolding goal_held
  held_is g e =
      elim (decided (is_lost b x)) [
        | inl l ↦ e ∙ rw (lost_is, l) refl
        | inr k ↦ e ∙ rw (lost_is, k) (seek_is k)
      ]

  -- the goal held is the one answered, in a lost state the one sought
  pub goal_kept : {g : ℕ} → g ≡ goal_held b x i → a.lost ≡ false → g ≡ a.seek
  unfolding goal_held
  goal_kept e k =
      let kept : is_lost b x ≡ false = sym lost_is ∙ k in
      e ∙ rw kept (sym (seek_is kept))

  pub goal_lost : {g : ℕ} → g ≡ goal_held b x i → a.lost ≡ true → g ≡ i
  unfolding goal_held
  goal_lost e l =
      let gone : is_lost b x ≡ true = sym lost_is ∙ l in
      e ∙ rw gone refl

-- starting
module _ {s b : List ℕ} {x : ℕ} {a : Advice} (told : Advises (moves_fault s b x 0) b x 0 a) where
  pub start_none : (a.number ≡ 0 → ⊥) → StartSays s b x (record { advice = a; state = 0; goal = 0 })
  start_none h =
      let no : eqb (moves_fault s b x 0) 0 ≡ false = ne_eqb _ _ (λ z. h (told.number ∙ z)) in
      record { shows = told; state = rw no refl; goal = rw no refl }

  pub start_shown : (g : ℕ) → a.number ≡ 0 → g ≡ pick a.lost 0 a.seek →
      StartSays s b x (record { advice = a; state = x; goal = g })
  start_shown g z e =
      let fine : moves_fault s b x 0 ≡ 0 = sym told.number ∙ z in
      record { shows = told; state = rw fine refl; goal = rw fine (held_is fine told g e) }

-- the number of a report
module _ (s b : List ℕ) (x i y : ℕ) where
  pub fault_before : (step_fault s b x i y ≡ 0 → ⊥) → report_fault s b x i y ≡ step_fault s b x i y
  unfolding report_fault
  fault_before h = first_given (step_fault s b x i y) (when (strays s b x i y) 13) h
    where
      first_given : (n m : ℕ) → (n ≡ 0 → ⊥) → first_of n m ≡ n
      first_given zero m d = absurd (d refl)
      first_given (suc n) m d = refl

  pub fault_after : step_fault s b x i y ≡ 0 → (t : Bool) → strays s b x i y ≡ t → report_fault s b x i y ≡ when t 13
  unfolding report_fault
  fault_after h t e = rw (h, e) refl

  pub strays_lost : is_lost b x ≡ true → strays s b x i y ≡ true
  unfolding strays
  strays_lost l = rw l refl

  pub strays_kept : is_lost b x ≡ false → (t : Bool) → is_in y (ends (plant_of s) x (move_at b x (arrive b x i))) ≡ t →
      strays s b x i y ≡ not t
  unfolding strays
  strays_kept k t e = rw (k, e) refl

-- reporting
module _ {s b : List ℕ} {x i y : ℕ} {r : Stepped} (told : StepSays s b x i y r) where
  pub report_none : (r.next.number ≡ 0 → ⊥) →
      ReportSays s b x i y (record { advice = r.next; state = x; goal = i })
  report_none h =
      let not_fine : step_fault s b x i y ≡ 0 → ⊥ = λ z. h (told.next.number ∙ z) in
      let same = fault_before s b x i y not_fine in
      let no : eqb (report_fault s b x i y) 0 ≡ false = ne_eqb _ _ (λ z. not_fine (sym same ∙ z)) in
      record {
        shows = silent_advises (sym same) (λ z. not_fine (sym same ∙ z)) (advises_silent not_fine told.next);
        state = rw no refl;
        goal = rw no refl;
      }

  module _ (z : r.next.number ≡ 0) where
    fine : step_fault s b x i y ≡ 0
    fine = sym told.next.number ∙ z

    -- the move advised leads there, or the report strays
    strays_is : strays s b x i y ≡ not r.leads
    strays_is =
        elim (decided (is_lost b x)) [
          | inl l ↦
              let off : r.leads ≡ false = told.leads ∙ rw (fine, l) refl in
              strays_lost s b x i y l ∙ rw off refl
          | inr k ↦
              let is : r.leads ≡ is_in y (ends (plant_of s) x (move_at b x (arrive b x i))) =
              told.leads ∙ rw (fine, k) refl in
              strays_kept s b x i y k r.leads (sym is)
        ]

    pub report_strays : {a : Advice} → r.leads ≡ false → Silent 13 a →
        ReportSays s b x i y (record { advice = a; state = x; goal = i })
    report_strays off quiet =
        let is : report_fault s b x i y ≡ 13 = fault_after s b x i y fine true (strays_is ∙ rw off refl) in
        record {
          shows = silent_advises (sym is) (λ e. omega (arith, is, e)) quiet;
          state = rw is refl;
          goal = rw is refl;
        }

    module _ (steps : Steps) (yes : r.leads ≡ true) where
      kept : is_lost b x ≡ false
      kept =
          elim (decided (is_lost b x)) [
            | inl l ↦
                let off : r.leads ≡ false = told.leads ∙ rw (fine, l) refl in
                absurd (not_both yes off)
            | inr k ↦ k
          ]

      sought_is : r.here.seek ≡ arrive b x i
      sought_is = seek_is (steps.onward s b x i y fine).0 told.here kept

      pub report_shown : (g : ℕ) → g ≡ pick r.next.lost r.here.seek r.next.seek →
          ReportSays s b x i y (record { advice = r.next; state = y; goal = g })
      report_shown g e =
          let is : report_fault s b x i y ≡ 0 = fault_after s b x i y fine false (strays_is ∙ rw yes refl) in
          let next : Advises (step_fault s b x i y) b y (arrive b x i) r.next =
          subst (λ (h : ℕ). Advises (step_fault s b x i y) b y h r.next) sought_is told.next in
          let sought : g ≡ pick r.next.lost (arrive b x i) r.next.seek = rw sought_is at e in
          record {
            shows = subst (λ (n : ℕ). Advises n b y (arrive b x i) r.next) (fine ∙ sym is) next;
            state = rw is refl;
            goal = rw is (held_is fine next g sought);
          }
