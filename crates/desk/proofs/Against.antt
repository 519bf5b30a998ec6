-- What the desk's promises come to against those of consult: `Answering`, from what consult's calls promise. Assumes
-- nothing.
use mathlib.Core.Path.{◌≡◌, refl, sym, ap, ◌∙◌, subst}
use mathlib.Core.Logic.{◌⊎◌, inl, inr}
use mathlib.Core.Bool.{true, false}
use mathlib.Core.List.{List}
use Prim.Native.Nat.{ℕ}
use native.Mathlib.Omega.{arith}
use lib.Dec.{eqb}
use borrow.Author.Tests.{ne_eqb, not-true}
use Rattle.statements.specs.Sets.{is_in}
use Rattle.statements.specs.Plants.{plant_of, ends}
use Rattle.statements.specs.Books.{is_lost, arrive}
use Rattle.statements.specs.Calls.{consult_fault, moves_fault}
use Rattle.sets.proofs.Tests.{decided, same_number, not_both}
use Rattle.promises.specs.Answers.{Advice}
use Rattle.promises.specs.Says.{accepted, keeps, ConsultSays, Advises, step_fault, Determined}
use Rattle.promises.specs.Steps.{Steps}
use Rattle.desk.specs.declared.AtDesk.{AtDesk}
use Rattle.desk.specs.Desk.{Desk, desk_of}
use Rattle.desk.specs.Desk.{strays, report_fault, goal_held, StartSays, ReportSays, Answering}
use Rattle.desk.proofs.Answers.{lost_is, action_is, seek_is, goal_kept, goal_lost, fault_before, fault_after}
use Rattle.desk.proofs.Answers.{strays_lost, strays_kept}

module _ (steps : Steps) (determined : Determined) where
  -- an accepted advice is consult's
  same : {n : ℕ} {b : List ℕ} {x i : ℕ} {r a : Advice} → n ≡ 0 → consult_fault b x i ≡ 0 → Advises n b x i r →
      ConsultSays b x i a → r ≡ a
  unfolding accepted keeps
  same {n} {b} {x} {i} {r} z fine told says =
      let t : Advises (consult_fault b x i) b x i r =
      subst (λ (m : ℕ). Advises m b x i r) (z ∙ sym fine) told in
      determined.consult
      (record { number = t.number; lost = t.lost; action = t.action; wait = t.wait; seek = t.seek }) says

  -- a start
  module _ (s b : List ℕ) (x : ℕ) (r : Desk) (says : StartSays s b x r) where
    module _ (z : r.advice.number ≡ 0) where
      start_fine : moves_fault s b x 0 ≡ 0
      start_fine = sym says.shows.number ∙ z

      start_consults : {a : Advice} → ConsultSays b x 0 a → r.advice ≡ a
      start_consults told = same start_fine (steps.alone s b x 0 start_fine) says.shows told

      start_holds : (r.state ≡ x) × (r.advice.lost ≡ false → r.goal ≡ r.advice.seek) ×
          (r.advice.lost ≡ true → r.goal ≡ 0)
      start_holds =
          let goal : r.goal ≡ goal_held b x 0 = says.goal ∙ rw start_fine refl in (
            says.state ∙ rw start_fine refl,
            goal_kept start_fine says.shows goal,
            goal_lost start_fine says.shows goal,
          )

    start_refused : (r.advice.number ≡ 0 → ⊥) → (r.state ≡ 0) × (r.goal ≡ 0)
    start_refused h =
        let off : eqb (moves_fault s b x 0) 0 ≡ false = ne_eqb _ _ (λ z. h (says.shows.number ∙ z)) in
        (says.state ∙ rw off refl, says.goal ∙ rw off refl)

  -- a report, and what consult says of what is held
  module _ (s b : List ℕ) (x i y : ℕ) (r : Desk) (says : ReportSays s b x i y r) where
    report_refused : (r.advice.number ≡ 0 → ⊥) → (r.state ≡ x) × (r.goal ≡ i)
    report_refused h =
        let off : eqb (report_fault s b x i y) 0 ≡ false = ne_eqb _ _ (λ z. h (says.shows.number ∙ z)) in
        (says.state ∙ rw off refl, says.goal ∙ rw off refl)

    module _ (here : Advice) (held : ConsultSays b x i here) where
      -- where plant, book and numbers are accepted
      module _ (fine : step_fault s b x i y ≡ 0) where
        held_told : Advises (consult_fault b x i) b x i here
        unfolding accepted keeps
        held_told =
            record {
              number = held.number;
              lost = held.lost;
              action = held.action;
              wait = held.wait;
              seek = held.seek;
            }

        held_fine : consult_fault b x i ≡ 0
        held_fine = steps.alone s b x i (steps.onward s b x i y fine).0

        -- the report strays exactly where consult says lost, or its move does not lead there
        to_strays : (here.lost ≡ true) ⊎ (is_in y (ends (plant_of s) x here.action) ≡ false) →
            strays s b x i y ≡ true
        to_strays (inl l) = strays_lost s b x i y (sym (lost_is held_fine held_told) ∙ l)
        to_strays (inr none) =
            elim (decided (is_lost b x)) [
              | inl l ↦ strays_lost s b x i y l
              | inr k ↦ strays_kept s b x i y k false (rw (action_is held_fine held_told k) at none)
            ]

        of_strays : strays s b x i y ≡ true →
            (here.lost ≡ true) ⊎ (is_in y (ends (plant_of s) x here.action) ≡ false)
        of_strays t =
            elim (decided (is_lost b x)) [
              | inl l ↦ inl (lost_is held_fine held_told ∙ l)
              | inr k ↦
                  let e = strays_kept s b x i y k _ refl in
                  inr (rw (action_is held_fine held_told k) (not-true _ (sym e ∙ t)))
            ]

      -- 13
      to_thirteen : (step_fault s b x i y ≡ 0) ×
          ((here.lost ≡ true) ⊎ (is_in y (ends (plant_of s) x here.action) ≡ false)) → r.advice.number ≡ 13
      to_thirteen q = says.shows.number ∙ fault_after s b x i y q.0 true (to_strays q.0 q.1)

      of_thirteen : r.advice.number ≡ 13 → (step_fault s b x i y ≡ 0) ×
          ((here.lost ≡ true) ⊎ (is_in y (ends (plant_of s) x here.action) ≡ false))
      of_thirteen e =
          let is : report_fault s b x i y ≡ 13 = sym says.shows.number ∙ e in
          elim (same_number (step_fault s b x i y) 0) [
            | inl fine ↦
                elim (decided (strays s b x i y)) [
                  | inl t ↦ (fine, of_strays fine t)
                  | inr f ↦ absurd (omega (arith, is, fault_after s b x i y fine false f))
                ]
            | inr d ↦ absurd (omega (arith, is, fault_before s b x i y d, steps.numbers s b x i y))
          ]

      -- accepted
      module _ (z : r.advice.number ≡ 0) where
        report_is : report_fault s b x i y ≡ 0
        report_is = sym says.shows.number ∙ z

        step_is : step_fault s b x i y ≡ 0
        step_is =
            elim (same_number (step_fault s b x i y) 0) [
              | inl fine ↦ fine
              | inr d ↦ absurd (d (sym (fault_before s b x i y d) ∙ report_is))
            ]

        sought_here : here.seek ≡ arrive b x i
        sought_here =
            elim (decided (strays s b x i y)) [
              | inl t ↦ absurd (omega (arith, report_is, fault_after s b x i y step_is true t))
              | inr f ↦
                  seek_is (held_fine step_is) (held_told step_is)
                  (elim (decided (is_lost b x)) [
                    | inl l ↦ absurd (not_both (strays_lost s b x i y l) f)
                    | inr k ↦ k
                  ])
            ]

        report_consults : {a : Advice} → ConsultSays b y here.seek a → r.advice ≡ a
        report_consults {a} told =
            let asked : ConsultSays b y (arrive b x i) a =
            subst (λ (g : ℕ). ConsultSays b y g a) sought_here told in
            same report_is (steps.onward s b x i y step_is).1 says.shows asked

        report_holds : (r.state ≡ y) × (r.advice.lost ≡ false → r.goal ≡ r.advice.seek) ×
            (r.advice.lost ≡ true → r.goal ≡ here.seek)
        report_holds =
            let goal : r.goal ≡ goal_held b y (arrive b x i) = says.goal ∙ rw report_is refl in (
              says.state ∙ rw report_is refl,
              goal_kept report_is says.shows goal,
              λ l. goal_lost report_is says.shows goal l ∙ sym sought_here,
            )

-- answers with the same fields are the same
same_desk : {r r' : Desk} → r.advice ≡ r'.advice → r.state ≡ r'.state → r.goal ≡ r'.goal → r ≡ r'
same_desk a x g = λ j. record { advice = a j; state = x j; goal = g j }

-- what the desk hands back is told by the fields
same_at_desk : Determined → (r r' : AtDesk) → desk_of r ≡ desk_of r' → r ≡ r'
same_at_desk determined r r' e =
    let advice = determined.advices r.advice r'.advice (ap (λ (d : Desk). d.advice) e) in
    λ j. record { advice = advice j; state = (e j).state; goal = (e j).goal }

pub answering : Steps → Determined → Answering
answering steps determined =
    record {
      start_consults = λ {s} {b} {x} {r} says z told. start_consults steps determined s b x r says z told;
      report_consults = λ {s} {b} {x} {i} {y} {r} {here} says z held told.
          report_consults steps determined s b x i y r says here held z told;
      start_holds = λ {s} {b} {x} {r} says z. start_holds steps determined s b x r says z;
      report_holds = λ {s} {b} {x} {i} {y} {r} {here} says z held.
          report_holds steps determined s b x i y r says here held z;
      start_refused = λ {s} {b} {x} {r} says h. start_refused steps determined s b x r says h;
      report_refused = λ {s} {b} {x} {i} {y} {r} says h. report_refused steps determined s b x i y r says h;
      thirteen = λ {s} {b} {x} {i} {y} {r} {here} says held. (
        of_thirteen steps determined s b x i y r says here held,
        to_thirteen steps determined s b x i y r says here held,
      );
      start_determined = λ h k.
          same_desk (determined.advice h.shows k.shows) (h.state ∙ sym k.state) (h.goal ∙ sym k.goal);
      report_determined = λ h k.
          same_desk (determined.advice h.shows k.shows) (h.state ∙ sym k.state) (h.goal ∙ sym k.goal);
      desks = same_at_desk determined;
    }
