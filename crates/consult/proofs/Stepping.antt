-- Consulting a step, case by case: refused for what is held, refused for the state that followed, lost, kept. Assumes
-- nothing.
use mathlib.Core.Path.{◌≡◌, sym, ◌∙◌}
use mathlib.Core.Logic.{inl, inr}
use mathlib.Core.Bool.{Bool, true, false}
use mathlib.Core.List.{List}
use Prim.Native.Nat.{ℕ, ◌≤◌, ◌<◌}
use native.Mathlib.Omega.{arith}
use lib.Dec.{eqb}
use borrow.Author.Tests.{ne_eqb, le-leb, lt-leb}
use Rattle.statements.specs.Sets.{is_in}
use Rattle.statements.specs.Plants.{plant_of, plant_fault, ends}
use Rattle.statements.specs.Books.{book_states, book_goals, move_at, is_lost, arrive, book_fault}
use Rattle.statements.specs.Calls.{lent_fault, number_fault, consult_fault, moves_fault}
use Rattle.sets.proofs.Tests.{decided}
use Rattle.winning.proofs.Goals.{arrive_below}
use Rattle.decoding.proofs.Faults.{first_iff, first_given, first_passed, lent_ok}
use Rattle.decoding.proofs.Asked as asked
use Rattle.promises.specs.Answers.{Advice}
use Rattle.promises.specs.Says.{Advises, ConsultSays, step_fault, StepSays}
use Rattle.consult.proofs.Consulted.{Silent, advises_refused, advises_fine, moves_given}

module _ (s b : List ℕ) (x i y : ℕ) {here : Advice} (told : Advises (moves_fault s b x i) b x i here) where
  -- refused for plant, book, or the state and the goal held
  pub step_refused : {next : Advice} → (here.number ≡ 0 → ⊥) → Silent here.number next
      → StepSays s b x i y (record { here = here; leads = false; next = next })
  unfolding step_fault
  step_refused h quiet =
      let same : step_fault s b x i y ≡ here.number =
      first_given (moves_fault s b x i) (number_fault b y 0) (λ z. h (told.number ∙ z)) ∙ sym told.number in
      let no : eqb (step_fault s b x i y) 0 ≡ false = ne_eqb _ _ (λ z. h (sym same ∙ z)) in
      record { here = told; leads = rw no; next = advises_refused (sym same) h quiet }

  -- accepted for them
  module _ (fine : here.number ≡ 0) where
    moves_fine : moves_fault s b x i ≡ 0
    moves_fine = sym told.number ∙ fine

    book_fine : book_fault b ≡ 0
    unfolding moves_fault
    book_fine = (lent_ok s b ((first_iff (lent_fault s b) _).0 moves_fine).0).book

    held : asked.Fine b x i
    held = asked.moves_fine b x i s moves_fine

    step_is : step_fault s b x i y ≡ number_fault b y 0
    unfolding step_fault
    step_is = first_passed (moves_fault s b x i) (number_fault b y 0) moves_fine

    lost_is : here.lost ≡ is_lost b x
    lost_is = told.lost ∙ rw moves_fine

    -- the goal sought next is a goal of the book
    seek_low : here.seek < book_goals b
    seek_low =
        elim (decided (is_lost b x)) [
          | inl l ↦
              let none : here.seek ≡ 0 = told.seek ∙ rw (moves_fine, l) in
              omega (arith, none, held.goal)
          | inr k ↦
              let some : here.seek ≡ arrive b x i = told.seek ∙ rw (moves_fine, k) in
              rw some (arrive_below b x i held.goal)
        ]

    -- refused for the state that followed
    pub step_past : {next : Advice} → book_states b ≤ y → Silent 8 next
        → StepSays s b x i y (record { here = here; leads = false; next = next })
    unfolding number_fault
    step_past h quiet =
        let same : step_fault s b x i y ≡ 8 = step_is ∙ rw (le-leb (book_states b) y h) in
        record { here = told; leads = rw same; next = advises_refused (sym same) (λ z. omega arith) quiet }

    -- accepted for that too
    module _ (low : y < book_states b) where
      pub next_fine : consult_fault b y here.seek ≡ 0
      next_fine = asked.is_fine b y here.seek book_fine low seek_low

      step_fine : step_fault s b x i y ≡ 0
      unfolding number_fault
      step_fine = step_is ∙ rw (lt-leb (book_states b) y low, lt-leb (book_goals b) 0 (omega (arith, held.goal)))

      module _ {next : Advice} (after : ConsultSays b y here.seek next) where
        next_told : Advises (step_fault s b x i y) b y here.seek next
        next_told = advises_fine step_fine next_fine after

        pub step_lost : here.lost ≡ true → StepSays s b x i y (record { here = here; leads = false; next = next })
        step_lost l =
            let gone : is_lost b x ≡ true = sym lost_is ∙ l in
            record { here = told; leads = rw (step_fine, gone); next = next_told }

        pub step_kept : {leads : Bool} → here.lost ≡ false → leads ≡ is_in y (ends (plant_of s) x here.action)
            → StepSays s b x i y (record { here = here; leads = leads; next = next })
        step_kept k e =
            let kept : is_lost b x ≡ false = sym lost_is ∙ k in
            let action : here.action ≡ move_at b x (arrive b x i) = told.action ∙ rw (moves_fine, kept) in
            record { here = told; leads = e ∙ rw (step_fine, kept, action); next = next_told }

      -- what the test of the arrow may rely on
      pub step_given : (plant_fault s ≡ 0) × ((x < (plant_of s).states) × (y < (plant_of s).states))
      unfolding moves_fault
      step_given =
          let given = moves_given s b x i moves_fine in
          let lent = lent_ok s b ((first_iff (lent_fault s b) _).0 moves_fine).0 in
          (given.0, (given.1, omega (arith, low, lent.states)))
