-- Consulting a book, with the plant or without it, and handing back a row, case by case: refused, lost, kept; and what a
-- call for all good moves is given. Assumes nothing.
use mathlib.Core.Path.{◌≡◌, refl, sym, ap₂, ◌∙◌, subst}
use mathlib.Core.Bool.{true, false}
use mathlib.Core.List.{List}
use Prim.Native.Nat.{ℕ, ◌+◌, ◌-◌, ◌<◌}
use native.Mathlib.Omega.{arith}
use lib.Dec.{eqb}
use lib.ListN.{take, drop}
use borrow.Author.Tests.{ne_eqb}
use Rattle.statements.specs.Plants.{plant_of, plant_fault}
use Rattle.statements.specs.Books.{row_place, row_long, wait_at, move_at, is_lost, arrive}
use Rattle.statements.specs.Calls.{lent_fault, consult_fault, moves_fault, row_part}
use Rattle.decoding.proofs.Faults.{first_iff, lent_ok}
use Rattle.decoding.proofs.Asked.{moves_fine}
use Rattle.std.specs.Prelude.{Option, Result, Err}
use Rattle.refusal.specs.declared.Refusal.{Refusal}
use Rattle.refusal.specs.Numbers.{number_of}
use Rattle.refusal.proofs.Refused.{some_refusal}
use Rattle.promises.specs.declared.NextMove.{NextMove}
use Rattle.promises.specs.Answers.{Advice, advice_of, mask_of}
use Rattle.promises.specs.Says.{accepted, keeps, Advises, ConsultSays, MovesSays}
use Rattle.promises.proofs.Rows.{row_given}

-- a refused call gives no advice
abbrev pub Silent : ℕ → Advice → Type 0
Silent n r = (r.number ≡ n) × (r.lost ≡ false) × (r.action ≡ 0) × (r.wait ≡ 0) × (r.seek ≡ 0)

pub advises_refused : {n m : ℕ} {b : List ℕ} {x i : ℕ} {r : Advice} → m ≡ n → (m ≡ 0 → ⊥) → Silent m r
    → Advises n b x i r
advises_refused {n} e h quiet =
    let no : eqb n 0 ≡ false = ne_eqb n 0 (λ z. h (e ∙ z)) in
    record {
      number = quiet.0 ∙ e;
      lost = rw no quiet.1;
      action = rw no quiet.2;
      wait = rw no quiet.3;
      seek = rw no quiet.4;
    }

-- refused: the number, and no advice
pub silent : (why : Refusal) → Silent (number_of why) (advice_of (Err why))
silent why = (refl, refl, refl, refl, refl)

pub silent_err : (r : Result (Option NextMove) Refusal) (why : Refusal) → r ≡ Err why
    → Silent (advice_of r).number (advice_of r)
silent_err r why e = rw e (silent why)

pub refused_advice : {n : ℕ} {b : List ℕ} {x i : ℕ} (r : Result (Option NextMove) Refusal) (why : Refusal)
    → r ≡ Err why → number_of why ≡ n → Advises n b x i (advice_of r)
refused_advice r why e f = rw e (advises_refused f (some_refusal why) (silent why))

-- consult's own advice, and that of a call that is accepted where consult is
module _ {b : List ℕ} {x i : ℕ} {r : Advice} where
  pub consult_advises : ConsultSays b x i r → Advises (consult_fault b x i) b x i r
  unfolding accepted keeps
  consult_advises says =
      record {
        number = says.number;
        lost = says.lost;
        action = says.action;
        wait = says.wait;
        seek = says.seek;
      }

  pub advises_consult : Advises (consult_fault b x i) b x i r → ConsultSays b x i r
  unfolding accepted keeps
  advises_consult says =
      record {
        number = says.number;
        lost = says.lost;
        action = says.action;
        wait = says.wait;
        seek = says.seek;
      }

  pub advises_fine : {n : ℕ} → n ≡ 0 → consult_fault b x i ≡ 0 → ConsultSays b x i r → Advises n b x i r
  advises_fine {n} e fine says =
      subst (λ (m : ℕ). Advises m b x i r) (fine ∙ sym e) (consult_advises says)

module _ (b : List ℕ) (x i : ℕ) where
  -- consult's answer: lost
  pub says_lost : consult_fault b x i ≡ 0 → is_lost b x ≡ true
      → ConsultSays b x i (record { number = 0; lost = true; action = 0; wait = 0; seek = 0 })
  unfolding accepted keeps
  says_lost e l = record { number = sym e; lost = rw (e, l); action = rw (e, l); wait = rw (e, l); seek = rw (e, l) }

  -- kept
  pub says_kept : consult_fault b x i ≡ 0 → is_lost b x ≡ false
      → (u w g : ℕ) → u ≡ move_at b x g → w ≡ wait_at b x g → g ≡ arrive b x i
      → ConsultSays b x i (record { number = 0; lost = false; action = u; wait = w; seek = g })
  unfolding accepted keeps
  says_kept e l u w g ue we ge =
      record {
        number = sym e;
        lost = rw (e, l);
        action = rw (e, l) (rw ge at ue);
        wait = rw (e, l) (rw ge at we);
        seek = rw (e, l) ge;
      }

-- a row handed back: the part that starts at the row's place
pub row_is : (b : List ℕ) (x at n : ℕ) → consult_fault b x 0 ≡ 0 → at ≡ row_place b x → n ≡ row_long b
    → take (at + n - at) (drop at b) ≡ row_part b x
row_is b x at n given p e =
    let size : at + n - at ≡ row_long b = omega arith in
    ap₂ (λ (m q : ℕ). take m (drop q b)) size p ∙ sym (row_given b x given)

-- an accepted call for all good moves is lent a good plant, and asks for one of its states
pub moves_given : (s b : List ℕ) (x i : ℕ) → moves_fault s b x i ≡ 0 → (plant_fault s ≡ 0) × (x < (plant_of s).states)
unfolding moves_fault
moves_given s b x i e =
    let lent = lent_ok s b ((first_iff (lent_fault s b) _).0 e).0 in
    (lent.plant, omega (arith, (moves_fine b x i s e).state, lent.states))

-- refused, such a call gives no moves
pub refused_moves : {s b : List ℕ} {x i : ℕ} (r : Result ℕ Refusal) (why : Refusal) → r ≡ Err why
    → number_of why ≡ moves_fault s b x i → MovesSays s b x i (mask_of r)
refused_moves r why e f =
    rw e (record { number = f; mask = rw (ne_eqb (number_of why) 0 (some_refusal why)) })
