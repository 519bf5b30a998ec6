-- What it gives that a call for a state and a goal is accepted. Assumes nothing.
use mathlib.Core.Path.{◌≡◌, refl}
use mathlib.Core.Bool.{Bool, true, false}
use mathlib.Core.List.{List}
use Prim.Native.Nat.{ℕ, suc, ◌<◌}
use native.Mathlib.Omega.{arith}
use borrow.Author.Tests.{leb-false, lt-leb}
use Rattle.statements.specs.Plants.{when}
use Rattle.statements.specs.Books.{book_states, book_goals, book_fault}
use Rattle.statements.specs.Calls.{lent_fault, number_fault, consult_fault, moves_fault}
use Rattle.sets.proofs.Tests.{or_neither}
use Rattle.decoding.proofs.Faults.{BookOk, book_ok, lent_ok, first_iff}

-- an answer of 0 says that its test fails
when_none : (t : Bool) (n : ℕ) → when t (suc n) ≡ 0 → t ≡ false
when_none true n e = absurd (omega arith)
when_none false n e = refl

module _ (b : List ℕ) (x i : ℕ) where
  -- what an accepted call may rely on
  pub record Fine : Type 0 where
    pub head : BookOk b
    pub state : x < book_states b
    pub goal : i < book_goals b

  -- an accepted call may rely on all that
  in_range : book_fault b ≡ 0 → number_fault b x i ≡ 0 → Fine
  unfolding number_fault
  in_range book e =
      let t = or_neither _ _ (when_none _ 7 e) in
      record {
        head = book_ok b book;
        state = leb-false _ _ t.0;
        goal = leb-false _ _ t.1;
      }

  pub fine : consult_fault b x i ≡ 0 → Fine
  unfolding consult_fault
  fine e = let f = (first_iff (book_fault b) _).0 e in in_range f.0 f.1

  -- and a call is accepted that hands in so much
  pub is_fine : book_fault b ≡ 0 → x < book_states b → i < book_goals b → consult_fault b x i ≡ 0
  unfolding consult_fault number_fault
  is_fine h hx hi = rw (h, lt-leb _ _ hx, lt-leb _ _ hi)

  -- the call for all good moves may rely on as much
  pub moves_fine : (s : List ℕ) → moves_fault s b x i ≡ 0 → Fine
  unfolding moves_fault
  moves_fine s e = let f = (first_iff (lent_fault s b) _).0 e in in_range (lent_ok s b f.0).book f.1
