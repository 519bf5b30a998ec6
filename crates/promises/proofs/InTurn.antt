-- A list of withdrawals, against its single ones and against one of all moves that its masks name. Assumes nothing.
use mathlib.Core.Path.{◌≡◌, sym, ap, ◌∙◌}
use mathlib.Core.Logic.{inl, inr}
use mathlib.Core.Bool.{true}
use mathlib.Core.List.{List}
use Prim.Native.Nat.{ℕ}
use lib.ListN.{length}
use borrow.Author.Tests.{ne_eqb}
use Rattle.statements.specs.Plants.{plant_of}
use Rattle.statements.specs.Books.{masks_of, union_of, withdrawn_book, withdrawn_list, dropped_states}
use Rattle.statements.specs.Calls.{whole_masks, lent_fault, withdraw_list_fault, standing}
use Rattle.sets.proofs.Tests.{same_number}
use Rattle.decoding.proofs.Faults.{list_as, list_parts, list_masks}
use Rattle.demands.proofs.InTurn.{list_book, in_turn_lem}
use Rattle.promises.specs.Answers.{Answer}
use Rattle.promises.specs.Says.{Writes, WithdrawSays, WithdrawListSays}
use Rattle.promises.specs.InTurn.{InTurnTraced}
use Rattle.promises.proofs.Read.{no_fault, book_read}
use Rattle.promises.proofs.Listed.{lists_dropped}
use Rattle.promises.proofs.Traces.{trace_book, trace_answers}

-- what a call says may be put otherwise: the same number and, if it is accepted, the same book and the same states
writes_as : {number number' : ℕ} {after after' listed listed' o o' d d' : List ℕ} {r : Answer}
    → Writes number after listed o o' d d' r → number ≡ number'
    → (number ≡ 0 → (after ≡ after') × (listed ≡ listed')) → Writes number' after' listed' o o' d d' r
writes_as {r = r} says e same =
    elim (same_number r.number 0) [
      | inl z ↦
          let s = same (sym says.number ∙ z) in
          record {
            number = says.number ∙ e;
            length_is = rw s.0 at says.length_is;
            drops = rw s.1 at says.drops;
            book = rw s.0 at says.book;
            list = rw s.1 at says.list;
          }
      | inr h ↦
          let no = ne_eqb r.number 0 h in
          record {
            number = says.number ∙ e;
            length_is = rw no (rw no at says.length_is);
            drops = rw no (rw no at says.drops);
            book = rw no (rw no at says.book);
            list = rw no (rw no at says.list);
          }
    ]

-- the book, and the states dropped, of a whole list are those of one withdrawal
same_book : (s b m : List ℕ) → lent_fault s b ≡ 0 → whole_masks m ≡ true
    → let list = withdrawn_list (plant_of s) b m in
    let once = withdrawn_book (plant_of s) b (union_of (masks_of m)) in
    (list ≡ once) × (dropped_states b list ≡ dropped_states b once)
same_book s b m lent whole = let e = list_book s b m lent whole in (e, ap (dropped_states b) e)

module _ {s b m o o' d d' : List ℕ} {r : Answer} where
  -- a whole list is said as one withdrawal
  as_one : WithdrawListSays s b m o o' d d' r → whole_masks m ≡ true
      → WithdrawSays s b (union_of (masks_of m)) o o' d d' r
  as_one says whole =
      record {
        writes =
            writes_as says.writes (list_as s b m (length o) (length d) whole)
            (λ z. same_book s b m (list_parts s b m (length o) (length d) z).0 whole);
      }

  -- and one withdrawal, if the list is accepted, as the list
  pub as_list : WithdrawSays s b (union_of (masks_of m)) o o' d d' r
      → withdraw_list_fault s b m (length o) (length d) ≡ 0 → WithdrawListSays s b m o o' d d' r
  as_list says fine =
      let whole = (list_masks s b m (length o) (length d) fine).0 in
      let same = same_book s b m (list_parts s b m (length o) (length d) fine).0 whole in
      record {
        writes =
            writes_as says.writes (sym (list_as s b m (length o) (length d) whole))
            (λ z. (sym same.0, sym same.1));
      }

  -- an accepted list
  pub accepted_one : WithdrawListSays s b m o o' d d' r → r.number ≡ 0
      → WithdrawSays s b (union_of (masks_of m)) o o' d d' r
  accepted_one says z = as_one says (list_masks s b m (length o) (length d) (no_fault says.writes z)).0

pub in_turn_traced : InTurnTraced
in_turn_traced =
    record {
      singly = λ {s} {b} {masks = m} {o} {o'} {d} says z steps goes calls.
          let fine = no_fault says.writes z in (
            λ number h.
                in_turn_lem.each_accepted s b m (length o) (length d) fine number
                (rw (trace_answers s b steps goes, calls) at h),
            trace_book s b steps goes ∙ ap (standing s b) calls ∙ in_turn_lem.stands s b m (length o) (length d) fine
                ∙ sym (book_read says.writes z),
          );
      at_once = as_one;
      listed = λ says z. lists_dropped (accepted_one says z) z;
    }
