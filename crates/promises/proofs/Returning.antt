-- A return, against a make with the same moves in service, against a withdrawal of the same mask and against the
-- withdrawal that it undoes. Assumes nothing.
use mathlib.Core.Path.{◌≡◌, sym, ap, ap₂, ◌∙◌}
use mathlib.Core.List.{List}
use Prim.Native.Nat.{ℕ, ◌+◌}
use lib.ListN.{length, take}
use lib.Bits.{bit_or}
use Rattle.statements.specs.Plants.{words, plant_of}
use Rattle.statements.specs.Books.{book_count, book_mask, made_book, withdrawn_book, returned_book, gained_states}
use Rattle.statements.specs.Books.{dropped_states}
use Rattle.statements.specs.Calls.{make_fault, withdraw_fault}
use Rattle.decoding.proofs.Faults.{withdraw_make}
use Rattle.demands.proofs.Returning.{returning}
use Rattle.promises.specs.Answers.{Answer}
use Rattle.promises.specs.Says.{MakeSays, WithdrawSays, ReturnSays}
use Rattle.promises.specs.Traces.{Begun, book_after, service_after}
use Rattle.promises.specs.Returning.{ReturningTraced}
use Rattle.promises.proofs.Read.{made_read, no_fault, book_read, drops_are, list_is}
use Rattle.promises.proofs.Listed.{list_read, lists_gained}
use Rattle.promises.proofs.Traces.{demand_3_traced}

-- a make beside an accepted return
as_made : {s b o o' d d' q q' : List ℕ} {back : ℕ} {r m : Answer} → ReturnSays s b back o o' d d' r → r.number ≡ 0
    → MakeSays s (bit_or (book_mask b) back) q q' m → length q ≡ length o
    → (m.number ≡ 0) × (take m.length q' ≡ take r.length o')
as_made {s} {b} {o} {d = d} {q = q} {back = back} {m = m} says z made same =
    let afresh = returning.afresh s b back (length o) (length d) (no_fault says.writes z) in
    let mask = bit_or (book_mask b) back in
    let accepted : m.number ≡ 0 = made.writes.number ∙ ap (make_fault s mask) same ∙ afresh.0 in
    (accepted, made_read made accepted ∙ sym afresh.1 ∙ sym (book_read says.writes z))

-- a withdrawal from a book of a making, and the return of the same moves, which were all in service
module _ {s b o o' d d' q q' e e' : List ℕ} {gone mask : ℕ} {w r : Answer}
    (book : b ≡ made_book (plant_of s) mask) (fine : make_fault s mask (length o) ≡ 0) (all : bit_or mask gone ≡ mask)
    (withdrew : WithdrawSays s b gone o o' d d' w) (zw : w.number ≡ 0)
    (returned : ReturnSays s (take w.length o') gone q q' e e' r) (zr : r.number ≡ 0) where
  abbrev After : List ℕ
  After = withdrawn_book (plant_of s) b gone

  -- by the definitions
  undone : (returned_book (plant_of s) After gone ≡ b)
      × (gained_states After (returned_book (plant_of s) After gone) ≡ dropped_states b After)
  undone = rw book (returning.undone s mask (length o) gone fine all)

  book_again : take r.length q' ≡ b
  book_again =
      book_read returned.writes zr
      ∙ ap (λ a. returned_book (plant_of s) a gone) (book_read withdrew.writes zw)
      ∙ undone.0

  same_list : words r.drops e' ≡ words w.drops d'
  same_list =
      list_read _ _ _ _ (drops_are returned.writes zr) (list_is returned.writes zr)
      ∙ ap (λ a. gained_states a (returned_book (plant_of s) a gone)) (book_read withdrew.writes zw)
      ∙ undone.1
      ∙ sym (list_read _ _ _ _ (drops_are withdrew.writes zw) (list_is withdrew.writes zw))

-- a return to a book of a making
gained_adds_up : {s b o o' d d' : List ℕ} {back : ℕ} {r : Answer} (mask : ℕ) → b ≡ made_book (plant_of s) mask
    → make_fault s mask (length o) ≡ 0 → ReturnSays s b back o o' d d' r → r.number ≡ 0
    → book_count b + r.drops ≡ book_count (take r.length o')
gained_adds_up {s} {b} {o} {o'} {d} {back = back} mask book fine says z =
    let w = says.writes in
    let accepted = rw book at (no_fault w z) in
    let sum = returning.adds_up s mask (length o) back (length o) (length d) fine accepted in
    rw (drops_are w z, book_read w z, book) sum

-- with the standing book a call is accepted only where a make with the moves in service is
service_fine : (s : List ℕ) (t : Begun s) (gone room drops : ℕ) → withdraw_fault s (book_after s t) gone room drops ≡ 0
    → make_fault s (service_after s t) room ≡ 0
service_fine s t gone room drops h =
    rw (demand_3_traced.right s t).is_book.mask_is at (withdraw_make s (book_after s t) gone room drops h)

pub returning_traced : ReturningTraced
returning_traced =
    record {
      afresh = as_made;
      number = λ {s} {b} {mask = mask} r w long drops.
          r.writes.number
          ∙ ap₂ (withdraw_fault s b mask) (sym long) (sym drops)
          ∙ sym w.writes.number;
      listed = lists_gained;
      adds_up = λ {s} {o} {d = d} {back = back} t r z.
          gained_adds_up (service_after s t) (demand_3_traced.as_afresh s t)
          (service_fine s t back (length o) (length d) (no_fault r.writes z)) r z;
      undone = λ {s} {o} {d = d} {gone = gone} t w zw all r zr.
          let book = demand_3_traced.as_afresh s t in
          let fine = service_fine s t gone (length o) (length d) (no_fault w.writes zw) in
          (book_again book fine all w zw r zr, same_list book fine all w zw r zr);
    }
