-- The two ways of a make and of a withdrawal, as one. Assumes nothing.
use mathlib.Core.Path.{◌≡◌, refl, ◌∙◌}
use mathlib.Core.Bool.{Bool, true, false, ◌&&◌}
use mathlib.Core.List.{List, []}
use Prim.Native.Nat.{ℕ}
use lib.Dec.{eqb}
use lib.ListN.{length}
use borrow.Author.Tests.{eqb-true, eq-eqb}
use Rattle.statements.specs.Plants.{plant_of, plant_fault}
use Rattle.statements.specs.Books.{made_book, withdrawn_book, dropped_states}
use Rattle.statements.specs.Index.{index_bytes, same_bytes, index_fault}
use Rattle.statements.specs.Calls.{make_fault, withdraw_fault, by_index}
use Rattle.sets.proofs.Tests.{same_test, and_true, and_left, and_iff}
use Rattle.decoding.proofs.Faults.{first_iff, when_iff}
use Rattle.decoding.proofs.Indexed.{same_iff, by_parts}
use Rattle.graph.specs.Packed.{lent, accepts}
use Rattle.promises.specs.Answers.{Answer}
use Rattle.promises.specs.Says.{Writes, Says}
use Rattle.books.specs.Ways.{number_by, make_ask, withdraw_ask}

-- a call is accepted by an index only where the plain one is
pub plain_passed : (indexed : Bool) (index s : List ℕ) (plain : ℕ) → number_by indexed index s plain ≡ 0 → plain ≡ 0
plain_passed true index s plain h = (by_parts s index plain h).2
plain_passed false index s plain h = h

-- a call whose plain number is that of the plant is accepted exactly where the plant is, and the index that is lent
pub by_exactly : (indexed : Bool) (index s : List ℕ) (plain : ℕ) → plain ≡ plant_fault s
    → accepts indexed index s ≡ eqb (number_by indexed index s plain) 0
unfolding accepts lent by_index index_fault
by_exactly true index s plain left =
    let same = same_bytes index (index_bytes (plant_of s)) in
    same_test (eqb (plant_fault s) 0 && same) (eqb (by_index s index plain) 0)
    (λ h.
    let t = (and_iff (eqb (plant_fault s) 0) same).0 h in
    let z = eqb-true (plant_fault s) 0 t.0 in
    eq-eqb _ _
    ((first_iff (plant_fault s) _).1
    (z, (first_iff (index_fault (plant_of s) index) plain).1 ((when_iff same 9).1 t.1, left ∙ z))))
    (λ h.
    let z = by_parts s index plain (eqb-true _ _ h) in
    and_true (eq-eqb _ _ z.0) ((same_iff index (index_bytes (plant_of s))).1 z.1))
by_exactly false index s plain left =
    same_test (eqb (plant_fault s) 0 && true) (eqb plain 0)
    (λ h. rw left (and_left (eqb (plant_fault s) 0) true h))
    (λ h. and_true (rw left at h) refl)

-- what a make writes by its number is what it says, and so for a withdrawal
pub make_says : (indexed : Bool) (index s : List ℕ) (mask : ℕ) {o o' : List ℕ} {r : Answer}
    → Writes (number_by indexed index s (make_fault s mask (length o))) (made_book (plant_of s) mask) [] o o' [] [] r
    → Says s [] (make_ask indexed index mask) o o' [] [] r
make_says true index s mask w = record { writes = w }
make_says false index s mask w = record { writes = w }

pub withdraw_says : (indexed : Bool) (index s b : List ℕ) (gone : ℕ) {o o' d d' : List ℕ} {r : Answer}
    → let after = withdrawn_book (plant_of s) b gone in
    Writes (number_by indexed index s (withdraw_fault s b gone (length o) (length d))) after (dropped_states b after)
    o o' d d' r
    → Says s b (withdraw_ask indexed index gone) o o' d d' r
withdraw_says true index s b gone w = record { writes = w }
withdraw_says false index s b gone w = record { writes = w }
