-- What an accepted call returns and leaves in its buffers: the book that it wrote, and the list of states. Assumes
-- nothing.
use mathlib.Core.Path.{◌≡◌, sym, ap, ◌∙◌}
use mathlib.Core.List.{List}
use Prim.Native.Nat.{ℕ}
use lib.ListN.{length, take}
use borrow.Author.Tests.{eq-eqb}
use Rattle.statements.specs.Sets.{over}
use Rattle.statements.specs.Plants.{plant_of}
use Rattle.statements.specs.Books.{bytes_of, made_book}
use Rattle.sets.proofs.Over.{over_back}
use Rattle.promises.specs.Answers.{Answer}
use Rattle.promises.specs.Says.{MakeSays, Writes}

-- what an accepted call that writes a book and lists states returns, and leaves in its buffers
module _ {number_is : ℕ} {after listed o o' d d' : List ℕ} {r : Answer}
    (says : Writes number_is after listed o o' d d' r) (is_accepted : r.number ≡ 0) where
  pub no_fault : number_is ≡ 0
  no_fault = sym says.number ∙ is_accepted

  -- the book
  pub book_read : take r.length o' ≡ after
  book_read =
      let q = eq-eqb r.number 0 is_accepted in
      ap (take r.length) (rw q at says.book) ∙ over_back after o r.length (rw q at says.length_is)

  -- the number of states listed, and their list
  pub drops_are : r.drops ≡ length listed
  drops_are = rw (eq-eqb r.number 0 is_accepted) at says.drops

  pub list_is : d' ≡ over (bytes_of listed) d
  list_is = rw (eq-eqb r.number 0 is_accepted) at says.list

-- the book of an accepted make
pub made_read : {s o o' : List ℕ} {mask : ℕ} {r : Answer} → MakeSays s mask o o' r → r.number ≡ 0
    → take r.length o' ≡ made_book (plant_of s) mask
made_read says z = book_read says.writes z
