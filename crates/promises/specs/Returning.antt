-- What a return has to do with a making, with a withdrawal of the same mask and with the withdrawal that it undoes: the
-- contracts against each other.
use Rattle.std.specs.Prelude.{◌≡◌, List, ℕ, ◌+◌, length, take}
use Rattle.std.specs.Int.Bits.{bit_or}
use Rattle.promises.specs.Answers.{Answer}
use Rattle.statements.specs.Plants.{words}
use Rattle.statements.specs.Books.{book_count, book_mask}
use Rattle.promises.specs.Says.{MakeSays, WithdrawSays, ReturnSays, Lists}
use Rattle.promises.specs.Traces.{Begun, book_after, service_after}

pub record ReturningTraced : Type 0 where
  -- to any book, also one that nobody made: a make with the moves of that book and those returned, and a book buffer as
  -- long, is accepted if the return is, and both write the same book
  pub afresh : {s b o o' d d' q q' : List ℕ} {back : ℕ} {r m : Answer} → ReturnSays s b back o o' d d' r →
      r.number ≡ 0 → MakeSays s (bit_or (book_mask b) back) q q' m → length q ≡ length o →
      (m.number ≡ 0) × (take m.length q' ≡ take r.length o')
  -- a withdrawal of the same mask from the same book, with buffers as long, answers the same number
  pub number : {s b o o' d d' q q' e e' : List ℕ} {mask : ℕ} {r w : Answer} → ReturnSays s b mask o o' d d' r →
      WithdrawSays s b mask q q' e e' w → length q ≡ length o → length e ≡ length d → r.number ≡ w.number
  -- the list of an accepted return: the states kept in the book written and lost in the book handed in
  pub listed : {s b o o' d d' : List ℕ} {back : ℕ} {r : Answer} → ReturnSays s b back o o' d d' r →
      r.number ≡ 0 → Lists s (take r.length o') b d d' r.drops
  -- to the standing book after any list of calls: the states that it keeps and those listed are as many as are kept now
  pub adds_up : {s o o' d d' : List ℕ} {back : ℕ} {r : Answer} (t : Begun s) →
      ReturnSays s (book_after s t) back o o' d d' r → r.number ≡ 0 →
      book_count (book_after s t) + r.drops ≡ book_count (take r.length o')
  -- moves in service withdrawn from the standing book after any list of calls, and returned to the book that this
  -- gives: the book is as it was, and the states listed are those that the withdrawal dropped
  pub undone : {s o o' d d' q q' e e' : List ℕ} {gone : ℕ} {w r : Answer} (t : Begun s) →
      WithdrawSays s (book_after s t) gone o o' d d' w → w.number ≡ 0 →
      bit_or (service_after s t) gone ≡ service_after s t →
      ReturnSays s (take w.length o') gone q q' e e' r → r.number ≡ 0 →
      (take r.length q' ≡ book_after s t) × (words r.drops e' ≡ words w.drops d')
