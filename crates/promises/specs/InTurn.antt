-- What a list of withdrawals has to do with its single ones, and with one of all moves that its masks name: the
-- contracts against each other. The book lent may be one that nobody made.
use Rattle.std.specs.Prelude.{◌≡◌, true, List, ℕ, length, take}
use Rattle.promises.specs.Answers.{Answer}
use Rattle.statements.specs.Sets.{is_in}
use Rattle.statements.specs.Books.{masks_of, union_of}
use Rattle.statements.specs.Calls.{whole_masks, singles}
use Rattle.promises.specs.Says.{WithdrawSays, WithdrawListSays, Lists}
use Rattle.promises.specs.Traces.{Step, Trace, numbers_in, calls_of, last_book}

pub record InTurnTraced : Type 0 where
  -- single withdrawals that went, one for each mask of an accepted list, with buffers as long as its own, each handed
  -- the book of the one before: none is refused, and the last book is the one that the list wrote
  pub singly : {s b masks o o' d d' : List ℕ} {r : Answer} → WithdrawListSays s b masks o o' d d' r →
      r.number ≡ 0 → (steps : List Step) → Trace s b steps →
      calls_of steps ≡ singles (masks_of masks) (length o) (length d) →
      ((number : ℕ) → is_in number (numbers_in steps) ≡ true → number ≡ 0) × (last_book b steps ≡ take r.length o')
  -- unless it is refused for its length, a list answers, and leaves in its buffers, what one withdrawal of all moves
  -- that its masks name does
  pub at_once : {s b masks o o' d d' : List ℕ} {r : Answer} → WithdrawListSays s b masks o o' d d' r →
      whole_masks masks ≡ true → WithdrawSays s b (union_of (masks_of masks)) o o' d d' r
  -- the drop list of an accepted list: the states kept at the start and lost at the end
  pub listed : {s b masks o o' d d' : List ℕ} {r : Answer} → WithdrawListSays s b masks o o' d d' r →
      r.number ≡ 0 → Lists s b (take r.length o') d d' r.drops
