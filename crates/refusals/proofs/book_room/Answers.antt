-- The buffer is compared with the length of the plant's books.
use mathlib.Core.Path.{ap}
use Prim.Native.Nat.{ℕ}
use lib.Dec.{leb}
use Rattle.statements.specs.Calls.{book_room}
use Rattle.refusals.proofs.book_room.Goals as goal

pub returns : goal.returns
unfolding book_room
returns c = ap (λ (n : ℕ). leb n c.args.room) c.book_long.ensures
