-- The checks of the calls that write a book that are made ahead of loading the plant: all but those of its labels and
-- its arrows, which loading makes.
use Rattle.std.specs.Prelude.{Bool, ◌&&◌, List, ℕ, eqb}
use Rattle.statements.specs.Plants.{plant_of, head_ok}
use Rattle.statements.specs.Books.{mask_ok, book_fault, masks_of, union_of}
use Rattle.statements.specs.Calls.{whole_masks, book_room, drop_room, alike}

-- those of a make: a good header, a mask with no bit at U or above, and room for the book
unfoldable pub make_ahead : List ℕ → ℕ → ℕ → Bool
make_ahead s mask room = head_ok s && (mask_ok (plant_of s).moves mask && book_room (plant_of s) room)

-- those of a withdrawal and of a return: those of a make with the moves named for its mask, room for every state in the
-- drop buffer, and a book that is accepted and is for such a plant
unfoldable pub withdraw_ahead : List ℕ → List ℕ → ℕ → ℕ → ℕ → Bool
withdraw_ahead s b gone room drops =
    (make_ahead s gone room && drop_room (plant_of s) drops) && (alike (plant_of s) b && eqb (book_fault b) 0)

-- those of a list of withdrawals: none of its masks is cut, and those of one withdrawal of all moves that they name
unfoldable pub list_ahead : List ℕ → List ℕ → List ℕ → ℕ → ℕ → Bool
list_ahead s b m room drops = whole_masks m && withdraw_ahead s b (union_of (masks_of m)) room drops
