-- Marked examples at the edges: moves at 16 and above, with the last of 32, and a state that a book keeps though the
-- plant does not allow it. Plants and books are written as their two-byte numbers, and so are lists of masks.
use Rattle.std.specs.Prelude.{◌≡◌, List, [], ◌∷◌, ℕ}
use Rattle.statements.specs.Plants.{plant_of}
use Rattle.statements.specs.Books.{bytes_of, good_moves, made_book, withdrawn_book, withdrawn_list, returned_book}
use Rattle.statements.specs.Books.{dropped_states, gained_states}
use Rattle.statements.specs.Calls.{make_fault, withdraw_fault, withdraw_list_fault, return_fault, Ask, Call, makes}
use Rattle.statements.specs.Calls.{withdraws, withdraws_list, returns, in_service}
use Rattle.statements.specs.Marked.{plant_loop}

-- one allowed state in the one goal, U 32: arrows (0,16,0) (0,31,0)
unfoldable pub plant_high : List ℕ
plant_high = bytes_of (1 ∷ 32 ∷ 1 ∷ 2 ∷ 16 ∷ 18 ∷ 30 ∷ 0 ∷ 3 ∷ 0 ∷ 16 ∷ 0 ∷ 0 ∷ 31 ∷ 0 ∷ [])

-- its book with this high half of the mask and 0 for the low one: with the state kept by this move, and lost
unfoldable pub book_high : ℕ → ℕ → List ℕ
book_high high move = bytes_of (1 ∷ 32 ∷ 1 ∷ 1 ∷ 0 ∷ high ∷ 16 ∷ 20 ∷ 0 ∷ move ∷ [])

unfoldable pub lost_high : ℕ → List ℕ
lost_high high = bytes_of (1 ∷ 32 ∷ 1 ∷ 0 ∷ 0 ∷ high ∷ 16 ∷ 20 ∷ 65535 ∷ 65535 ∷ [])

-- what is in service after a call on it with buffers of just their lengths, moves 16 and 31 being in service before
unfoldable pub served_high : Ask → ℕ
served_high ask = in_service (plant_of plant_high) 2147549184 (call ∷ [])
  where
    call : Call
    call = record { ask = ask; room = 20; drops = 2 }

-- move 16 is 65,536 in a mask, move 31 is 2,147,483,648
pub record MarkedHigh : Type 0 where
  -- made with both: all good moves are both, and the listed one is the lower
  pub made : made_book (plant_of plant_high) 2147549184 ≡ book_high 32769 16
  pub good : good_moves (plant_of plant_high) (book_high 32769 16) 0 0 ≡ 2147549184
  -- move 16 withdrawn, move 31, both, and both by a list of two masks
  pub sixteen : withdrawn_book (plant_of plant_high) (book_high 32769 16) 65536 ≡ book_high 32768 31
  pub last : withdrawn_book (plant_of plant_high) (book_high 32769 16) 2147483648 ≡ book_high 1 16
  pub both : withdrawn_book (plant_of plant_high) (book_high 32769 16) 2147549184 ≡ lost_high 0
  pub by_list : withdrawn_list (plant_of plant_high) (book_high 32769 16) (bytes_of (0 ∷ 1 ∷ 0 ∷ 32768 ∷ [])) ≡ lost_high 0
  pub dropped : dropped_states (book_high 32769 16) (lost_high 0) ≡ 0 ∷ []
  -- move 31 returned
  pub returned : returned_book (plant_of plant_high) (lost_high 0) 2147483648 ≡ book_high 32768 31
  pub gained : gained_states (lost_high 0) (book_high 32768 31) ≡ 0 ∷ []
  -- told from the calls: what is in service after each kind of call
  pub after_make : served_high (makes 2147483648) ≡ 2147483648
  pub after_sixteen : served_high (withdraws 65536) ≡ 2147483648
  pub after_last : served_high (withdraws 2147483648) ≡ 65536
  pub after_list : served_high (withdraws_list (bytes_of (0 ∷ 32768 ∷ 0 ∷ 0 ∷ []))) ≡ 65536
  pub after_return : served_high (returns 1073741824) ≡ 3221291008
  -- every mask of 32 bits is accepted, and none above
  pub all_moves : make_fault plant_high 4294967295 20 ≡ 0
  pub none_above : make_fault plant_high 4294967296 20 ≡ 6
  pub withdraw_all : withdraw_fault plant_high (book_high 32769 16) 4294967295 20 2 ≡ 0
  pub list_all : withdraw_list_fault plant_high (book_high 32769 16) (bytes_of (65535 ∷ 65535 ∷ [])) 20 2 ≡ 0
  pub return_all : return_fault plant_high (book_high 32769 16) 4294967295 20 2 ≡ 0

-- the one state is in the goal, with the arrow (0,0,0), and not allowed: a book that nobody made keeps it
unfoldable pub book_forbidden : List ℕ
book_forbidden = bytes_of (1 ∷ 1 ∷ 1 ∷ 1 ∷ 1 ∷ 0 ∷ 16 ∷ 20 ∷ 0 ∷ 0 ∷ [])

unfoldable pub lost_forbidden : List ℕ
lost_forbidden = bytes_of (1 ∷ 1 ∷ 1 ∷ 0 ∷ 1 ∷ 0 ∷ 16 ∷ 20 ∷ 65535 ∷ 65535 ∷ [])

-- a withdrawal of no move drops it
pub record MarkedForbidden : Type 0 where
  pub accepted : withdraw_fault (plant_loop 2) book_forbidden 0 20 2 ≡ 0
  pub book : withdrawn_book (plant_of (plant_loop 2)) book_forbidden 0 ≡ lost_forbidden
  pub dropped : dropped_states book_forbidden lost_forbidden ≡ 0 ∷ []
