-- The tables of request (ix): small plants that settle, with their books and what is read from these, and what the calls
-- answer to them. Plants and books are written as their two-byte numbers.
use Rattle.std.specs.Prelude.{◌≡◌, true, false, List, [], ◌∷◌, ℕ, ◌-◌, take, drop}
use Rattle.statements.specs.Plants.{plant_of, labels_ok, plant_fault}
use Rattle.statements.specs.Books.{bytes_of, row_place, row_long, wait_at, move_at, stage_at, rows_ok, book_fault}
use Rattle.statements.specs.Books.{arrive, good_moves, made_book, withdrawn_book, returned_book}
use Rattle.statements.specs.Books.{dropped_states, gained_states}
use Rattle.statements.specs.Calls.{book_room, alike, make_fault, withdraw_fault, return_fault, preview_fault}
use Rattle.statements.specs.Calls.{consult_fault, moves_fault, row_part}
use Rattle.statements.specs.Marked.{plant_loop, book_m1}

-- one state with this label and the arrow (0,0,0), and this last header number; a book for it with this stage and entry
unfoldable pub plant_one : ℕ → ℕ → List ℕ
plant_one last label = bytes_of (1 ∷ 1 ∷ 1 ∷ 1 ∷ 16 ∷ 18 ∷ 24 ∷ last ∷ label ∷ 0 ∷ 0 ∷ 0 ∷ [])

unfoldable pub book_one : ℕ → ℕ → ℕ → ℕ → List ℕ
book_one count stage wait move = bytes_of (1 ∷ 1 ∷ 1 ∷ count ∷ 1 ∷ 0 ∷ 16 ∷ 22 ∷ stage ∷ wait ∷ move ∷ [])

-- state 0 is in the goal and not settled, state 1 in the goal and settled; 0 may stay by move 0 or go to 1 by move 1
unfoldable pub plant_leave : List ℕ
plant_leave = bytes_of (2 ∷ 2 ∷ 1 ∷ 3 ∷ 16 ∷ 20 ∷ 38 ∷ 1 ∷ 3 ∷ 515 ∷ 0 ∷ 0 ∷ 0 ∷ 0 ∷ 1 ∷ 1 ∷ 1 ∷ 0 ∷ 1 ∷ [])

-- from the settled goal state 0 the one move may lead to state 1, which is not settled, again and again
unfoldable pub plant_unfair : List ℕ
plant_unfair = bytes_of (2 ∷ 1 ∷ 1 ∷ 3 ∷ 16 ∷ 20 ∷ 38 ∷ 1 ∷ 515 ∷ 1 ∷ 0 ∷ 0 ∷ 0 ∷ 0 ∷ 0 ∷ 1 ∷ 1 ∷ 0 ∷ 0 ∷ [])

-- 0 to 1 to 2, and 2 stays: the last alone is settled, and in the goal
unfoldable pub plant_down : List ℕ
plant_down = bytes_of (3 ∷ 1 ∷ 1 ∷ 3 ∷ 16 ∷ 22 ∷ 40 ∷ 1 ∷ 1 ∷ 1 ∷ 515 ∷ 0 ∷ 0 ∷ 1 ∷ 1 ∷ 0 ∷ 2 ∷ 2 ∷ 0 ∷ 2 ∷ [])

-- 0, 2 and 3 are settled, 1 and 3 in the goal: from 0 by move 0 to 1 and by move 1 to 2, from both to 3, which stays
unfoldable pub plant_detour : List ℕ
plant_detour =
    bytes_of
    (4 ∷ 2 ∷ 1 ∷ 5 ∷ 16 ∷ 24 ∷ 54 ∷ 1 ∷ 513 ∷ 3 ∷ 513 ∷ 515 ∷ 0 ∷ 0 ∷ 1 ∷ 0 ∷ 1 ∷ 2 ∷ 1 ∷ 0 ∷ 3 ∷ 2 ∷ 0 ∷ 3 ∷ 3 ∷ 0 ∷
    3 ∷ [])

-- its books with both moves and with move 0 alone
unfoldable pub book_detour : List ℕ
book_detour =
    bytes_of (4 ∷ 2 ∷ 1 ∷ 4 ∷ 3 ∷ 0 ∷ 16 ∷ 40 ∷ 1 ∷ 2 ∷ 1 ∷ 2 ∷ 0 ∷ 0 ∷ 1 ∷ 1 ∷ 0 ∷ 1 ∷ 0 ∷ 0 ∷ [])

unfoldable pub book_detour0 : List ℕ
book_detour0 =
    bytes_of (4 ∷ 2 ∷ 1 ∷ 4 ∷ 1 ∷ 0 ∷ 16 ∷ 40 ∷ 2 ∷ 1 ∷ 0 ∷ 2 ∷ 0 ∷ 0 ∷ 1 ∷ 1 ∷ 0 ∷ 1 ∷ 0 ∷ 0 ∷ [])

-- state 0 is settled and may stay, or go by one move to 1 or 2; from 1, which is not settled, to 2, the settled goal
unfoldable pub plant_mixed : List ℕ
plant_mixed =
    bytes_of
    (3 ∷ 2 ∷ 1 ∷ 5 ∷ 16 ∷ 22 ∷ 52 ∷ 1 ∷ 513 ∷ 1 ∷ 515 ∷ 0 ∷ 0 ∷ 0 ∷ 0 ∷ 1 ∷ 1 ∷ 0 ∷ 1 ∷ 2 ∷ 1 ∷ 0 ∷ 2 ∷ 2 ∷ 0 ∷ 2 ∷ [])

-- two goals: 0 is settled and in goal 0, may stay, or go to 1 by move 1; from 1, which is not settled, by move 0 to 2,
-- which is settled, in both goals and stays, and by move 1 back to 0
unfoldable pub plant_two : List ℕ
plant_two =
    bytes_of
    (3 ∷ 2 ∷ 2 ∷ 5 ∷ 16 ∷ 22 ∷ 52 ∷ 1 ∷ 515 ∷ 1 ∷ 519 ∷ 0 ∷ 0 ∷ 0 ∷ 0 ∷ 1 ∷ 1 ∷ 1 ∷ 0 ∷ 2 ∷ 1 ∷ 1 ∷ 0 ∷ 2 ∷ 0 ∷ 2 ∷ [])

unfoldable pub book_two : List ℕ
book_two =
    bytes_of
    (3 ∷ 2 ∷ 2 ∷ 3 ∷ 3 ∷ 0 ∷ 16 ∷ 46 ∷ 2 ∷ 0 ∷ 0 ∷ 1 ∷ 1 ∷ 2 ∷ 0 ∷ 0 ∷ 0 ∷ 0 ∷ 1 ∷ 0 ∷ 0 ∷ 0 ∷ 0 ∷ [])

-- the same with row 1 of stage 1, and with row 1 lost, which nobody made
unfoldable pub book_two_low : List ℕ
book_two_low =
    bytes_of
    (3 ∷ 2 ∷ 2 ∷ 3 ∷ 3 ∷ 0 ∷ 16 ∷ 46 ∷ 2 ∷ 0 ∷ 0 ∷ 1 ∷ 1 ∷ 1 ∷ 0 ∷ 0 ∷ 0 ∷ 0 ∷ 1 ∷ 0 ∷ 0 ∷ 0 ∷ 0 ∷ [])

unfoldable pub book_two_lost : List ℕ
book_two_lost =
    bytes_of
    (3 ∷ 2 ∷ 2 ∷ 2 ∷ 3 ∷ 0 ∷ 16 ∷ 46 ∷ 2 ∷ 0 ∷ 0 ∷ 1 ∷ 1 ∷ 65535 ∷ 65535 ∷ 65535 ∷ 65535 ∷ 65535 ∷ 1 ∷ 0 ∷ 0 ∷ 0 ∷ 0 ∷
    [])

-- and with row 1 above wait 0, which nobody made either
unfoldable pub book_two_high : List ℕ
book_two_high =
    bytes_of
    (3 ∷ 2 ∷ 2 ∷ 3 ∷ 3 ∷ 0 ∷ 16 ∷ 46 ∷ 2 ∷ 0 ∷ 0 ∷ 1 ∷ 1 ∷ 2 ∷ 5 ∷ 0 ∷ 5 ∷ 0 ∷ 1 ∷ 0 ∷ 0 ∷ 0 ∷ 0 ∷ [])

-- a book without stages for one state
unfoldable pub book_plain : List ℕ
book_plain = bytes_of (1 ∷ 1 ∷ 1 ∷ 1 ∷ 1 ∷ 0 ∷ 16 ∷ 20 ∷ 0 ∷ 0 ∷ [])

-- a book gives for a state and a goal sought the move and the wait of the goal arrived at, and that goal
pub record Advises (b : List ℕ) (x i move wait seek : ℕ) : Type 0 where
  pub move_is : move_at b x (arrive b x i) ≡ move
  pub wait_is : wait_at b x (arrive b x i) ≡ wait
  pub seek_is : arrive b x i ≡ seek

-- all good moves in the plant with two goals, for the goal arrived at
unfoldable pub goods : List ℕ → ℕ → ℕ → ℕ
goods b x i = good_moves (plant_of plant_two) b x (arrive b x i)

-- the bytes of a state's row
unfoldable pub row_bytes : List ℕ → ℕ → List ℕ
row_bytes b x = take (row_long b) (drop (row_place b x) b)

pub record MarkedStages : Type 0 where
  -- a state that is not settled is kept where it can leave for an earlier stage, and takes that move and not a lower one
  pub leave : made_book (plant_of plant_leave) 3
      ≡ bytes_of (2 ∷ 2 ∷ 1 ∷ 2 ∷ 3 ∷ 0 ∷ 16 ∷ 28 ∷ 2 ∷ 0 ∷ 1 ∷ 1 ∷ 0 ∷ 0 ∷ [])
  -- again and again settled is not settled for good
  pub unfair : made_book (plant_of plant_unfair) 1
      ≡ bytes_of (2 ∷ 1 ∷ 1 ∷ 0 ∷ 1 ∷ 0 ∷ 16 ∷ 28 ∷ 65535 ∷ 65535 ∷ 65535 ∷ 65535 ∷ 65535 ∷ 65535 ∷ [])
  -- as many stages as states
  pub down : made_book (plant_of plant_down) 1
      ≡ bytes_of (3 ∷ 1 ∷ 1 ∷ 3 ∷ 1 ∷ 0 ∷ 16 ∷ 34 ∷ 3 ∷ 0 ∷ 0 ∷ 2 ∷ 0 ∷ 0 ∷ 1 ∷ 0 ∷ 0 ∷ [])
  -- no way through a later stage, though the goal is nearer there
  pub detour : made_book (plant_of plant_detour) 3 ≡ book_detour
  -- a wait ends at a state of the same stage that can leave; arrows of one move into both stages
  pub mixed : made_book (plant_of plant_mixed) 3
      ≡ bytes_of (3 ∷ 2 ∷ 1 ∷ 3 ∷ 3 ∷ 0 ∷ 16 ∷ 34 ∷ 2 ∷ 1 ∷ 1 ∷ 2 ∷ 0 ∷ 0 ∷ 1 ∷ 0 ∷ 0 ∷ [])
  -- a goal in the stage itself
  pub two : made_book (plant_of plant_two) 3 ≡ book_two
  -- a withdrawal raises a stage and lowers a wait; the moves returned give the book back
  pub withdrawn : withdrawn_book (plant_of plant_detour) book_detour 2 ≡ book_detour0
  pub none_dropped : dropped_states book_detour book_detour0 ≡ []
  pub returned : returned_book (plant_of plant_detour) book_detour0 2 ≡ book_detour
  -- a withdrawal within the states that a book keeps: without state 1 state 0 is lost, and the stages of the book
  -- handed in have no part in it
  pub dropped_states_lem : dropped_states book_two_lost (withdrawn_book (plant_of plant_two) book_two_lost 0) ≡ 0 ∷ []
  pub old_stages : withdrawn_book (plant_of plant_two) book_two_low 0 ≡ book_two
  pub gained_states_lem : gained_states book_two_lost (returned_book (plant_of plant_two) book_two_lost 0) ≡ 1 ∷ []
  -- a state that the old book keeps and that is not allowed, though settled, is lost
  pub not_allowed : withdrawn_book (plant_of (plant_one 1 514)) (book_one 1 1 0 0) 0 ≡ book_one 0 65535 65535 65535
  -- the goal of wait 0 is passed; where a state can leave all goals are of wait 0, and the sought one stays
  pub passed : Advises book_two 0 0 1 1 1
  pub leaves : Advises book_two 1 1 0 0 1
  -- all good moves: on the way, of a state that can leave those into earlier stages alone, at the goal into no later one
  pub on_the_way : goods book_two 0 0 ≡ 2
  pub leave_alone : goods book_two 1 0 ≡ 1
  pub at_goals : goods book_two 2 0 ≡ 1
  -- in books that nobody made: of stage 1 no state is earlier, and state 0 is in a later one; an end is lost; above wait
  -- 0 too moves into earlier stages are the set
  pub own_rows : goods book_two_low 1 0 ≡ 1
  pub earlier_there : goods book_two_low 0 0 ≡ 2
  pub lost_end : goods book_two_lost 0 0 ≡ 0
  pub leave_above_zero : goods book_two_high 1 0 ≡ 1
  -- a row opens with its stage
  pub row : row_bytes book_two 0 ≡ bytes_of (2 ∷ 0 ∷ 0 ∷ 1 ∷ 1 ∷ [])
  pub row_one : row_bytes book_detour 1 ≡ bytes_of (2 ∷ 0 ∷ 0 ∷ [])
  pub stage_is : stage_at book_two 0 ≡ 2
  pub no_stage : stage_at book_m1 0 ≡ 1
  -- the last header number tells the sort of a plant
  pub sort : (plant_of (plant_one 1 3)).settles ≡ true
  pub plain_sort : (plant_of (plant_one 0 3)).settles ≡ false
  -- labels: bit 9 is free where the plant settles, and there alone; bits 8 and 10 are not, but bit 8 is goal 7's
  pub free : labels_ok true 1 (515 ∷ []) ≡ true
  pub not_free : labels_ok false 1 (515 ∷ []) ≡ false
  pub bit_eight : labels_ok true 1 (259 ∷ []) ≡ false
  pub bit_ten : labels_ok true 1 (1539 ∷ []) ≡ false
  pub eight_goals : labels_ok true 8 (1023 ∷ []) ≡ true
  -- rows: stages 0 and S + 1, a lost row with a stage, a row with the mark for a stage; but stage S is right, also with
  -- fewer than S states kept
  pub most : rows_ok (book_one 1 1 0 0) ≡ true
  pub stage_zero : rows_ok (book_one 1 0 0 0) ≡ false
  pub stage_past : rows_ok (book_one 1 2 0 0) ≡ false
  pub lost : rows_ok (book_one 0 65535 65535 65535) ≡ true
  pub lost_with_stage : rows_ok (book_one 0 1 65535 65535) ≡ false
  pub mark_for_stage : rows_ok (book_one 1 65535 0 0) ≡ false
  pub lost_by_stage : rows_ok (book_one 0 65535 0 0) ≡ false
  pub stage_most : rows_ok (bytes_of (2 ∷ 1 ∷ 1 ∷ 1 ∷ 1 ∷ 0 ∷ 16 ∷ 28 ∷ 2 ∷ 0 ∷ 0 ∷ 65535 ∷ 65535 ∷ 65535 ∷ [])) ≡ true
  -- a book of the other sort is unlike the plant, with the same S, U and N
  pub plain_unlike : alike (plant_of (plant_loop 3)) (book_one 1 1 0 0) ≡ false
  pub staged_unlike : alike (plant_of (plant_one 1 515)) book_plain ≡ false
  pub staged_alike : alike (plant_of (plant_one 1 515)) (book_one 1 1 0 0) ≡ true
  -- the buffer limit has the stages
  pub room : book_room (plant_of plant_two) 46 ≡ true
  pub short : book_room (plant_of plant_two) 45 ≡ false

-- what make answers for a buffer of just a book's length, and of a byte less
pub record Answers (s : List ℕ) (mask room : ℕ) : Type 0 where
  pub exact : make_fault s mask room ≡ 0
  pub short : make_fault s mask (room - 1) ≡ 7

-- what the calls answer
pub record AnsweredStages : Type 0 where
  pub leave : Answers plant_leave 3 28
  pub unfair : Answers plant_unfair 1 28
  pub down : Answers plant_down 1 34
  pub detour : Answers plant_detour 3 40
  pub mixed : Answers plant_mixed 3 34
  pub two : Answers plant_two 3 46
  pub withdrawn : withdraw_fault plant_detour book_detour 2 40 8 ≡ 0
  pub returned : return_fault plant_detour book_detour0 2 40 8 ≡ 0
  pub not_allowed : withdraw_fault (plant_one 1 514) (book_one 1 1 0 0) 0 22 2 ≡ 0
  pub consulted : consult_fault book_two 1 1 ≡ 0
  pub moves_low : moves_fault plant_two book_two_low 1 0 ≡ 0
  pub moves_lost : moves_fault plant_two book_two_lost 0 0 ≡ 0
  pub moves_high : moves_fault plant_two book_two_high 1 0 ≡ 0
  pub row : row_part book_two 0 ≡ row_bytes book_two 0
  pub lost_row_lem : row_part book_two_lost 1 ≡ bytes_of (65535 ∷ 65535 ∷ 65535 ∷ 65535 ∷ 65535 ∷ [])
  pub no_row : row_part book_two 3 ≡ []
  -- plants: the last header number 2; bit 9; bits 8 and 10
  pub last_two : plant_fault (plant_one 2 3) ≡ 1
  pub free : plant_fault (plant_one 1 515) ≡ 0
  pub not_free : plant_fault (plant_one 0 515) ≡ 2
  pub bit_eight : plant_fault (plant_one 1 259) ≡ 2
  pub bit_ten : plant_fault (plant_one 1 1539) ≡ 2
  -- books: of the other sort; stages 0 and S + 1, a lost row with a stage, a row with the mark for a stage
  pub other_sort : withdraw_fault plant_two book_m1 0 0 0 ≡ 4
  pub plain_book : withdraw_fault (plant_one 1 515) book_plain 0 0 0 ≡ 4
  pub plain_unlike : preview_fault (plant_loop 3) (book_one 1 1 0 0) 0 2 ≡ 4
  pub most : book_fault (book_one 1 1 0 0) ≡ 0
  pub stage_zero : book_fault (book_one 1 0 0 0) ≡ 5
  pub stage_past : book_fault (book_one 1 2 0 0) ≡ 5
  pub lost : book_fault (book_one 0 65535 65535 65535) ≡ 0
  pub lost_with_stage : book_fault (book_one 0 1 65535 65535) ≡ 5
  pub mark_for_stage : book_fault (book_one 1 65535 0 0) ≡ 5
