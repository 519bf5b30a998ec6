-- The marked examples M1 to M11 of document 01 as one table, with M10 as request (v) has it, one of rows, and one each
-- for requests (i) and (iv) to (vii). Plants and books are written as their two-byte numbers, and so are lists of
-- masks.
use Rattle.std.specs.Prelude.{◌≡◌, List, [], ◌∷◌, ◌++◌, ℕ, ◌-◌}
use Rattle.statements.specs.Plants.{plant_of}
use Rattle.statements.specs.Books.{bytes_of, book_count, wait_at, move_at, arrive, good_moves, withdrawn_book}
use Rattle.statements.specs.Books.{dropped_states}
use Rattle.statements.specs.Calls.{withdraw_list_fault, return_fault, preview_fault, consult_fault, moves_fault, row_part}
use Rattle.statements.specs.Calls.{Ask, Call, makes, withdraws, withdraws_list, returns, effect_of, standing}
use Rattle.statements.specs.Calls.{answers, in_service}

-- strip plant P: header, labels 3 1 5 0, then the eight arrows
unfoldable pub plant_p : List ℕ
plant_p =
    bytes_of
    (4 ∷ 3 ∷ 2 ∷ 8 ∷ 16 ∷ 24 ∷ 72 ∷ 0 ∷ 3 ∷ 1 ∷ 5 ∷ 0 ∷ 0 ∷ 0 ∷ 1 ∷ 0 ∷ 1 ∷ 1 ∷ 0 ∷ 1 ∷ 2 ∷ 1 ∷ 0 ∷ 2 ∷ 1 ∷ 1 ∷
    3 ∷ 1 ∷ 2 ∷ 0 ∷ 2 ∷ 0 ∷ 0 ∷ 2 ∷ 2 ∷ 1 ∷ [])

-- one state with this label, U 1, N 1: without an arrow, and with the arrow (0,0,0)
unfoldable pub plant_still : List ℕ
plant_still = bytes_of (1 ∷ 1 ∷ 1 ∷ 0 ∷ 16 ∷ 18 ∷ 18 ∷ 0 ∷ 3 ∷ [])

unfoldable pub plant_loop : ℕ → List ℕ
plant_loop label = bytes_of (1 ∷ 1 ∷ 1 ∷ 1 ∷ 16 ∷ 18 ∷ 24 ∷ 0 ∷ label ∷ 0 ∷ 0 ∷ 0 ∷ [])

-- two allowed states, goal {1}: arrows (0,0,0) (0,0,1) (1,0,1), and the arrow (0,0,1) alone
unfoldable pub plant_may : List ℕ
plant_may = bytes_of (2 ∷ 1 ∷ 1 ∷ 3 ∷ 16 ∷ 20 ∷ 38 ∷ 0 ∷ 1 ∷ 3 ∷ 0 ∷ 0 ∷ 0 ∷ 0 ∷ 0 ∷ 1 ∷ 1 ∷ 0 ∷ 1 ∷ [])

unfoldable pub plant_end : List ℕ
plant_end = bytes_of (2 ∷ 1 ∷ 1 ∷ 1 ∷ 16 ∷ 20 ∷ 26 ∷ 0 ∷ 1 ∷ 3 ∷ 0 ∷ 0 ∷ 1 ∷ [])

-- a book for P: its count, its mask and its rows
unfoldable pub book_p : ℕ → ℕ → List ℕ → List ℕ
book_p count mask rows = bytes_of (4 ∷ 3 ∷ 2 ∷ count ∷ mask ∷ 0 ∷ 16 ∷ 48 ∷ rows)

unfoldable pub lost_row : List ℕ
lost_row = 65535 ∷ 65535 ∷ 65535 ∷ 65535 ∷ []

-- the books of M1 and M2, and that of M1 with row 1 set to lost and K 2
unfoldable pub book_m1 : List ℕ
book_m1 = book_p 3 7 (0 ∷ 0 ∷ 2 ∷ 0 ∷ 1 ∷ 2 ∷ 1 ∷ 0 ∷ 1 ∷ 0 ∷ 0 ∷ 0 ∷ lost_row)

unfoldable pub book_m2 : List ℕ
book_m2 = book_p 3 3 (0 ∷ 0 ∷ 2 ∷ 0 ∷ 2 ∷ 0 ∷ 1 ∷ 0 ∷ 1 ∷ 0 ∷ 0 ∷ 0 ∷ lost_row)

unfoldable pub book_m9 : List ℕ
book_m9 = book_p 2 7 (0 ∷ 0 ∷ 2 ∷ 0 ∷ (lost_row ++ (1 ∷ 0 ∷ 0 ∷ 0 ∷ lost_row)))

-- that of M1, and that of M9, with state 2 serving both goals, which nobody made
unfoldable pub book_both : List ℕ
book_both = book_p 3 7 (0 ∷ 0 ∷ 2 ∷ 0 ∷ 1 ∷ 2 ∷ 1 ∷ 0 ∷ 0 ∷ 0 ∷ 0 ∷ 0 ∷ lost_row)

unfoldable pub book_both9 : List ℕ
book_both9 = book_p 2 7 (0 ∷ 0 ∷ 2 ∷ 0 ∷ (lost_row ++ (0 ∷ 0 ∷ 0 ∷ 0 ∷ lost_row)))

-- that of M1 with state 3 kept, which nobody made
unfoldable pub book_four : List ℕ
book_four = book_p 4 7 (0 ∷ 0 ∷ 2 ∷ 0 ∷ 1 ∷ 2 ∷ 1 ∷ 0 ∷ 1 ∷ 0 ∷ 0 ∷ 0 ∷ 0 ∷ 0 ∷ 0 ∷ 0 ∷ [])

-- one kept state, three moves and three goals with these waits; the move of goal i is i
unfoldable pub book_three : ℕ → ℕ → ℕ → List ℕ
book_three v w z = bytes_of (1 ∷ 3 ∷ 3 ∷ 1 ∷ 7 ∷ 0 ∷ 16 ∷ 28 ∷ v ∷ 0 ∷ w ∷ 1 ∷ z ∷ 2 ∷ [])

-- the same with five and with eight
unfoldable pub book_five : ℕ → ℕ → ℕ → ℕ → ℕ → List ℕ
book_five a b c d e =
    bytes_of (1 ∷ 5 ∷ 5 ∷ 1 ∷ 31 ∷ 0 ∷ 16 ∷ 36 ∷ a ∷ 0 ∷ b ∷ 1 ∷ c ∷ 2 ∷ d ∷ 3 ∷ e ∷ 4 ∷ [])

unfoldable pub book_eight : ℕ → ℕ → ℕ → ℕ → ℕ → ℕ → ℕ → ℕ → List ℕ
book_eight a b c d e f g h =
    bytes_of
    (1 ∷ 8 ∷ 8 ∷ 1 ∷ 255 ∷ 0 ∷ 16 ∷ 48 ∷ a ∷ 0 ∷ b ∷ 1 ∷ c ∷ 2 ∷ d ∷ 3 ∷ e ∷ 4 ∷ f ∷ 5 ∷ g ∷ 6 ∷ h ∷ 7 ∷ [])

unfoldable pub all_lost : ℕ → List ℕ
all_lost mask = book_p 0 mask (lost_row ++ (lost_row ++ (lost_row ++ lost_row)))

-- making with a mask is accepted with a buffer of just the book's length, and gives this book
pub record Makes (s : List ℕ) (mask room : ℕ) (b : List ℕ) : Type 0 where
  pub accepted : (effect_of s [] (makes mask)).number room 0 ≡ 0
  pub short : (effect_of s [] (makes mask)).number (room - 1) 0 ≡ 7
  pub book : (effect_of s [] (makes mask)).book ≡ b
  pub lists_none : (effect_of s [] (makes mask)).list ≡ []

-- a call on a book for P is accepted with buffers of just their lengths, gives this book and lists these states
pub record Does (b : List ℕ) (ask : Ask) (after listed : List ℕ) : Type 0 where
  pub accepted : (effect_of plant_p b ask).number 48 8 ≡ 0
  pub short_book : (effect_of plant_p b ask).number 47 8 ≡ 7
  pub short_list : (effect_of plant_p b ask).number 48 7 ≡ 7
  pub book : (effect_of plant_p b ask).book ≡ after
  pub list : (effect_of plant_p b ask).list ≡ listed

-- withdrawing a mask
abbrev pub Withdraws : List ℕ → ℕ → List ℕ → List ℕ → Type 0
Withdraws b gone after dropped = Does b (withdraws gone) after dropped

-- consulting a book for a state and a goal gives the move and the wait of the goal arrived at, and that goal
pub record Consults (b : List ℕ) (x i move wait seek : ℕ) : Type 0 where
  pub accepted : consult_fault b x i ≡ 0
  pub move_is : move_at b x (arrive b x i) ≡ move
  pub wait_is : wait_at b x (arrive b x i) ≡ wait
  pub seek_is : arrive b x i ≡ seek

pub record Marked : Type 0 where
  pub m1 : Makes plant_p 7 48 book_m1
  pub m2 : Withdraws book_m1 4 book_m2 []
  pub m3 : Withdraws book_m1 1 (all_lost 6) (0 ∷ 1 ∷ 2 ∷ [])
  pub m4 : Withdraws book_m1 2 (book_p 3 5 (0 ∷ 0 ∷ 2 ∷ 0 ∷ 1 ∷ 2 ∷ 1 ∷ 0 ∷ 1 ∷ 0 ∷ 0 ∷ 0 ∷ lost_row)) []
  pub m5 : Makes plant_still 1 20 (bytes_of (1 ∷ 1 ∷ 1 ∷ 0 ∷ 1 ∷ 0 ∷ 16 ∷ 20 ∷ 65535 ∷ 65535 ∷ []))
  pub m6 : Makes (plant_loop 3) 1 20 (bytes_of (1 ∷ 1 ∷ 1 ∷ 1 ∷ 1 ∷ 0 ∷ 16 ∷ 20 ∷ 0 ∷ 0 ∷ []))
  pub m7 : Makes (plant_loop 1) 1 20 (bytes_of (1 ∷ 1 ∷ 1 ∷ 0 ∷ 1 ∷ 0 ∷ 16 ∷ 20 ∷ 65535 ∷ 65535 ∷ []))
  pub m8 : Makes plant_may 1 24 (bytes_of (2 ∷ 1 ∷ 1 ∷ 1 ∷ 1 ∷ 0 ∷ 16 ∷ 24 ∷ 65535 ∷ 65535 ∷ 0 ∷ 0 ∷ []))
  pub m9 : Withdraws book_m9 0 (all_lost 7) (0 ∷ 2 ∷ [])
  pub m10_first : Consults book_m1 0 1 0 2 1
  pub m10_second : Consults book_m1 2 1 0 1 0
  pub m11 : Makes plant_end 1 24 (bytes_of (2 ∷ 1 ∷ 1 ∷ 0 ∷ 1 ∷ 0 ∷ 16 ∷ 24 ∷ 65535 ∷ 65535 ∷ 65535 ∷ 65535 ∷ []))

pub record MarkedArrivals : Type 0 where
  -- a goal that is not served stays, whatever the others are
  pub none : Consults (book_three 4 5 6) 0 1 1 5 1
  pub others : Consults (book_three 0 5 0) 0 1 1 5 1
  -- one served goal is passed, or two, and after the last comes the first
  pub one : Consults (book_three 4 0 6) 0 1 2 6 2
  pub two : Consults (book_three 0 0 6) 0 0 2 6 2
  pub round : Consults (book_three 4 0 0) 0 2 0 4 0
  pub two_round : Consults (book_three 0 5 0) 0 2 1 5 1
  -- but none past the first that is not served
  pub until : Consults (book_three 0 5 0) 0 0 1 5 1
  -- all are served: the sought one stays
  pub all : Consults (book_three 0 0 0) 0 1 1 0 1
  pub last : Consults (book_three 0 0 0) 0 2 2 0 2
  -- of five and of eight goals: on to the last, from the last to the first and on, and all served
  pub five : Consults (book_five 5 0 0 0 7) 0 1 4 7 4
  pub five_round : Consults (book_five 0 0 6 5 0) 0 4 2 6 2
  pub five_all : Consults (book_five 0 0 0 0 0) 0 4 4 0 4
  pub eight : Consults (book_eight 5 0 0 0 0 0 0 7) 0 1 7 7 7
  pub eight_round : Consults (book_eight 0 0 0 4 3 0 0 0) 0 6 3 4 3
  pub eight_all : Consults (book_eight 0 0 0 0 0 0 0 0) 0 7 7 0 7
  -- refused: the goal sought is past the last
  pub no_goal : consult_fault (book_three 0 0 0) 0 3 ≡ 8

-- rows are handed back as bytes
pub record MarkedRows : Type 0 where
  -- in M1's book: 0/0 and 2/0 for state 0, and 1/2 and 1/0 for state 1
  pub first_state : row_part book_m1 0 ≡ 0 ∷ 0 ∷ 0 ∷ 0 ∷ 2 ∷ 0 ∷ 0 ∷ 0 ∷ []
  pub second_state : row_part book_m1 1 ≡ 1 ∷ 0 ∷ 2 ∷ 0 ∷ 1 ∷ 0 ∷ 0 ∷ 0 ∷ []
  -- a lost state's row
  pub lost : row_part book_m1 3 ≡ 255 ∷ 255 ∷ 255 ∷ 255 ∷ 255 ∷ 255 ∷ 255 ∷ 255 ∷ []
  -- the low byte comes first: a wait of 258
  pub low_first : row_part (book_three 258 5 6) 0 ≡ 2 ∷ 1 ∷ 0 ∷ 0 ∷ 5 ∷ 0 ∷ 1 ∷ 0 ∷ 6 ∷ 0 ∷ 2 ∷ 0 ∷ []
  -- refused, and so empty: a state past the last, and a wait of 1,024
  pub no_state : row_part book_m1 4 ≡ []
  pub no_book : row_part (book_three 1024 5 6) 0 ≡ []

-- the call for all good moves on P, a book, a state and a goal is accepted and gives this mask, that of the goal
-- arrived at
pub record Gives (b : List ℕ) (x i mask : ℕ) : Type 0 where
  pub accepted : moves_fault plant_p b x i ≡ 0
  pub moves_are : good_moves (plant_of plant_p) b x (arrive b x i) ≡ mask

pub record MarkedMoves : Type 0 where
  -- above wait 0 every move into smaller waits
  pub on_the_way : Gives book_m1 0 1 3
  -- not one into a kept state that is no nearer, or into a lost one
  pub no_nearer : Gives book_m1 1 0 4
  -- a goal that is served is passed: not the moves of the one sought
  pub passed : Gives book_m1 2 1 1
  -- at wait 0, where all are served, every move into kept states, and not one into a lost one
  pub at_goal : Gives book_both 2 1 5
  pub lost_end : Gives book_both9 2 1 1
  -- not one that is out of service
  pub withdrawn : Gives book_m2 1 0 1
  -- none in a lost state
  pub lost : Gives book_m1 3 0 0
  -- in a book that nobody made: state 1 is lost there, so that a kept state has a move less, or none
  pub partly : Gives book_m9 2 1 1
  pub empty : Gives book_m9 0 0 0
  -- refused: a state and a goal past the last, before them a book for another plant
  pub no_state : moves_fault plant_p book_m1 4 0 ≡ 8
  pub no_goal : moves_fault plant_p book_m1 3 2 ≡ 8
  pub unlike : moves_fault plant_may book_m1 4 0 ≡ 4

-- previewing the withdrawal of a mask from a book for P is accepted with a drop buffer of just 8 bytes, names these
-- states and this K
pub record Costs (b : List ℕ) (gone : ℕ) (dropped : List ℕ) (kept : ℕ) : Type 0 where
  pub accepted : preview_fault plant_p b gone 8 ≡ 0
  pub short : preview_fault plant_p b gone 7 ≡ 7
  pub drops_are : dropped_states b (withdrawn_book (plant_of plant_p) b gone) ≡ dropped
  pub kept_is : book_count (withdrawn_book (plant_of plant_p) b gone) ≡ kept

pub record MarkedPreviews : Type 0 where
  -- of M2, of M3 and of M9, a book that nobody made
  pub none : Costs book_m1 4 [] 3
  pub all : Costs book_m1 1 (0 ∷ 1 ∷ 2 ∷ []) 0
  pub not_made : Costs book_m9 0 (0 ∷ 2 ∷ []) 0
  -- refused: a mask with a move past the last, before it a book for another plant, both before a short buffer
  pub no_move : preview_fault plant_p book_m1 8 7 ≡ 6
  pub unlike : preview_fault plant_may book_m1 8 7 ≡ 4

-- withdrawing a list of masks
abbrev pub WithdrawsList : List ℕ → List ℕ → List ℕ → List ℕ → Type 0
WithdrawsList b masks after dropped = Does b (withdraws_list (bytes_of masks)) after dropped

-- a list of 15 masks of 0
unfoldable pub fifteen : List ℕ
fifteen =
    0 ∷ 0 ∷ 0 ∷ 0 ∷ 0 ∷ 0 ∷ 0 ∷ 0 ∷ 0 ∷ 0 ∷ 0 ∷ 0 ∷ 0 ∷ 0 ∷ 0 ∷ 0 ∷ 0 ∷ 0 ∷ 0 ∷ 0 ∷ 0 ∷ 0 ∷ 0 ∷ 0 ∷ 0 ∷ 0 ∷ 0 ∷ 0 ∷
    0 ∷ 0 ∷ []

pub record MarkedLists : Type 0 where
  -- moves 1 and 2: the rows of M2, and none dropped
  pub two_masks : WithdrawsList book_m1 (2 ∷ 0 ∷ 4 ∷ 0 ∷ [])
      (book_p 3 1 (0 ∷ 0 ∷ 2 ∷ 0 ∷ 2 ∷ 0 ∷ 1 ∷ 0 ∷ 1 ∷ 0 ∷ 0 ∷ 0 ∷ lost_row)) []
  -- move 2, and then move 0: all lost, and the list from the start on
  pub all : WithdrawsList book_m1 (4 ∷ 0 ∷ 1 ∷ 0 ∷ []) (all_lost 2) (0 ∷ 1 ∷ 2 ∷ [])
  -- a move named twice
  pub twice : WithdrawsList book_m1 (4 ∷ 0 ∷ 4 ∷ 0 ∷ []) book_m2 []
  -- an empty list, and one mask of 0: the book of a making stays, and one that nobody made need not
  pub none : WithdrawsList book_m1 [] book_m1 []
  pub zero_mask : WithdrawsList book_m1 (0 ∷ 0 ∷ []) book_m1 []
  pub not_made : WithdrawsList book_m9 [] (all_lost 7) (0 ∷ 2 ∷ [])
  -- sixteen masks are accepted, and the last counts
  pub most : WithdrawsList book_m1 (fifteen ++ (4 ∷ 0 ∷ [])) book_m2 []
  -- refused: seventeen, or a list that is not whole, before a bad mask; a bad mask anywhere, before a short buffer; a
  -- book for another plant before them all
  pub too_many : withdraw_list_fault plant_p book_m1 (bytes_of (fifteen ++ (8 ∷ 0 ∷ 0 ∷ 0 ∷ []))) 47 8 ≡ 9
  pub cut : withdraw_list_fault plant_p book_m1 (255 ∷ 255 ∷ 255 ∷ 255 ∷ 255 ∷ []) 47 8 ≡ 9
  pub first_bad : withdraw_list_fault plant_p book_m1 (bytes_of (8 ∷ 0 ∷ 1 ∷ 0 ∷ [])) 47 8 ≡ 6
  pub last_bad : withdraw_list_fault plant_p book_m1 (bytes_of (1 ∷ 0 ∷ 0 ∷ 1 ∷ [])) 47 8 ≡ 6
  pub unlike : withdraw_list_fault plant_may book_m1 (255 ∷ []) 47 8 ≡ 4

-- returning a mask
abbrev pub Returns : List ℕ → ℕ → List ℕ → List ℕ → Type 0
Returns b back after gained = Does b (returns back) after gained

-- calls with buffers of just their lengths: move 0 withdrawn, a move past the last returned, moves 0 and 2 returned
unfoldable pub out_and_back : List Call
out_and_back = on (withdraws 1) ∷ on (returns 8) ∷ on (returns 5) ∷ []
  where
    on : Ask → Call
    on ask = record { ask = ask; room = 48; drops = 8 }

pub record MarkedReturns : Type 0 where
  -- move 2 back in M2's book, which had lost no state, and move 0 back in M3's, which had lost them all: M1's book
  pub none : Returns book_m2 4 book_m1 []
  pub all : Returns (all_lost 6) 1 book_m1 (0 ∷ 1 ∷ 2 ∷ [])
  -- two moves of three
  pub two_moves : Returns (all_lost 0) 3 book_m2 (0 ∷ 1 ∷ 2 ∷ [])
  -- a move that is not enough, and one that was in service all the time beside one that was not
  pub not_enough : Returns (all_lost 2) 4 (all_lost 6) []
  pub in_service_lem : Returns book_m2 6 book_m1 []
  -- no move: the book of a making stays; in M9's, which nobody made, state 1 comes back
  pub zero_mask : Returns book_m1 0 book_m1 []
  pub not_made : Returns book_m9 0 book_m1 (1 ∷ [])
  -- state 3, kept in a book that nobody made and lost now, is not listed
  pub lost_now : Returns book_four 0 book_m1 []
  -- refused: a mask with a move past the last, before it a book for another plant, both before short buffers
  pub no_move : return_fault plant_p book_m1 8 47 7 ≡ 6
  pub unlike : return_fault plant_may book_m1 8 47 7 ≡ 4
  -- in a list of calls, from M2's book on: what they answer, the moves then in service and the standing book
  pub numbers_are : answers plant_p book_m2 out_and_back ≡ 0 ∷ 6 ∷ 0 ∷ []
  pub in_service_are : in_service (plant_of plant_p) 3 out_and_back ≡ 7
  pub stands : standing plant_p book_m2 out_and_back ≡ book_m1
