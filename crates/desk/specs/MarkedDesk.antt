-- Marked answers of the desk, in strip plant P of document 01 and in small plants and books.
use Rattle.std.specs.Prelude.{true, false, List, [], ◌∷◌, ℕ, zero, suc}
use Rattle.statements.specs.Books.{bytes_of}
use Rattle.statements.specs.Marked.{plant_p, book_m1, book_m9}
use Rattle.desk.specs.Desk.{Desk}
use Rattle.desk.specs.Desk.{StartSays, ReportSays}
use Rattle.desk.specs.Followed.{Session}

-- an answer: move, wait and goal; lost; refused with a number; each with the state and the goal held
abbrev pub moves : ℕ → ℕ → ℕ → ℕ → ℕ → Desk
moves u w g x i =
    record { advice = record { number = 0; lost = false; action = u; wait = w; seek = g }; state = x; goal = i }

abbrev pub loses : ℕ → ℕ → Desk
loses x i =
    record { advice = record { number = 0; lost = true; action = 0; wait = 0; seek = 0 }; state = x; goal = i }

abbrev pub refuses : ℕ → ℕ → ℕ → Desk
refuses n x i =
    record { advice = record { number = n; lost = false; action = 0; wait = 0; seek = 0 }; state = x; goal = i }

-- two states, the first in both goals and the second in none, with an arrow from each to the other; the book made for it,
-- and one with other waits, which nobody made
unfoldable pub plant_turns : List ℕ
plant_turns = bytes_of (2 ∷ 1 ∷ 2 ∷ 2 ∷ 16 ∷ 20 ∷ 32 ∷ 0 ∷ 7 ∷ 1 ∷ 0 ∷ 0 ∷ 1 ∷ 1 ∷ 0 ∷ 0 ∷ [])

unfoldable pub book_turns : List ℕ
book_turns = bytes_of (2 ∷ 1 ∷ 2 ∷ 2 ∷ 1 ∷ 0 ∷ 16 ∷ 32 ∷ 0 ∷ 0 ∷ 0 ∷ 0 ∷ 1 ∷ 0 ∷ 1 ∷ 0 ∷ [])

unfoldable pub book_other : List ℕ
book_other = bytes_of (2 ∷ 1 ∷ 2 ∷ 2 ∷ 1 ∷ 0 ∷ 16 ∷ 32 ∷ 0 ∷ 0 ∷ 5 ∷ 0 ∷ 3 ∷ 0 ∷ 4 ∷ 0 ∷ [])

-- one settled state in the one goal with the arrow (0,0,0), in a plant that settles, and its book
unfoldable pub plant_settled : List ℕ
plant_settled = bytes_of (1 ∷ 1 ∷ 1 ∷ 1 ∷ 16 ∷ 18 ∷ 24 ∷ 1 ∷ 515 ∷ 0 ∷ 0 ∷ 0 ∷ [])

unfoldable pub book_settled : List ℕ
book_settled = bytes_of (1 ∷ 1 ∷ 1 ∷ 1 ∷ 1 ∷ 0 ∷ 16 ∷ 22 ∷ 1 ∷ 0 ∷ 0 ∷ [])

-- what the desk answers in P by the book of M1, when it starts in state 0 and is told 1 and then 2
unfoldable pub answers : ℕ → Desk
answers zero = moves 0 2 1 0 1
answers (suc zero) = moves 0 1 1 1 1
answers (suc (suc n)) = moves 0 1 0 2 0

pub record MarkedDesk : Type 0 where
  -- P and the book of M1: in state 0 goal 0 is served, and goal 1 sought; move 0 leads to state 1 alone
  pub start : StartSays plant_p book_m1 0 (moves 0 2 1 0 1)
  -- state 2 is an end of move 1 and not of move 0; P has no state 4
  pub other_move : ReportSays plant_p book_m1 0 1 2 (refuses 13 0 1)
  pub no_state : ReportSays plant_p book_m1 0 1 4 (refuses 8 0 1)
  -- in state 1 goal 1 is still sought; in state 2 it is served, and goal 0 is sought
  pub still : ReportSays plant_p book_m1 0 1 1 (moves 0 1 1 1 1)
  pub served : ReportSays plant_p book_m1 1 1 2 (moves 0 1 0 2 0)
  -- state 3 is lost: it is held with the goal sought, and no report follows it; 8 comes before 13
  pub lost : StartSays plant_p book_m1 3 (loses 3 0)
  pub from_lost : ReportSays plant_p book_m1 3 0 1 (refuses 13 3 0)
  pub eight_first : ReportSays plant_p book_m1 3 0 4 (refuses 8 3 0)
  -- what is held must be in range too, and stays as it was
  pub held_state : ReportSays plant_p book_m1 4 0 1 (refuses 8 4 0)
  pub held_goal : ReportSays plant_p book_m1 0 2 1 (refuses 8 0 2)
  -- the book of M9 has lost state 1: a report of it is lost, and held with the goal sought, which is not 0
  pub reported_lost : ReportSays plant_p book_m9 0 1 1 (loses 1 1)
  -- plant before book before numbers; a refused start holds 0 and 0
  pub no_plant : ReportSays book_m1 book_m1 0 1 4 (refuses 1 0 1)
  pub no_book : StartSays plant_p plant_p 7 (refuses 4 0 0)
  pub no_start : StartSays plant_p book_m1 4 (refuses 8 0 0)
  -- all goals are served in state 0: goal 0 stays, and is sought anew in state 1
  pub all_served : StartSays plant_turns book_turns 0 (moves 0 0 0 0 0)
  pub anew : ReportSays plant_turns book_turns 0 0 1 (moves 0 1 0 1 0)
  -- goal 0 is held and served in the book handed in: the goal sought in the next state is the one arrived at, goal 1
  pub passed_on : ReportSays plant_turns book_other 0 0 1 (moves 0 4 1 1 1)
  -- a plant that settles is answered as consult answers; a book of the other sort is refused
  pub settled : ReportSays plant_settled book_settled 0 0 0 (moves 0 0 0 0 0)
  pub other_sort : StartSays plant_turns book_settled 0 (refuses 4 0 0)
  -- a start and the two reports are a session: what is claimed of sessions is claimed of this one
  pub session : Session plant_p book_m1 0 suc answers 2
