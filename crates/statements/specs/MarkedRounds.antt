-- Marked examples for request (xiii): how many rounds a call returns. Plants are written as their two-byte numbers.
use Rattle.std.specs.Prelude.{◌≡◌, List, [], ◌∷◌, ℕ}
use Rattle.statements.specs.Books.{bytes_of}
use Rattle.statements.specs.Index.{index_bytes}
use Rattle.statements.specs.Plants.{plant_of}
use Rattle.statements.specs.Calls.{makes, withdraws, withdraws_list, returns, makes_by, withdraws_by}
use Rattle.statements.specs.Rounds.{rounds_of}
use Rattle.statements.specs.Marked.{plant_p, plant_loop, book_m1, book_m9}
use Rattle.statements.specs.MarkedStages.{plant_leave}

-- three states in the one goal, arrows (0,0,1) (1,0,2): a chain
unfoldable pub plant_chain : List ℕ
plant_chain = bytes_of (3 ∷ 1 ∷ 1 ∷ 2 ∷ 16 ∷ 22 ∷ 34 ∷ 0 ∷ 3 ∷ 3 ∷ 3 ∷ 0 ∷ 0 ∷ 1 ∷ 1 ∷ 0 ∷ 2 ∷ [])

-- two states in both goals, arrow (0,0,1)
unfoldable pub plant_pair : List ℕ
plant_pair = bytes_of (2 ∷ 1 ∷ 2 ∷ 1 ∷ 16 ∷ 20 ∷ 26 ∷ 0 ∷ 7 ∷ 7 ∷ 0 ∷ 0 ∷ 1 ∷ [])

pub record MarkedRounds : Type 0 where
  -- P keeps all its allowed states: round 0 equals round 1
  pub strip : rounds_of plant_p [] (makes 7) ≡ 0
  -- the chain of three, and with no move in service
  pub chain : rounds_of plant_chain [] (makes 1) ≡ 3
  pub no_move : rounds_of plant_chain [] (makes 0) ≡ 1
  -- no state allowed
  pub none_allowed : rounds_of (plant_loop 2) [] (makes 1) ≡ 0
  -- both goals are cut in the same round: one after the other would take 1
  pub at_once : rounds_of plant_pair [] (makes 1) ≡ 2
  -- M3's withdrawal, and one of no move
  pub third : rounds_of plant_p book_m1 (withdraws 1) ≡ 2
  pub nothing : rounds_of plant_p book_m1 (withdraws 0) ≡ 0
  -- M9's: its book keeps states 0 and 2 alone, so that round 1 is empty; of all allowed states it would be round 0
  pub kept_before_lem : rounds_of plant_p book_m9 (withdraws 0) ≡ 1
  -- the other ways count none
  pub by_list : rounds_of plant_p book_m1 (withdraws_list (1 ∷ 0 ∷ 0 ∷ 0 ∷ [])) ≡ 0
  pub back : rounds_of plant_p book_m1 (returns 7) ≡ 0
  pub made_by : rounds_of plant_chain [] (makes_by (index_bytes (plant_of plant_chain)) 1) ≡ 0
  pub withdrawn_by : rounds_of plant_p book_m1 (withdraws_by (index_bytes (plant_of plant_p)) 1) ≡ 0
  -- nor does a plant that settles
  pub settles : rounds_of plant_leave [] (makes 0) ≡ 0
