-- Marked examples for request (x): pairs of plants that agree on all that state 0 reaches, with their books, and pairs
-- that do not. Plants and books are written as their two-byte numbers.
use Rattle.std.specs.Prelude.{◌≡◌, List, [], ◌∷◌, ℕ}
use Rattle.statements.specs.Plants.{plant_of}
use Rattle.statements.specs.Books.{bytes_of, made_book}
use Rattle.statements.specs.Calls.{row_part}
use Rattle.statements.specs.Elsewhere.{AgreeFrom, SameFigures, BothMade, SameRow}
use Rattle.statements.specs.Marked.{Makes}
use Rattle.statements.specs.MarkedStages.{plant_one}

-- state 0 stays; 1 and 2 lead to each other, and all are in the goal
unfoldable pub plant_ring : List ℕ
plant_ring = bytes_of (3 ∷ 1 ∷ 1 ∷ 3 ∷ 16 ∷ 22 ∷ 40 ∷ 0 ∷ 3 ∷ 3 ∷ 3 ∷ 0 ∷ 0 ∷ 0 ∷ 1 ∷ 0 ∷ 2 ∷ 2 ∷ 0 ∷ 1 ∷ [])

-- the same with 1 not allowed and staying, and 2 not in the goal and without an arrow
unfoldable pub plant_no_ring : List ℕ
plant_no_ring = bytes_of (3 ∷ 1 ∷ 1 ∷ 2 ∷ 16 ∷ 22 ∷ 34 ∷ 0 ∷ 3 ∷ 0 ∷ 1 ∷ 0 ∷ 0 ∷ 0 ∷ 1 ∷ 0 ∷ 1 ∷ [])

-- two states in the goal: by move 0 they lead to each other, by move 1 each stays
unfoldable pub plant_swap : List ℕ
plant_swap = bytes_of (2 ∷ 2 ∷ 1 ∷ 4 ∷ 16 ∷ 20 ∷ 44 ∷ 0 ∷ 3 ∷ 3 ∷ 0 ∷ 0 ∷ 1 ∷ 0 ∷ 1 ∷ 0 ∷ 1 ∷ 0 ∷ 0 ∷ 1 ∷ 1 ∷ 1 ∷ [])

-- the same with 1 not allowed: move 0 stays there, and has no arrow in 0; move 1 is as before in 0 alone
unfoldable pub plant_no_swap : List ℕ
plant_no_swap = bytes_of (2 ∷ 2 ∷ 1 ∷ 2 ∷ 16 ∷ 20 ∷ 32 ∷ 0 ∷ 3 ∷ 0 ∷ 0 ∷ 1 ∷ 0 ∷ 1 ∷ 0 ∷ 1 ∷ [])

-- plants that settle: from 0, which is not settled, to 1, the settled goal, which stays; 2 is as 1, and then it is not
-- settled, not in the goal, and may lead to 0
unfoldable pub plant_calm : List ℕ
plant_calm = bytes_of (3 ∷ 1 ∷ 1 ∷ 3 ∷ 16 ∷ 22 ∷ 40 ∷ 1 ∷ 1 ∷ 515 ∷ 515 ∷ 0 ∷ 0 ∷ 1 ∷ 1 ∷ 0 ∷ 1 ∷ 2 ∷ 0 ∷ 2 ∷ [])

unfoldable pub plant_restless : List ℕ
plant_restless =
    bytes_of
    (3 ∷ 1 ∷ 1 ∷ 4 ∷ 16 ∷ 22 ∷ 46 ∷ 1 ∷ 1 ∷ 515 ∷ 1 ∷ 0 ∷ 0 ∷ 1 ∷ 1 ∷ 0 ∷ 1 ∷ 2 ∷ 0 ∷ 0 ∷ 2 ∷ 0 ∷ 2 ∷ [])

-- from 0, with this label, to 1, which is in the goal and stays
unfoldable pub plant_step : ℕ → List ℕ
plant_step label = bytes_of (2 ∷ 1 ∷ 1 ∷ 2 ∷ 16 ∷ 20 ∷ 32 ∷ 0 ∷ label ∷ 3 ∷ 0 ∷ 0 ∷ 1 ∷ 1 ∷ 0 ∷ 1 ∷ [])

-- 0 is in the goal and stays by move 1; move 0 leads from it to 1, which is not allowed, and on to 2, with this label
unfoldable pub plant_behind : ℕ → List ℕ
plant_behind label =
    bytes_of
    (3 ∷ 2 ∷ 1 ∷ 4 ∷ 16 ∷ 22 ∷ 46 ∷ 0 ∷ 3 ∷ 0 ∷ label ∷ 0 ∷ 0 ∷ 1 ∷ 0 ∷ 1 ∷ 0 ∷ 1 ∷ 0 ∷ 2 ∷ 2 ∷ 0 ∷ 2 ∷ [])

-- two plants that agree on all that state 0 reaches, their books with a mask, and the row that it has in both
pub record SameFirst (s t : List ℕ) (mask room : ℕ) (b c row : List ℕ) : Type 0 where
  pub made : Makes s mask room b
  pub other_made : Makes t mask room c
  pub both : BothMade s t mask
  pub agree : AgreeFrom (plant_of s) (plant_of t) mask 0
  pub row_is : row_part b 0 ≡ row
  pub other_row : row_part c 0 ≡ row
  pub same : SameRow s t mask 0

pub record MarkedElsewhere : Type 0 where
  -- K 3 and 1, and the row of 0 is the same
  pub ring :
      SameFirst plant_ring plant_no_ring 1 28 (bytes_of (3 ∷ 1 ∷ 1 ∷ 3 ∷ 1 ∷ 0 ∷ 16 ∷ 28 ∷ 0 ∷ 0 ∷ 0 ∷ 0 ∷ 0 ∷ 0 ∷ []))
      (bytes_of (3 ∷ 1 ∷ 1 ∷ 1 ∷ 1 ∷ 0 ∷ 16 ∷ 28 ∷ 0 ∷ 0 ∷ 65535 ∷ 65535 ∷ 65535 ∷ 65535 ∷ [])) (bytes_of (0 ∷ 0 ∷ []))
  -- with move 1 in service alone: move 0 differs in both states, and alone leads to the state that differs
  pub swap :
      SameFirst plant_swap plant_no_swap 2 24 (bytes_of (2 ∷ 2 ∷ 1 ∷ 2 ∷ 2 ∷ 0 ∷ 16 ∷ 24 ∷ 0 ∷ 1 ∷ 0 ∷ 1 ∷ []))
      (bytes_of (2 ∷ 2 ∷ 1 ∷ 1 ∷ 2 ∷ 0 ∷ 16 ∷ 24 ∷ 0 ∷ 1 ∷ 65535 ∷ 65535 ∷ [])) (bytes_of (0 ∷ 1 ∷ []))
  -- plants that settle: K 3 and 2, and the row of 0 opens with stage 2 in both
  pub calm :
      SameFirst plant_calm plant_restless 1 34
      (bytes_of (3 ∷ 1 ∷ 1 ∷ 3 ∷ 1 ∷ 0 ∷ 16 ∷ 34 ∷ 2 ∷ 0 ∷ 0 ∷ 1 ∷ 0 ∷ 0 ∷ 1 ∷ 0 ∷ 0 ∷ []))
      (bytes_of (3 ∷ 1 ∷ 1 ∷ 2 ∷ 1 ∷ 0 ∷ 16 ∷ 34 ∷ 2 ∷ 0 ∷ 0 ∷ 1 ∷ 0 ∷ 0 ∷ 65535 ∷ 65535 ∷ 65535 ∷ []))
      (bytes_of (2 ∷ 0 ∷ 0 ∷ []))

-- the row of state 0 in the book made with a mask
abbrev first_row : List ℕ → ℕ → List ℕ
first_row s mask = row_part (made_book (plant_of s) mask) 0

-- pairs of which request (x) says nothing: the rows differ, but for the last pair
pub record MarkedApart : Type 0 where
  -- both moves in service, and move 0 differs in state 0
  pub arrows : AgreeFrom (plant_of plant_swap) (plant_of plant_no_swap) 3 0 → ⊥
  pub swap_row : first_row plant_swap 3 ≡ bytes_of (0 ∷ 0 ∷ [])
  pub no_swap_row : first_row plant_no_swap 3 ≡ bytes_of (0 ∷ 1 ∷ [])
  -- the state's own label differs, and no move leads back to it
  pub own_label : AgreeFrom (plant_of (plant_step 1)) (plant_of (plant_step 0)) 1 0 → ⊥
  pub step_row : first_row (plant_step 1) 1 ≡ bytes_of (1 ∷ 0 ∷ [])
  pub no_step_row : first_row (plant_step 0) 1 ≡ bytes_of (65535 ∷ 65535 ∷ [])
  -- the last header number differs
  pub sort : SameFigures (plant_of (plant_one 0 3)) (plant_of (plant_one 1 3)) → ⊥
  pub plain_row : first_row (plant_one 0 3) 1 ≡ bytes_of (0 ∷ 0 ∷ [])
  pub staged_row : first_row (plant_one 1 3) 1 ≡ bytes_of (65535 ∷ 65535 ∷ 65535 ∷ [])
  -- a state differs that is reached through one that is not allowed: it counts as reached, though the rows are the same
  pub behind : AgreeFrom (plant_of (plant_behind 3)) (plant_of (plant_behind 1)) 3 0 → ⊥
  pub behind_row : first_row (plant_behind 3) 3 ≡ bytes_of (0 ∷ 1 ∷ [])
  pub behind_other_row : first_row (plant_behind 1) 3 ≡ bytes_of (0 ∷ 1 ∷ [])
