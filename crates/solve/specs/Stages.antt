-- Stages: the states that a stage may pass and the moves by which they leave, and what the stages so far leave in the
-- arrays and in the book's bytes.
use Rattle.std.specs.Prelude.{◌≡◌, Bool, true, false, ◌||◌, List, ℕ, ◌≤◌, ◌<◌, length, get_or, take}
use Rattle.statements.specs.Sets.{is_in, filter}
use Rattle.statements.specs.Plants.{Plant, settled, move_into, can}
use Rattle.statements.specs.Kept.{kept_within, stages_to}
use Rattle.statements.specs.Books.{lost_mark}
use Rattle.arrays.specs.Lists.{among}
use Rattle.solve.specs.Given.{below}
use Rattle.solve.specs.Rows.{Rowed}

-- the states that a stage may pass: settled, or with a move wholly into earlier stages
unfoldable pub passing : Plant → ℕ → List ℕ → ℕ → Bool
passing p mask earlier x = settled p x || can p mask earlier x

-- the moves of a start into earlier stages, and its states that the next stage may pass, at the front of a list
pub record Opened (p : Plant) (mask : ℕ) (start earlier leave all : List ℕ) (count : ℕ) : Type 0 where
  pub leaves : (x : ℕ) → is_in x start ≡ true → get_or leave x 0 ≡ move_into p mask earlier x
  pub list : take count all ≡ filter (passing p mask earlier) start
  pub number : count ≡ length (filter (passing p mask earlier) start)

-- k stages are worked out: their states have a stage, and their rows are written; all others are marks
pub record Staged (p : Plant) (mask : ℕ) (start : List ℕ) (k : ℕ) (stage old out : List ℕ) : Type 0 where
  pub has : (x : ℕ) → is_in x (stages_to k p mask (among start)) ≡ true → get_or stage x 0 < lost_mark
  pub not_yet : (x : ℕ) → x < p.states → is_in x (stages_to k p mask (among start)) ≡ false → get_or stage x 0 ≡ lost_mark
  pub room : p.states ≤ length stage
  pub rows : Rowed p mask (kept_within p mask (among start)) (stages_to k p mask (among start)) old out

-- no state of a list that is not settled and has no stage yet has a move wholly into those that have one
pub record Calm (p : Plant) (mask : ℕ) (list stage : List ℕ) : Type 0 where
  pub none : (x : ℕ) → is_in x list ≡ true → settled p x ≡ false → get_or stage x 0 ≡ lost_mark
      → can p mask (below stage 65535 p.states) x ≡ false
