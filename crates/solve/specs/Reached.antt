-- What the reach to a goal within a set comes to: for each state the step in which it is reached and the lowest move into
-- what was reached before, or the mark in both.
use Rattle.std.specs.Prelude.{Bool, List, ℕ, zero, suc, ltb, length, get_or}
use Rattle.statements.specs.Sets.{pick, first, iterate, is_in}
use Rattle.statements.specs.Plants.{Plant, move_into}
use Rattle.statements.specs.Kept.{grown, target, forced}
use Rattle.statements.specs.Books.{lost_mark}

-- a state with a move in an array, by which it leaves: a run is over there
unfoldable pub goes : Plant → List ℕ → ℕ → Bool
goes p leave x = ltb (get_or leave x 0) p.moves

-- the states reached within n steps
unfoldable pub within : Plant → ℕ → List ℕ → List ℕ → ℕ → ℕ → List ℕ
within p mask leave all i n = iterate n (grown p mask all) (target p mask (goes p leave) all i)

-- where a move of the n-th step ends: in what was reached before, at step 0 in the set
unfoldable pub before : Plant → ℕ → List ℕ → List ℕ → ℕ → ℕ → List ℕ
before p mask leave all i zero = all
before p mask leave all i (suc n) = within p mask leave all i n

-- the move of a state reached in the n-th step: that of the array if it has one
unfoldable pub found_by : Plant → ℕ → List ℕ → List ℕ → ℕ → ℕ → ℕ → ℕ
found_by p mask leave all i n x =
    pick (goes p leave x) (get_or leave x 0) (move_into p mask (before p mask leave all i n) x)

-- the step in which a state is reached
unfoldable pub step_of : Plant → ℕ → List ℕ → List ℕ → ℕ → ℕ → ℕ
step_of p mask leave all i x = first (length all) 0 (λ n. is_in x (within p mask leave all i n))

unfoldable pub reached : Plant → ℕ → List ℕ → List ℕ → ℕ → ℕ → ℕ
reached p mask leave all i x = pick (is_in x (forced p mask (goes p leave) all i)) (step_of p mask leave all i x) lost_mark

unfoldable pub reached_by : Plant → ℕ → List ℕ → List ℕ → ℕ → ℕ → ℕ
reached_by p mask leave all i x =
    pick (is_in x (forced p mask (goes p leave) all i)) (found_by p mask leave all i (step_of p mask leave all i x) x) lost_mark
