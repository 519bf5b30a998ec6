-- What the solver's functions are given, and the set of states that an array of waits stands for.
use Rattle.std.specs.Prelude.{◌≡◌, List, ℕ, ltb, get_or}
use Rattle.statements.specs.Sets.{numbers, filter}
use Rattle.statements.specs.Plants.{plant_of, plant_fault}
use Rattle.solve.specs.Tabled.{Tabled}

-- a plant that is accepted, its table for the moves in service, and its number of moves
pub record Given (plant : List ℕ) (mask : ℕ) (table : List ℕ) (none : ℕ) : Type 0 where
  pub accepted : plant_fault plant ≡ 0
  pub table_is : Tabled (plant_of plant) mask table
  pub none_is : none ≡ (plant_of plant).moves

-- of s states, those whose wait is below a limit
unfoldable pub below : List ℕ → ℕ → ℕ → List ℕ
below waits limit s = filter (λ x. ltb (get_or waits x 0) limit) (numbers s 0)
