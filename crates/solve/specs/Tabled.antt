-- The groups of the moves in service, packed into one array: first groups, begins, moves and ends, each at a place of
-- its own that the array's length tells. Assumes nothing.
use Rattle.std.specs.Prelude.{List, ℕ, ◌+◌, ◌-◌, ◌*◌, ◌/◌, ◌≤◌, length, drop}
use Rattle.statements.specs.Plants.{Plant}
use Rattle.layout.specs.Layout.{Front, first_groups, group_begins, group_moves, group_ends}

-- where the moves of the groups stand, and where their ends
abbrev pub moves_at : List ℕ → ℕ
moves_at table = 1026 + (length table - 1026) / 4

abbrev pub ends_at : List ℕ → ℕ
ends_at table = 1026 + 2 * ((length table - 1026) / 4)

-- an array holds the groups of the moves in service, packed
pub record Tabled (p : Plant) (mask : ℕ) (table : List ℕ) : Type 0 where
  pub first_is : Front (first_groups p mask) table
  pub begins_is : Front (group_begins p mask) (drop 1025 table)
  pub moves_is : Front (group_moves p mask) (drop (moves_at table) table)
  pub ends_is : Front (group_ends p mask) (drop (ends_at table) table)
  pub long : 1026 ≤ length table
