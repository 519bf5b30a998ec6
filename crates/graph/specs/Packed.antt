-- The graph of a plant in two packed arrays: the groups with their ends, and the links from each end back to its group.
-- Assumes nothing.
use Rattle.std.specs.Prelude.{Bool, ◌&&◌, ◌||◌, not, List, [], ℕ, ◌+◌, ◌-◌, ◌*◌, eqb, leb, length, drop, Option, is_some}
use Rattle.std.specs.Borrow.{Bor}
use Rattle.std.specs.Option.{option_map_or}
use Rattle.statements.specs.Plants.{Plant, plant_of, plant_fault}
use Rattle.statements.specs.Index.{index_bytes, same_bytes}
use Rattle.sort.specs.Sorted.{sorted_by, starts_of}
use Rattle.layout.specs.Layout.{group_states, group_moves, group_ends, group_begins, first_groups, group_owners, table_room}
use Rattle.layout.specs.Layout.{Front}
use Rattle.game.specs.Packed.{places_in}

-- where an index is lent, its bytes are those of the plant's
unfoldable pub lent : Bool → Plant → List ℕ → Bool
lent indexed p index = not indexed || same_bytes index (index_bytes p)

-- the bytes of an index, where one is lent
abbrev pub lent_bytes : Option (Bor (List ℕ)) → List ℕ
lent_bytes index = option_map_or (λ b. b.now) index []

abbrev pub lent_by : Option (Bor (List ℕ)) → Plant → Bool
lent_by index p = lent (is_some index) p (lent_bytes index)

-- a plant is accepted, and so is the index where one is lent
unfoldable pub accepts : Bool → List ℕ → List ℕ → Bool
accepts indexed index s = eqb (plant_fault s) 0 && lent indexed (plant_of s) index

abbrev pub accepts_by : Option (Bor (List ℕ)) → List ℕ → Bool
accepts_by index s = accepts (is_some index) (lent_bytes index) s

-- there is room for the graph of a plant
unfoldable pub roomy_pack : Plant → List ℕ → List ℕ → Bool
roomy_pack p table graph =
    leb 1026 (length table) && (leb (length p.arrows) (table_room (length table))
    && (leb 2049 (length graph) && leb (length p.arrows) (places_in (length graph))))

-- the table has the first group of each state, where the ends of each group begin, its move, and the ends; the graph
-- has the state of each group, the groups sorted by their ends, where those of each end begin, and the states' labels.
-- Where these begin is told from how long the two are
pub record Packed (p : Plant) (mask : ℕ) (table graph : List ℕ) : Type 0 where
  pub first_is : Front (first_groups p mask) table
  pub begins_is : Front (group_begins p mask) (drop 1025 table)
  pub moves_is : Front (group_moves p mask) (drop (1026 + table_room (length table)) table)
  pub ends_is : Front (group_ends p mask) (drop (1026 + 2 * table_room (length table)) table)
  pub states_is : Front (group_states p mask) graph
  pub rev_is :
      Front (sorted_by p.states (group_ends p mask) (group_owners p mask)) (drop (places_in (length graph)) graph)
  pub starts_is : Front (starts_of p.states (group_ends p mask)) (drop (length graph - 2049) graph)
  pub labels_is : Front p.labels (drop (length graph - 1024) graph)
