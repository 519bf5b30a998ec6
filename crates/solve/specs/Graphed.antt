-- The packed game of a plant: its hypergraph, and labels with a mark at the states by which a stage is left. Each part
-- stands at a place of its own that the array's length tells. Assumes nothing.
use Rattle.std.specs.Prelude.{◌≡◌, true, List, ℕ, ◌+◌, ◌-◌, ◌%◌, ◌≤◌, ◌<◌, length, get_or, drop}
use Rattle.statements.specs.Sets.{pick, is_in}
use Rattle.statements.specs.Plants.{Plant}
use Rattle.layout.specs.Layout.{table_room, group_states, group_ends, group_owners, Front}
use Rattle.sort.specs.Sorted.{sorted_by, starts_of}
use Rattle.game.specs.Packed.{places_in}
use Rattle.solve.specs.Reached.{goes}

-- arrays of so many numbers, a table and a graph, have room for the moves in service of a plant
pub record Wide (p : Plant) (table graph : ℕ) : Type 0 where
  pub table_long : 1026 ≤ table
  pub table_room_lem : length p.arrows ≤ table_room table
  pub graph_long : 2049 ≤ graph
  pub graph_room : length p.arrows ≤ places_in graph
  pub graph_few : places_in graph ≤ 8192

-- where the label of a state stands
abbrev pub label_at : List ℕ → ℕ → ℕ
label_at graph x = length graph - 1024 + x

-- an array holds the hypergraph of the moves in service, and the plant's labels but for their bit 15
pub record Graphed (p : Plant) (mask groups positions : ℕ) (graph : List ℕ) : Type 0 where
  pub groups_are : groups ≡ length (group_states p mask)
  pub positions_are : positions ≡ length (group_ends p mask)
  pub states_is : Front (group_states p mask) graph
  pub rev_is : Front (sorted_by p.states (group_ends p mask) (group_owners p mask)) (drop (places_in (length graph)) graph)
  pub starts_is : Front (starts_of p.states (group_ends p mask)) (drop (length graph - 2049) graph)
  pub labels_are : (x : ℕ) → x < p.states → get_or graph (label_at graph x) 0 % 32768 ≡ get_or p.labels x 0
  pub long : 2049 ≤ length graph
  pub room : length p.arrows ≤ places_in (length graph)
  pub few : places_in (length graph) ≤ 8192

-- bit 15 of a state's label says that it leaves, for the states of a list
abbrev pub Exits : Plant → List ℕ → List ℕ → List ℕ → Type 0
Exits p leave list graph =
    (x : ℕ) → is_in x list ≡ true
    → get_or graph (label_at graph x) 0 ≡ get_or p.labels x 0 + pick (goes p leave x) 32768 0
