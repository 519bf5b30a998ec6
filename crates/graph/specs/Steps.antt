-- What the steps of the packing hand on to each other. Assumes nothing.
use Rattle.std.specs.Prelude.{◌≡◌, List, ℕ, ◌-◌, ◌≤◌, length, take, drop}
use Rattle.statements.specs.Plants.{plant_of, plant_fault, word}
use Rattle.sort.specs.Sorted.{sorted_by, starts_of}
use Rattle.layout.specs.Layout.{group_ends, group_owners, Front}
use Rattle.game.specs.Packed.{places_in}

-- the first n numbers of two lists are the same
abbrev pub Alike : ℕ → List ℕ → List ℕ → Type 0
Alike n xs ys = take n xs ≡ take n ys

-- the groups of the ends of an accepted plant are listed, with room for one for each arrow, and so have the links
pub record Owned (plant : List ℕ) (mask : ℕ) (owners rev : List ℕ) : Type 0 where
  pub fine : plant_fault plant ≡ 0
  pub owners_are : Front (group_owners (plant_of plant) mask) owners
  pub owners_long : word 3 plant ≤ length owners
  pub rev_long : word 3 plant ≤ length rev

-- the ends of the moves in service of an accepted plant, and their groups, can be linked in the graph
pub record Linkable (plant : List ℕ) (mask : ℕ) (ends owners graph : List ℕ) : Type 0 where
  pub fine : plant_fault plant ≡ 0
  pub ends_are : ends ≡ group_ends (plant_of plant) mask
  pub owners_are : Front (group_owners (plant_of plant) mask) owners
  pub owners_long : word 3 plant ≤ length owners
  pub graph_long : 2049 ≤ length graph
  pub arrows_fit : word 3 plant ≤ places_in (length graph)

-- the graph has the groups by their ends, where those of each end begin, and the labels; what stood before is kept
pub record Linked (plant ends owners old new : List ℕ) : Type 0 where
  pub kept : Alike (places_in (length new)) new old
  pub rev_in_lem : Front (sorted_by (word 0 plant) ends owners) (drop (places_in (length new)) new)
  pub starts_in_lem : Front (starts_of (word 0 plant) ends) (drop (length new - 2049) new)
  pub labels_in_lem : Front (plant_of plant).labels (drop (length new - 1024) new)
