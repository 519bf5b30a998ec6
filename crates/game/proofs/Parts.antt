-- Where the parts of a packed game stand, and how long they are. Assumes nothing.
use mathlib.Core.Path.{◌≡◌, sym, ◌∙◌}
use mathlib.Core.List.{List}
use Prim.Native.Nat.{ℕ, ◌+◌, ◌-◌, ◌≤◌}
use native.Mathlib.Omega.{arith}
use lib.ListN.{length, take, drop, length-drop, replicate, length-replicate, get_or-replicate}
use lib.Seq.{length-take-le}
use Rattle.game.specs.Walked.{nodes}
use Rattle.game.specs.Packed.{part, places_in, groups_in, rev_in, starts_in, labels_in}
use Rattle.game.specs.Playing.{Fits, Fresh}

-- an array that is made of one number alone
pub fresh_made : (room filler size : ℕ) → room ≤ size → Fresh room filler (replicate size filler)
fresh_made room filler size h =
    let all : length (replicate size filler) ≡ size = length-replicate size filler in
    record { long = omega arith; all = λ t l. get_or-replicate size t filler 0 (omega arith) }

-- a part's length
part_length : (a n : ℕ) (xs : List ℕ) → a + n ≤ length xs → length (part a n xs) ≡ n
unfolding part
part_length a n xs h =
    length-take-le (a + n - a) (drop a xs) (omega (arith, length-drop a xs)) ∙ omega arith

-- there are as many places for groups as for positions, in front of the starts
places_twice : (size : ℕ) → places_in size + places_in size ≤ size - 2049
unfolding places_in
places_twice size = omega arith

module _ (graph : List ℕ) {n groups positions : ℕ} (fits : Fits (length graph) n groups positions) where
  pub groups_end : groups ≤ length graph
  groups_end = omega (arith, fits.few_groups, places_twice (length graph))

  pub rev_end : places_in (length graph) + positions ≤ length graph
  rev_end = omega (arith, fits.few_positions, places_twice (length graph))

  pub starts_end : length graph - 2049 + (n + 1) ≤ length graph
  starts_end = omega (arith, fits.few_nodes, fits.long)

  pub labels_end : length graph - 1024 + n ≤ length graph
  labels_end = omega (arith, fits.few_nodes, fits.long)

  pub groups_front : groups ≡ length (take groups graph)
  groups_front = sym (length-take-le groups graph groups_end)

  pub groups_length : length (groups_in graph groups) ≡ groups
  unfolding groups_in
  groups_length = sym groups_front

  pub rev_length : length (rev_in graph positions) ≡ positions
  unfolding rev_in
  rev_length = part_length (places_in (length graph)) positions graph rev_end

  pub labels_length : length (labels_in graph n) ≡ n
  unfolding labels_in
  labels_length = part_length (length graph - 1024) n graph labels_end

  pub starts_length : length (starts_in graph n) ≡ n + 1
  unfolding starts_in
  starts_length = part_length (length graph - 2049) (n + 1) graph starts_end

  pub starts_nodes : nodes (starts_in graph n) ≡ n
  unfolding nodes
  starts_nodes = omega (arith, starts_length)
