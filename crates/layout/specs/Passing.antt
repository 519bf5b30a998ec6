-- What a pass over a plant's arrows has laid out: all but the sums, which are made afterwards; and in which parts of
-- the table. Assumes nothing.
use Rattle.std.specs.Prelude.{◌≡◌, List, ℕ, ◌+◌, ◌*◌, ◌≤◌, length, take, drop}
use Rattle.statements.specs.Plants.{Plant}
use Rattle.layout.specs.Layout.{group_states, group_moves, group_ends, group_sizes, group_counts, total, starts}
use Rattle.layout.specs.Layout.{numbered}

-- the first g numbers are those of the groups, the first a those of their ends, and for each state stands the number
-- of its groups
pub record Laid (p : Plant) (mask g a : ℕ) (first states moves begins ends owners : List ℕ) : Type 0 where
  pub groups_are : g ≡ length (group_sizes p mask)
  pub arrows_are : a ≡ total (group_sizes p mask)
  pub groups_few : g ≤ length p.arrows
  pub arrows_few : a ≤ length p.arrows
  pub states_are : take g states ≡ group_states p mask
  pub moves_are : take g moves ≡ group_moves p mask
  pub begins_are : take g begins ≡ starts 0 (group_sizes p mask)
  pub ends_are : take a ends ≡ group_ends p mask
  pub owners_are : take a owners ≡ numbered 0 (group_sizes p mask)
  pub counts_are : take p.states first ≡ group_counts p mask

-- the n numbers of a list from place a on
unfoldable pub part : ℕ → ℕ → List ℕ → List ℕ
part a n xs = take n (drop a xs)

-- the parts of a table with room for h groups and h ends: the groups of each state, where the ends of each group begin,
-- the moves of the groups, the ends, and their groups
unfoldable pub first_part : List ℕ → List ℕ
first_part table = part 0 1025 table

unfoldable pub begins_part : ℕ → List ℕ → List ℕ
begins_part h table = part 1025 (h + 1) table

unfoldable pub moves_part : ℕ → List ℕ → List ℕ
moves_part h table = part (1026 + h) h table

unfoldable pub ends_part : ℕ → List ℕ → List ℕ
ends_part h table = part (1026 + 2 * h) h table

unfoldable pub owners_part : ℕ → List ℕ → List ℕ
owners_part h table = part (1026 + 3 * h) h table

-- there is room for so many arrows
pub record Room (count h : ℕ) (table states : List ℕ) : Type 0 where
  pub table_long : 1026 + 4 * h ≤ length table
  pub table_fits : count ≤ h
  pub states_fit : count ≤ length states

-- what a pass has laid out in a table
abbrev pub LaidIn : Plant → ℕ → ℕ → ℕ → ℕ → List ℕ → List ℕ → Type 0
LaidIn p mask g a h table states =
    Laid p mask g a (first_part table) states (moves_part h table) (begins_part h table) (ends_part h table)
    (owners_part h table)
