-- The layout of the moves in service in flat lists (compressed rows). A group is an available move of a state; groups
-- are numbered by state and then by move. Assumes nothing.
use Rattle.std.specs.Prelude.{◌≡◌, Bool, ◌&&◌, List, [], ◌∷◌, ◌++◌, ℕ, suc, ◌+◌, ◌-◌, ◌*◌, ◌/◌, leb, length, take, drop, replicate}
use Rattle.statements.specs.Sets.{pick, joined}
use Rattle.statements.specs.Plants.{Plant, ends, available}

-- a part for the group of a move in a state, told from state, move and ends; none where the move is not available
unfoldable pub part_of : Plant → ℕ → (ℕ → ℕ → List ℕ → List ℕ) → ℕ → ℕ → List ℕ
part_of p mask part x u = pick (available p mask x u) (part x u (ends p x u)) []

-- the parts of a state's groups, by rising move
unfoldable pub parts_of : Plant → ℕ → (ℕ → ℕ → List ℕ → List ℕ) → ℕ → List ℕ
parts_of p mask part x = joined p.moves 0 (part_of p mask part x)

-- the parts of all groups
unfoldable pub all_parts : Plant → ℕ → (ℕ → ℕ → List ℕ → List ℕ) → List ℕ
all_parts p mask part = joined p.states 0 (parts_of p mask part)

-- the state of each group
unfoldable pub group_states : Plant → ℕ → List ℕ
group_states p mask = all_parts p mask (λ x u ys. x ∷ [])

-- the move of each group
unfoldable pub group_moves : Plant → ℕ → List ℕ
group_moves p mask = all_parts p mask (λ x u ys. u ∷ [])

-- the ends of all groups, one after the other
unfoldable pub group_ends : Plant → ℕ → List ℕ
group_ends p mask = all_parts p mask (λ x u ys. ys)

-- how many ends each group has
unfoldable pub group_sizes : Plant → ℕ → List ℕ
group_sizes p mask = all_parts p mask (λ x u ys. length ys ∷ [])

-- how many groups each state has
unfoldable pub group_counts : Plant → ℕ → List ℕ
group_counts p mask = joined p.states 0 (λ x. length (parts_of p mask (λ y u ys. u ∷ []) x) ∷ [])

-- the sum of some numbers
unfoldable pub total : List ℕ → ℕ
total [] = 0
total (n ∷ ns) = n + total ns

-- where parts of these lengths begin, put one after the other from a place on
unfoldable pub starts : ℕ → List ℕ → List ℕ
starts at [] = []
starts at (n ∷ ns) = at ∷ starts (at + n) ns

-- where parts of these lengths begin, and where the last one stops
unfoldable pub bounds : List ℕ → List ℕ
bounds ns = starts 0 ns ++ (total ns ∷ [])

-- for each number in parts of these lengths the number of its part, counted from k on
unfoldable pub numbered : ℕ → List ℕ → List ℕ
numbered k [] = []
numbered k (n ∷ ns) = replicate n k ++ numbered (suc k) ns

-- where the ends of each group begin, and where the last ones stop
unfoldable pub group_begins : Plant → ℕ → List ℕ
group_begins p mask = bounds (group_sizes p mask)

-- for each state, and one more, how many groups the states before it have
unfoldable pub first_groups : Plant → ℕ → List ℕ
first_groups p mask = bounds (group_counts p mask)

-- the group of each of the ends
unfoldable pub group_owners : Plant → ℕ → List ℕ
group_owners p mask = numbered 0 (group_sizes p mask)

-- how many groups, and how many ends, a table of so many numbers has room for, beside 1,025 first groups
unfoldable pub table_room : ℕ → ℕ
table_room n = (n - 1026) / 4

-- there is room for the layout of a plant
unfoldable pub roomy : Plant → List ℕ → List ℕ → Bool
roomy p table states =
    leb 1026 (length table)
    && (leb (length p.arrows) (table_room (length table)) && leb (length p.arrows) (length states))

-- the second list begins with the first
abbrev pub Front : List ℕ → List ℕ → Type 0
Front xs all = take (length xs) all ≡ xs

-- the table has the first group of each state, where the ends of each group begin, its move, the ends, and the group of
-- each; where the parts begin is told from its length. The states of the groups stand apart
pub record Layout (p : Plant) (mask : ℕ) (table states : List ℕ) : Type 0 where
  pub first_is : Front (first_groups p mask) table
  pub begins_is : Front (group_begins p mask) (drop 1025 table)
  pub moves_is : Front (group_moves p mask) (drop (1026 + table_room (length table)) table)
  pub ends_is : Front (group_ends p mask) (drop (1026 + 2 * table_room (length table)) table)
  pub owners_is : Front (group_owners p mask) (drop (1026 + 3 * table_room (length table)) table)
  pub states_is : Front (group_states p mask) states
