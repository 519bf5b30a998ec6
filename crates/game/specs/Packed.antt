-- A game packed into one array, and what is worked out of it. Assumes nothing.
use Rattle.std.specs.Prelude.{Bool, ◌&&◌, List, ℕ, suc, ◌+◌, ◌-◌, ◌*◌, ◌/◌, leb, length, get_or, take, drop}
use Rattle.statements.specs.Sets.{bit, every, is_in}
use Rattle.arrays.specs.Lists.{rising}
use Rattle.game.specs.Walked.{can_enter, ordered, all_below}
use Rattle.game.specs.Game.{Can, held_after, steps_of}

-- the n numbers of a list from place a on
unfoldable pub part : ℕ → ℕ → List ℕ → List ℕ
part a n xs = take (a + n - a) (drop a xs)

-- how many groups, and how many positions, an array of so many numbers has room for, beside 1,025 starts and 1,024
-- labels
unfoldable pub places_in : ℕ → ℕ
places_in n = (n - 2049) / 2

-- the node of each group, the groups by the node that they have an end at, where those of each node begin, and labels
unfoldable pub groups_in : List ℕ → ℕ → List ℕ
groups_in graph groups = take groups graph

unfoldable pub rev_in : List ℕ → ℕ → List ℕ
rev_in graph positions = part (places_in (length graph)) positions graph

unfoldable pub starts_in : List ℕ → ℕ → List ℕ
starts_in graph nodes = part (length graph - 2049) (nodes + 1) graph

unfoldable pub labels_in : List ℕ → ℕ → List ℕ
labels_in graph nodes = part (length graph - 1024) nodes graph

-- a label's bits: bit 1 + i says in goal i, bit 15 that a run is over there
unfoldable pub goal_of : List ℕ → ℕ → ℕ → Bool
goal_of labels i x = bit (suc i) (get_or labels x 0)

unfoldable pub over_at : List ℕ → ℕ → Bool
over_at labels x = bit 15 (get_or labels x 0)

-- which nodes can go on into a set
unfoldable pub can_in : List ℕ → ℕ → ℕ → ℕ → Can
can_in graph nodes groups positions = can_enter (groups_in graph groups) (starts_in graph nodes) (rev_in graph positions)

-- the numbers fit: there is room, and there is a goal
unfoldable pub roomy_for : ℕ → ℕ → ℕ → ℕ → ℕ → ℕ → Bool
roomy_for nodes groups positions goals graph waits =
    leb nodes 1024 && (leb 2049 graph && (leb (places_in graph) 8192 && (leb groups (places_in graph)
    && (leb positions (places_in graph) && (leb 1 goals && (leb goals 8 && leb (goals * nodes) waits))))))

-- the arrays are those of a hypergraph: starts in order, numbers in range, and each group has an end
unfoldable pub hypergraph : List ℕ → ℕ → ℕ → ℕ → Bool
hypergraph graph nodes groups positions =
    ordered (starts_in graph nodes) positions
    && (all_below (rev_in graph positions) groups && (all_below (groups_in graph groups) nodes
    && every groups 0 (λ g. is_in g (rev_in graph positions))))

-- what is tested of them in one go: the starts, the numbers, and a rising list of nodes
abbrev pub sound_in : List ℕ → ℕ → ℕ → ℕ → List ℕ → Bool
sound_in graph nodes groups positions start =
    ordered (starts_in graph nodes) positions
    && (all_below (rev_in graph positions) groups
    && (all_below (groups_in graph groups) nodes && rising 0 nodes start))

-- a game that can be worked out: it fits, and the start is a rising list of its nodes
unfoldable pub playable : List ℕ → ℕ → ℕ → ℕ → ℕ → List ℕ → ℕ → Bool
playable graph nodes groups positions goals start waits =
    roomy_for nodes groups positions goals (length graph) waits
    && (hypergraph graph nodes groups positions && rising 0 nodes start)

-- the nodes that are left in the end
unfoldable pub held_in : List ℕ → ℕ → ℕ → ℕ → ℕ → List ℕ → List ℕ
held_in graph nodes groups positions goals start =
    let labels = labels_in graph nodes in
    held_after nodes goals (can_in graph nodes groups positions) (over_at labels) (goal_of labels) start

-- and in how many steps each goal is forced from them
unfoldable pub waits_in : List ℕ → ℕ → ℕ → ℕ → ℕ → List ℕ → List ℕ
waits_in graph nodes groups positions goals all =
    let labels = labels_in graph nodes in
    steps_of nodes goals (can_in graph nodes groups positions) (over_at labels) (goal_of labels) all
