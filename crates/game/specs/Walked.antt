-- Backward reachability in a directed hypergraph on arrays: what the walk gives, and which arrays it takes. Nodes are
-- numbered from 0. Group g (a hyperedge) belongs to node gs[g]. Position j of `rev` says that group rev[j] has an end
-- at the node t with starts[t] ≤ j < starts[t + 1]. A node is in the set when its number in `member` is 0, and a
-- target when its wait is 0 before the walk.
use Rattle.std.specs.Prelude.{Bool, ◌&&◌, ◌||◌, not, List, [], ◌∷◌, ℕ, ◌+◌, ◌-◌, eqb, ltb, leb, length, get_or}
use Rattle.statements.specs.Sets.{pick, numbers, every, first, joined, iterate, is_in, filter}

-- the number of nodes: there is a start for each, and one more where the last positions end
unfoldable pub nodes : List ℕ → ℕ
nodes starts = length starts - 1

-- the node of position j: the first whose positions end after it
unfoldable pub node_at : List ℕ → ℕ → ℕ
node_at starts j = first (nodes starts) 0 (λ t. ltb j (get_or starts (t + 1) 0))

-- group g leads into a set: it has an end, and each of its ends is in the set
unfoldable pub leads_into : List ℕ → List ℕ → List ℕ → ℕ → Bool
leads_into starts rev xs g =
    is_in g rev && every (length rev) 0 (λ j. not (eqb (get_or rev j 0) g) || is_in (node_at starts j) xs)

-- node x has a group that leads into a set
unfoldable pub can_enter : List ℕ → List ℕ → List ℕ → List ℕ → ℕ → Bool
can_enter gs starts rev xs x =
    ltb (first (length gs) 0 (λ g. eqb (get_or gs g 0) x && leads_into starts rev xs g)) (length gs)

-- a level grown by one step: its nodes, and the nodes of the set with a group that leads into it
unfoldable pub grown_by : List ℕ → List ℕ → List ℕ → List ℕ → List ℕ → List ℕ
grown_by gs starts rev member xs =
    filter (λ x. is_in x xs || (eqb (get_or member x 0) 0 && can_enter gs starts rev xs x)) (numbers (nodes starts) 0)

-- the targets
unfoldable pub targets : List ℕ → List ℕ → List ℕ
targets starts waits = filter (λ x. eqb (get_or waits x 0) 0) (numbers (nodes starts) 0)

-- level k: the targets grown k times
unfoldable pub level : List ℕ → List ℕ → List ℕ → List ℕ → List ℕ → ℕ → List ℕ
level gs starts rev member waits k = iterate k (grown_by gs starts rev member) (targets starts waits)

-- a number below n itself, and the mark 65535 for any other
abbrev pub or_mark : ℕ → ℕ → ℕ
or_mark n k = pick (ltb k n) k 65535

-- the wait of a node: the first level that has it, and the mark where none has
unfoldable pub wait_of : List ℕ → List ℕ → List ℕ → List ℕ → List ℕ → ℕ → ℕ
wait_of gs starts rev member waits x =
    or_mark (nodes starts) (first (nodes starts) 0 (λ k. is_in x (level gs starts rev member waits k)))

-- the waits of all nodes
unfoldable pub walked_waits : List ℕ → List ℕ → List ℕ → List ℕ → List ℕ → List ℕ
walked_waits gs starts rev member waits = joined (nodes starts) 0 (λ x. wait_of gs starts rev member waits x ∷ [])

-- the starts begin with 0, never fall, and end with the number of positions
unfoldable pub ordered : List ℕ → ℕ → Bool
ordered starts positions =
    every (nodes starts) 0 (λ t. leb (get_or starts t 0) (get_or starts (t + 1) 0))
    && (eqb (get_or starts 0 0) 0 && eqb (get_or starts (nodes starts) 0) positions)

-- each number of a list is below a limit
unfoldable pub all_below : List ℕ → ℕ → Bool
all_below xs limit = every (length xs) 0 (λ i. ltb (get_or xs i 0) limit)
