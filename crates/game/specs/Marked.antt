-- Marked examples of the walk and of games, proved by computation in proofs/Examples.antt. M is the mark.
use Rattle.std.specs.Prelude.{◌≡◌, Bool, false, List, [], ◌∷◌, ℕ, eqb}
use Rattle.game.specs.Walked.{node_at, can_enter, walked_waits}
use Rattle.game.specs.Game.{Can, held_after, steps_of}
use Rattle.game.specs.Draining.{moves_on, drained}

abbrev M : ℕ
M = 65535

abbrev two : ℕ → ℕ → List ℕ
two a b = a ∷ (b ∷ [])

abbrev three : ℕ → ℕ → ℕ → List ℕ
three a b c = a ∷ two b c

abbrev four : ℕ → ℕ → ℕ → ℕ → List ℕ
four a b c d = a ∷ three b c d

pub record Marked : Type 0 where
  -- a chain: a group of node 0 ends at node 1, a group of node 1 at node 2, the target
  pub chain : walked_waits (two 0 1) (four 0 0 1 2) (two 0 1) (three 0 0 0) (three M M 0) ≡ three 2 1 0
  -- node 1 outside the set: it keeps the mark, and so does the node before it
  pub outside : walked_waits (two 0 1) (four 0 0 1 2) (two 0 1) (three 0 9 0) (three M M 0) ≡ three M M 0
  -- a target outside the set
  pub target_outside : walked_waits (two 0 1) (four 0 0 1 2) (two 0 1) (three 0 0 9) (three M M 0) ≡ three 2 1 0
  -- a group of node 0 with ends at nodes 1 and 2: both must have a wait
  pub both : walked_waits (two 0 1) (four 0 0 1 3) (three 0 0 1) (three 0 0 0) (three M M 0) ≡ three 2 1 0
  pub not_both : walked_waits (two 0 1) (four 0 0 1 3) (three 0 0 1) (three 0 9 0) (three M M 0) ≡ three M M 0
  -- a second group of node 0, that ends at node 2 alone: the shorter way counts
  pub shorter : walked_waits (three 0 1 0) (four 0 0 1 3) (three 0 1 2) (three 0 0 0) (three M M 0) ≡ three 1 1 0
  -- a group with no position never counts
  pub no_end : walked_waits (0 ∷ []) (three 0 0 0) [] (two 0 0) (two M 0) ≡ two M 0
  -- a cycle of nodes 0 and 1, and the same with a way out of it from node 1 to node 2
  pub cycle : walked_waits (two 0 1) (three 0 1 2) (two 1 0) (two 0 0) (two M M) ≡ two M M
  pub way_out : walked_waits (three 0 1 1) (four 0 1 2 3) (three 1 0 2) (three 0 0 0) (three M M 0) ≡ three 2 1 0
  -- the nodes of positions 0 to 2 where node 0 has none, node 1 one and node 2 two
  pub first_node : node_at (four 0 0 1 3) 0 ≡ 1
  pub second_node : node_at (four 0 0 1 3) 1 ≡ 2
  pub third_node : node_at (four 0 0 1 3) 2 ≡ 2

-- two nodes: node 0 leads to node 1, which leads to itself or, in the second game, nowhere
abbrev onward : Can
onward = can_enter (two 0 1) (three 0 0 2) (two 0 1)

abbrev stuck : Can
stuck = can_enter (0 ∷ []) (three 0 0 1) (0 ∷ [])

abbrev nowhere : ℕ → Bool
nowhere x = false

abbrev second : ℕ → ℕ → Bool
second i x = eqb x 1

pub record MarkedGames : Type 0 where
  -- the goal is node 1: both nodes are left, one step and none from it
  pub left : held_after 2 1 onward nowhere second (two 0 1) ≡ two 0 1
  pub steps : steps_of 2 1 onward nowhere second (two 0 1) ≡ two 1 0
  -- a goal that cannot go on is lost in the first round, and what leads to it in the second
  pub first_round : held_after 1 1 stuck nowhere second (two 0 1) ≡ []
  pub lost : held_after 2 1 stuck nowhere second (two 0 1) ≡ []
  -- but not where a run is over there
  pub over_there : held_after 2 1 stuck (λ x. eqb x 1) second (two 0 1) ≡ two 0 1
  -- nothing is left of a start without the goal
  pub without_goal : held_after 2 1 onward nowhere second (0 ∷ []) ≡ []
  -- a node that is not left has the mark
  pub mark : steps_of 2 1 onward nowhere second (1 ∷ []) ≡ two M 0

-- three nodes: node 0 leads to node 1, which leads to node 2, which leads nowhere
abbrev falling : Can
falling = can_enter (two 0 1) (four 0 0 1 2) (two 0 1)

pub record MarkedDrained : Type 0 where
  -- they fall one by one, and nothing is left
  pub one_step : moves_on falling nowhere (three 0 1 2) ≡ two 0 1
  pub nothing : drained falling nowhere (three 0 1 2) ≡ []
  -- but where a run is over at the end all are left
  pub over_there : drained falling (λ x. eqb x 2) (three 0 1 2) ≡ three 0 1 2
