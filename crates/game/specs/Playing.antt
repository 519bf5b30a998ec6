-- What the turns of a game hand on to each other: which waits are worked out for which set. Assumes nothing.
use Rattle.std.specs.Prelude.{◌≡◌, ◌⊎◌, Option, Some, None, Bool, true, ◌&&◌, List, ℕ, ◌+◌, ◌-◌, ◌*◌, ◌≤◌, ◌<◌, ltb, length, get_or, take, drop}
use Rattle.statements.specs.Sets.{numbers, is_in, over, pick}
use Rattle.sets.proofs.Members.{Sifted}
use Rattle.sort.specs.Steps.{Holds, count_of}
use Rattle.game.specs.Steps.{Index}
use Rattle.game.specs.Game.{Can, aims, attracted, steps_to}
use Rattle.game.specs.Packed.{places_in, groups_in, rev_in, starts_in, labels_in, goal_of, over_at, can_in, roomy_for}
use Rattle.game.specs.Packed.{sound_in, playable, held_in, waits_in}

-- the figures of a game fit an array of so many numbers
pub record Fits (size nodes groups positions : ℕ) : Type 0 where
  pub few_nodes : nodes ≤ 1024
  pub long : 2049 ≤ size
  pub places_few : places_in size ≤ 8192
  pub few_groups : groups ≤ places_in size
  pub few_positions : positions ≤ places_in size

-- a game that can be worked out
pub record Ready (graph : List ℕ) (nodes groups positions goals : ℕ) : Type 0 where
  pub fits : Fits (length graph) nodes groups positions
  pub some_goal : 0 < goals
  pub few_goals : goals ≤ 8
  pub index : Index (rev_in graph positions) (starts_in graph nodes) (groups_in graph groups)
  pub full : (g : ℕ) → g < groups → is_in g (rev_in graph positions) ≡ true

-- the tests that come before the arrays are made hold
pub record Tested (graph : List ℕ) (nodes groups positions goals : ℕ) (start : List ℕ) (waits : ℕ) : Type 0 where
  pub roomy : roomy_for nodes groups positions goals (length graph) waits ≡ true
  pub sound : sound_in graph nodes groups positions start ≡ true

-- what is answered: how many nodes are left, and their waits; no number and no waits for a game that cannot be worked out
pub record Worked (graph : List ℕ) (nodes groups positions goals : ℕ) (start old : List ℕ) (count : Option ℕ)
    (new : List ℕ) : Type 0 where
  pub kept : count
      ≡ pick (playable graph nodes groups positions goals start (length old))
      (Some (length (held_in graph nodes groups positions goals start))) None
  pub waits : new
      ≡ pick (playable graph nodes groups positions goals start (length old))
      (over (waits_in graph nodes groups positions goals (held_in graph nodes groups positions goals start)) old) old

-- an array with room for so many numbers, in which nothing but a filler stands
pub record Fresh (room filler : ℕ) (xs : List ℕ) : Type 0 where
  pub long : room ≤ length xs
  pub all : Holds (length xs) (λ t. filler) xs

-- the positions of each group are counted
pub record Sized (graph : List ℕ) (groups positions : ℕ) (sizes : List ℕ) : Type 0 where
  pub long : groups ≤ length sizes
  pub counted : Holds groups (count_of (rev_in graph positions) (length (rev_in graph positions))) sizes

-- a game can be played: it is ready, its start is a rising list of nodes, the positions of its groups are counted, two
-- arrays are filled, and there is room for so many waits
pub record Prepared (graph : List ℕ) (nodes groups positions goals : ℕ) (sizes start dead scratch : List ℕ) (waits : ℕ)
    : Type 0 where
  pub ready : Ready graph nodes groups positions goals
  pub sized : Sized graph groups positions sizes
  pub start_rises : Sifted (numbers nodes 0) start
  pub no_dead : Fresh groups 0 dead
  pub no_targets : Fresh (groups + 8) 65535 scratch
  pub room : goals * nodes ≤ waits

-- and it is played: how many nodes are left, and their waits
pub record Played (graph : List ℕ) (nodes groups positions goals : ℕ) (start old : List ℕ) (count : ℕ) (new : List ℕ)
    : Type 0 where
  pub number : count ≡ length (held_in graph nodes groups positions goals start)
  pub waits : new
      ≡ over (waits_in graph nodes groups positions goals (held_in graph nodes groups positions goals start)) old

-- a reach can begin: its targets are in line, and there is room for each node and each group
pub record Lined (graph : List ℕ) (nodes groups positions : ℕ) (sizes member counts queue : List ℕ) (tail : ℕ)
    : Type 0 where
  pub fits : Fits (length graph) nodes groups positions
  pub index : Index (rev_in graph positions) (starts_in graph nodes) (groups_in graph groups)
  pub sized : Sized graph groups positions sizes
  pub member_long : nodes ≤ length member
  pub counts_long : groups ≤ length counts
  pub queue_long : nodes ≤ length queue
  pub number : tail ≡ length (take tail queue)
  pub sifted : Sifted (numbers nodes 0) (take tail queue)

-- the reach to goal i within a set is worked out: the column of its waits, and how many targets there were
pub record Reached (can : Can) (done : ℕ → Bool) (goal : ℕ → ℕ → Bool) (n : ℕ) (set : List ℕ) (i : ℕ)
    (last waits : List ℕ) : Type 0 where
  pub column : (x : ℕ) → x < n → get_or waits (i * n + x) 0 ≡ steps_to can done (goal i) set x
  pub targets : get_or last i 0 ≡ length (aims can done (goal i) set)

-- what is left of a set when nodes are struck out: a part of it, with each node of the set that can go on into it
pub record Leaves (can : Can) (old new : List ℕ) : Type 0 where
  pub within : (x : ℕ) → is_in x new ≡ true → is_in x old ≡ true
  pub closed : (ys : List ℕ) (x : ℕ) → ((y : ℕ) → is_in y ys ≡ true → is_in y new ≡ true) → is_in x old ≡ true
      → can ys x ≡ true → is_in x new ≡ true

-- the reach was worked out within an earlier set, from which nodes were then struck out, at least those without a wait
pub record Earlier (can : Can) (done : ℕ → Bool) (goal : ℕ → ℕ → Bool) (n : ℕ) (set : List ℕ) (i : ℕ)
    (last waits : List ℕ) : Type 0 where
  pub old : List ℕ
  pub sifted : Sifted (numbers n 0) old
  pub leaves : Leaves can old set
  pub reached : Reached can done goal n old i last waits
  pub forced : (x : ℕ) → is_in x set ≡ true → is_in x (attracted can done (goal i) old) ≡ true

-- or it was never worked out
abbrev pub Older : Can → (ℕ → Bool) → (ℕ → ℕ → Bool) → ℕ → List ℕ → ℕ → List ℕ → List ℕ → Type 0
Older can done goal n set i last waits =
    (get_or last i 0 ≡ 65535) ⊎ Earlier can done goal n set i last waits

-- goal i has the same column of waits, and the same number of targets, as before
pub record Stays (n i : ℕ) (last waits last' waits' : List ℕ) : Type 0 where
  pub column : (x : ℕ) → x < n → get_or waits' (i * n + x) 0 ≡ get_or waits (i * n + x) 0
  pub targets : get_or last' i 0 ≡ get_or last i 0

-- the goals from `first` up to `end` are reached within a set, and for the others nothing changes
pub record Sought (can : Can) (done : ℕ → Bool) (goal : ℕ → ℕ → Bool) (n : ℕ) (set : List ℕ) (first end : ℕ)
    (last waits last' waits' : List ℕ) : Type 0 where
  pub reached : (i : ℕ) → first ≤ i → i < end → Older can done goal n set i last waits
      → Reached can done goal n set i last' waits'
  pub stays : (i : ℕ) → (i < first) ⊎ (end ≤ i) → Stays n i last waits last' waits'

-- that of a packed game
abbrev pub SoughtIn : List ℕ → ℕ → ℕ → ℕ → List ℕ → ℕ → ℕ → List ℕ → List ℕ → List ℕ → List ℕ → Type 0
SoughtIn graph nodes groups positions set first end last waits last' waits' =
    Sought (can_in graph nodes groups positions) (over_at (labels_in graph nodes)) (goal_of (labels_in graph nodes)) nodes
    set first end last waits last' waits'

-- a node is marked exactly where it is in the set and can go on within it
abbrev pub Standing : List ℕ → ℕ → ℕ → ℕ → List ℕ → List ℕ → Type 0
Standing graph nodes groups positions set member =
    (x : ℕ) → x < nodes → ltb (get_or member x 0) 1 ≡ (is_in x set && can_in graph nodes groups positions set x)

-- the last 8 numbers of an array: how many targets each goal had
unfoldable pub last_eight : List ℕ → List ℕ
last_eight xs = drop (length xs - 8) xs

-- a list is as long as before, and the same from a place on
pub record Rest (place : ℕ) (old new : List ℕ) : Type 0 where
  pub long : length new ≡ length old
  pub stays : drop place new ≡ drop place old
