-- A generalized Büchi game, told from a test that says which nodes can go on into a set in one step: from which nodes
-- every goal can be forced again and again without leaving a set, and in how many steps. Assumes nothing.
use Rattle.std.specs.Prelude.{Bool, ◌&&◌, ◌||◌, List, [], ◌∷◌, ℕ, zero, suc, length}
use Rattle.statements.specs.Sets.{pick, first, joined, iterate, is_in, filter}

-- whether a node can go on into a set in one step (its controllable predecessor, as a test)
abbrev pub Can : Type 0
Can = List ℕ → ℕ → Bool

-- a set grown by one step within another: its nodes, and those that can go on into it
unfoldable pub grown_in : Can → List ℕ → List ℕ → List ℕ
grown_in can all ys = filter (λ x. is_in x ys || can ys x) all

-- where a reach within a set begins: its nodes at which a run is over, and those of the goal that can go on within it
unfoldable pub aims : Can → (ℕ → Bool) → (ℕ → Bool) → List ℕ → List ℕ
aims can done goal all = filter (λ x. done x || (goal x && can all x)) all

-- the nodes reached within k steps
unfoldable pub reached_in : Can → (ℕ → Bool) → (ℕ → Bool) → List ℕ → ℕ → List ℕ
reached_in can done goal all k = iterate k (grown_in can all) (aims can done goal all)

-- all nodes of the set from which the goal can be forced within it (the attractor)
unfoldable pub attracted : Can → (ℕ → Bool) → (ℕ → Bool) → List ℕ → List ℕ
attracted can done goal all = reached_in can done goal all (length all)

-- those from which each of the first n goals can be forced
unfoldable pub attracted_all : ℕ → Can → (ℕ → Bool) → (ℕ → ℕ → Bool) → List ℕ → List ℕ
attracted_all zero can done goal all = all
attracted_all (suc i) can done goal all =
    let ys = attracted can done (goal i) all in
    filter (λ x. is_in x ys) (attracted_all i can done goal all)

-- the nodes left after so many rounds, each of which strikes out those from which some goal cannot be forced
unfoldable pub held_after : ℕ → ℕ → Can → (ℕ → Bool) → (ℕ → ℕ → Bool) → List ℕ → List ℕ
held_after rounds goals can done goal start = iterate rounds (attracted_all goals can done goal) start

-- the number of steps in which the goal is forced from a node, and the mark 65535 where it cannot be
unfoldable pub steps_to : Can → (ℕ → Bool) → (ℕ → Bool) → List ℕ → ℕ → ℕ
steps_to can done goal all x =
    pick (is_in x (attracted can done goal all)) (first (length all) 0 (λ k. is_in x (reached_in can done goal all k))) 65535

-- these of the n nodes for each of the goals, one goal after the other
unfoldable pub steps_of : ℕ → ℕ → Can → (ℕ → Bool) → (ℕ → ℕ → Bool) → List ℕ → List ℕ
steps_of n goals can done goal all = joined goals 0 (λ i. joined n 0 (λ x. steps_to can done (goal i) all x ∷ []))
