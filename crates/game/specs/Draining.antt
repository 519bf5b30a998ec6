-- Nodes that cannot go on are struck out of a set by a worklist until it is empty: what is left, and what is known on
-- the way. Assumes nothing.
use Rattle.std.specs.Prelude.{◌≡◌, ◌⊎◌, ◌↔◌, Bool, true, false, ◌||◌, List, ℕ, ◌+◌, ◌*◌, ◌≤◌, ◌<◌, ltb, length, get_or, take}
use Rattle.statements.specs.Sets.{numbers, pick, iterate, is_in, filter}
use Rattle.sets.proofs.Members.{Sifted}
use Rattle.game.specs.Walked.{node_at}
use Rattle.game.specs.Game.{Can}
use Rattle.game.specs.Packed.{groups_in, rev_in, starts_in, labels_in, over_at, can_in}
use Rattle.game.specs.Marks.{Marks, ends_at, Marked, without}
use Rattle.game.specs.Cuts.{waits_all}
use Rattle.game.specs.Playing.{Ready}

-- the nodes of a set at which a run is over or that can go on within it
unfoldable pub moves_on : Can → (ℕ → Bool) → List ℕ → List ℕ
moves_on can done ys = filter (λ x. done x || can ys x) ys

-- what is left when the others are struck out until there are none (a safety game)
unfoldable pub drained : Can → (ℕ → Bool) → List ℕ → List ℕ
drained can done ys = iterate (length ys) (moves_on can done) ys

-- that of a packed game
abbrev pub drained_in : List ℕ → ℕ → ℕ → ℕ → List ℕ → List ℕ
drained_in graph nodes groups positions ys =
    drained (can_in graph nodes groups positions) (over_at (labels_in graph nodes)) ys

-- a worklist that was run until it was empty, by what went on it: the first n places of a list that only grew. No node
-- went on it twice, and what went on it is what was struck out
pub record Emptied (before after list : List ℕ) (n : ℕ) : Type 0 where
  pub within : n ≤ length list
  pub once : (j k : ℕ) → j < k → k < n → get_or list j 0 ≡ get_or list k 0 → ⊥
  pub struck : (x : ℕ) → (is_in x (take n list) ≡ true) ↔ ((is_in x before ≡ true) × (is_in x after ≡ false))
  pub all : n + length after ≡ length before

-- no node stands twice among the first n places of a list
abbrev pub Once : List ℕ → ℕ → Type 0
Once list n = (i : ℕ) → i < n → is_in (get_or list i 0) (take i list) ≡ false

-- the marks of a list's nodes are taken away, and no other number changes
abbrev pub Unmarked : List ℕ → List ℕ → List ℕ → Type 0
Unmarked gone old new = (y : ℕ) → get_or new y 0 ≡ pick (is_in y gone) 65535 (get_or old y 0)

-- a worklist in use on a packed game: nodes of a set, each once, are on it and not marked. A group is dead where a
-- position of it fails a test; a node that is not on the list has another group, or a run is over there; and no part of
-- the set without the first nodes that goes on within itself has a node on the list
pub record Draining (graph : List ℕ) (nodes groups positions : ℕ) (ok : ℕ → Bool) (set first : List ℕ)
    (member live dead list : List ℕ) (tail : ℕ) : Type 0 where
  pub marks : Marks (groups_in graph groups) (starts_in graph nodes) (rev_in graph positions) ok
      (λ x. is_in x (without (take tail list) set)) member live dead
  pub sifted : Sifted (numbers nodes 0) set
  pub room : nodes ≤ length list
  pub inside : (i : ℕ) → i < tail → is_in (get_or list i 0) set ≡ true
  pub once : Once list tail
  pub number : tail + length (without (take tail list) set) ≡ length set
  pub from : length first ≤ tail
  pub front : take (length first) list ≡ first
  pub others : (x : ℕ) → is_in x set ≡ true → is_in x (take tail list) ≡ false
      → (over_at (labels_in graph nodes) x ≡ true) ⊎ (0 < get_or live x 0)
  pub spares : (part : List ℕ) → ((x : ℕ) → is_in x part ≡ true → is_in x (without first set) ≡ true)
      → ((x : ℕ) → is_in x part ≡ true
      → (over_at (labels_in graph nodes) x ≡ true) ⊎ (can_in graph nodes groups positions part x ≡ true))
      → (x : ℕ) → is_in x part ≡ true → is_in x (take tail list) ≡ false

-- the same where the first `head` nodes of the list are taken off it: a group is dead where it has an end outside the
-- set or at one of them
abbrev pub Taken : List ℕ → ℕ → ℕ → ℕ → List ℕ → List ℕ → List ℕ → List ℕ → List ℕ → List ℕ → ℕ → ℕ → Type 0
Taken graph nodes groups positions set first member live dead list head tail =
    (head ≤ tail)
    × Draining graph nodes groups positions (ends_at (starts_in graph nodes) (without (take head list) set)) set first
    member live dead list tail

-- nodes are put on a worklist after those that are on it
pub record Grown (old new : List ℕ) (tail end : ℕ) : Type 0 where
  pub more : tail ≤ end
  pub same : take tail new ≡ take tail old

-- a position of group g fails a second test, elsewhere the two tests agree, and no position of a node of the set fails
pub record Fails (starts rev : List ℕ) (ok after : ℕ → Bool) (set : List ℕ) (g : ℕ) : Type 0 where
  pub place : ℕ
  pub low : place < length rev
  pub of_group : get_or rev place 0 ≡ g
  pub no : after place ≡ false
  pub same : (i : ℕ) → (i ≡ place → ⊥) → ok i ≡ after i
  pub passes : (i : ℕ) → i < length rev → is_in (node_at starts i) set ≡ true → after i ≡ true

-- a node at which a run is over or that is marked, as a test
unfoldable pub remains : List ℕ → List ℕ → ℕ → Bool
remains labels member x = ltb (get_or member x 0) 1 || over_at labels x

-- each node of a set that passes a test has a group that is not dead, or a run is over there
abbrev pub GoesOn : (ℕ → Bool) → List ℕ → List ℕ → List ℕ → Type 0
GoesOn test labels set live =
    (x : ℕ) → is_in x set ≡ true → test x ≡ true → (over_at labels x ≡ true) ⊎ (0 < get_or live x 0)

-- a round can end: its set stands at the front of a list and is marked, a node of it with a wait for each goal goes on,
-- and there is room to list the others
pub record Ending (graph : List ℕ) (nodes groups positions goals kept : ℕ) (waits list member live dead gone : List ℕ)
    : Type 0 where
  pub ready : Ready graph nodes groups positions goals
  pub front : kept ≤ length list
  pub sifted : Sifted (numbers nodes 0) (take kept list)
  pub columns : goals * nodes ≤ length waits
  pub room : nodes ≤ length gone
  pub marked : Marked (groups_in graph groups) (starts_in graph nodes) (rev_in graph positions) (take kept list)
      member live dead
  pub goes : GoesOn (waits_all waits nodes goals) (labels_in graph nodes) (take kept list) live
