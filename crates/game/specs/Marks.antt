-- What is known of the groups and nodes while nodes are struck out of a set: which groups have an end outside it, how
-- many others each node has, and which nodes of the set can go on within it. Assumes nothing.
use Rattle.std.specs.Prelude.{◌≡◌, Bool, ◌&&◌, ◌||◌, not, List, ℕ, ◌≤◌, ◌<◌, eqb, ltb, length, get_or}
use Rattle.statements.specs.Sets.{numbers, every, is_in, filter}
use Rattle.game.specs.Walked.{nodes, node_at}

-- each position of group g passes a test
unfoldable pub wholly : List ℕ → (ℕ → Bool) → ℕ → Bool
wholly rev ok g = every (length rev) 0 (λ j. not (eqb (get_or rev j 0) g) || ok j)

-- a group of node x that is not marked as dead
unfoldable pub alive : List ℕ → List ℕ → ℕ → ℕ → Bool
alive gs dead x g = eqb (get_or gs g 0) x && eqb (get_or dead g 0) 0

-- a group is dead where a position of it fails a test, the groups of a node that are not are counted, and a node at
-- which another test holds is marked by 0 where it has such a group
pub record Marks (gs starts rev : List ℕ) (ok inside : ℕ → Bool) (member live dead : List ℕ) : Type 0 where
  pub dead_is : (g : ℕ) → g < length gs → eqb (get_or dead g 0) 0 ≡ wholly rev ok g
  pub live_is : (x : ℕ) → x < nodes starts
      → get_or live x 0 ≡ length (filter (alive gs dead x) (numbers (length gs) 0))
  pub member_is : (x : ℕ) → x < nodes starts → ltb (get_or member x 0) 1 ≡ (inside x && ltb 0 (get_or live x 0))
  pub member_long : nodes starts ≤ length member
  pub live_long : nodes starts ≤ length live
  pub dead_long : length gs ≤ length dead

-- the positions of the nodes of a set, as a test
unfoldable pub ends_at : List ℕ → List ℕ → ℕ → Bool
ends_at starts set j = is_in (node_at starts j) set

-- what is known when the set is a list
abbrev pub Marked : List ℕ → List ℕ → List ℕ → List ℕ → List ℕ → List ℕ → List ℕ → Type 0
Marked gs starts rev set member live dead =
    Marks gs starts rev (ends_at starts set) (λ x. is_in x set) member live dead

-- some nodes are struck out of a set
unfoldable pub without : List ℕ → List ℕ → List ℕ
without gone set = filter (λ x. not (is_in x gone)) set
