-- What the steps of the walk hand on to each other: counters of the groups, the queue, and the waits so far.
use Rattle.std.specs.Prelude.{◌≡◌, Bool, true, false, ◌&&◌, ◌||◌, not, ◌⊎◌, List, ℕ, zero, suc, ◌+◌, ◌-◌, ◌<◌, ◌≤◌, eqb, ltb, leb, get_or, length, take}
use Rattle.statements.specs.Sets.{numbers, is_in, filter}
use Rattle.game.specs.Walked.{nodes, node_at}

-- the nodes below n with a wait
unfoldable pub reached : ℕ → List ℕ → List ℕ
reached n w = filter (λ y. ltb (get_or w y 0) 65535) (numbers n 0)

-- the nodes below n that can have one: those of the set, and the targets
unfoldable pub possible : ℕ → List ℕ → List ℕ → List ℕ
possible n member w = filter (λ y. ltb (get_or member y 0) 1 || ltb (get_or w y 0) 1) (numbers n 0)

-- the queue has each node below n with a wait once, ordered by wait, and no wait is above m
pub record Queue (n : ℕ) (w q : List ℕ) (tail m : ℕ) : Type 0 where
  pub valid : (y : ℕ) → y < n → (get_or w y 0 ≤ m) ⊎ (get_or w y 0 ≡ 65535)
  pub size : tail ≡ length (reached n w)
  pub members : (y : ℕ) → y < n → is_in y (take tail q) ≡ ltb (get_or w y 0) 65535
  pub inside : (i : ℕ) → i < tail → get_or q i 0 < n
  pub once : (i : ℕ) → i < tail → is_in (get_or q i 0) (take i q) ≡ false
  pub slow : (i : ℕ) → i < tail → get_or w (get_or q i 0) 0 ≤ i
  pub rises : (i : ℕ) → i + 1 < tail → get_or w (get_or q i 0) 0 ≤ get_or w (get_or q (i + 1) 0) 0

-- position j is one of group g that is not passed
abbrev pub waiting : List ℕ → (ℕ → Bool) → ℕ → ℕ → Bool
waiting rev done g j = eqb (get_or rev j 0) g && not (done j)

-- a position of group g
abbrev pub Has : List ℕ → ℕ → Type 0
Has rev g = (i : ℕ) × ((i < length rev) × (get_or rev i 0 ≡ g))

-- each end of group g has a wait of at most k
abbrev pub Within : List ℕ → List ℕ → List ℕ → ℕ → ℕ → Type 0
Within starts rev w g k = (j : ℕ) → j < length rev → get_or rev j 0 ≡ g → get_or w (node_at starts j) 0 ≤ k

-- the counters and the waits in the light of the positions passed; v is the wait of the node under way, w₀ the waits
-- before the walk
pub record Groups (starts rev gs member w₀ : List ℕ) (done : ℕ → Bool) (v : ℕ) (cnt w : List ℕ) : Type 0 where
  pub counted : (g : ℕ) → g < length gs → get_or cnt g 0 ≡ length (filter (waiting rev done g) (numbers (length rev) 0))
  pub passes : (j : ℕ) → j < length rev → done j ≡ true → get_or w (node_at starts j) 0 ≤ v
  pub start : (y : ℕ) → y < nodes starts → ltb (get_or w y 0) 1 ≡ ltb (get_or w₀ y 0) 1
  pub rest : (y : ℕ) → nodes starts ≤ y → get_or w y 0 ≡ get_or w₀ y 0
  pub inside : (y : ℕ) → y < nodes starts → 0 < get_or w y 0 → get_or w y 0 < 65535 → get_or member y 0 < 1
  pub sound : (y k : ℕ) → y < nodes starts → get_or w y 0 ≡ suc k → suc k < 65535
      → (g : ℕ) × ((g < length gs) × ((get_or gs g 0 ≡ y) × (Has rev g × Within starts rev w g k)))
  pub complete : (g k : ℕ) → g < length gs → get_or member (get_or gs g 0) 0 < 1 → Has rev g
      → ((j : ℕ) → j < length rev → get_or rev j 0 ≡ g → done j ≡ true) → Within starts rev w g k
      → get_or w (get_or gs g 0) 0 ≤ k + 1

-- the arrays are those of a hypergraph
pub record Index (rev starts gs : List ℕ) : Type 0 where
  pub some : 0 < length starts
  pub small : nodes starts ≤ 1024
  pub zero_is : get_or starts 0 0 ≡ 0
  pub up : (t : ℕ) → t < nodes starts → get_or starts t 0 ≤ get_or starts (t + 1) 0
  pub last_is : get_or starts (nodes starts) 0 ≡ length rev
  pub groups : (j : ℕ) → j < length rev → get_or rev j 0 < length gs
  pub of_node : (g : ℕ) → g < length gs → get_or gs g 0 < nodes starts

-- there is room for each node and each group
pub record Rooms (starts gs member cnt w q : List ℕ) : Type 0 where
  pub member_long : nodes starts ≤ length member
  pub cnt_long : length gs ≤ length cnt
  pub w_long : nodes starts ≤ length w
  pub q_long : nodes starts ≤ length q

-- a position is passed when its node is among the first of the queue
unfoldable pub popped : List ℕ → List ℕ → ℕ → ℕ → Bool
popped starts q head j = is_in (node_at starts j) (take head q)

-- or when it is one of the positions from lo up to hi
unfoldable pub passed : List ℕ → List ℕ → ℕ → ℕ → ℕ → ℕ → Bool
passed starts q head lo hi j = popped starts q head j || (leb lo j && ltb j hi)

-- the wait of the node taken last from the queue
unfoldable pub last_wait : List ℕ → List ℕ → ℕ → ℕ
last_wait w q zero = 0
last_wait w q (suc h) = get_or w (get_or q h 0) 0

-- the walk after the first `head` nodes of the queue
pub record Walking (rev starts gs member w₀ cnt w q : List ℕ) (head tail : ℕ) : Type 0 where
  pub groups : Groups starts rev gs member w₀ (popped starts q head) (last_wait w q head) cnt w
  pub queue : Queue (nodes starts) w q tail (last_wait w q head + 1)
  pub under : head ≤ tail

-- 0 exactly where no end of the group is left, its node has the mark, and it is in the set
pub record Misses (left old out r : ℕ) : Type 0 where
  pub met : r ≡ 0 → left + (65535 - old) + out ≡ 0
  pub back : left + (65535 - old) + out ≡ 0 → r ≡ 0
