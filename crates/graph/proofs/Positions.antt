-- The sorted list by position: which place stands at a position, at which position a place stands, and whose positions
-- are whose, where every key is below the limit. Assumes nothing.
use mathlib.Core.Path.{◌≡◌, refl, sym, ap, ◌∙◌}
use mathlib.Core.List.{List, [], ◌∷◌, map}
use Prim.Native.Nat.{ℕ, zero, suc, ◌+◌, ◌-◌, ◌<◌, ◌≤◌}
use native.Mathlib.Omega.{arith}
use native.Mathlib.Numerals.{add-one}
use borrow.Author.Tests.{eqb-true}
use lib.Dec.{eqb}
use lib.ListN.{length, get_or, take, length-map}
use lib.Seq.{slice, get_or-take, get_or-drop}
use Rattle.statements.specs.Sets.{numbers, filter}
use Rattle.sets.proofs.Members.{filter_holds}
use Rattle.sets.proofs.Joined.{joined_length}
use Rattle.sort.specs.Sorted.{places_of, order_of, sorted_by, lower, starts_of}
use Rattle.sort.specs.Steps.{count_of}
use Rattle.sort.specs.Stable.{rank_of}
use Rattle.sort.proofs.Places.{lower_none, lower_all, lower_next, lower_up}
use Rattle.sort.proofs.Order.{stable, parts}
use Rattle.game.specs.Walked.{nodes, node_at}
use Rattle.game.specs.Steps.{Index}
use Rattle.game.proofs.Nodes.{node_has}
use Rattle.game.proofs.Levels.{place_has}

-- a function of each number of a list, by place
map_at : (f : ℕ → ℕ) (xs : List ℕ) (j : ℕ) → j < length xs → get_or (map f xs) j 0 ≡ f (get_or xs j 0)
map_at f [] j h = absurd (omega arith)
map_at f (x ∷ xs) zero h = refl
map_at f (x ∷ xs) (suc j) h = map_at f xs j (omega arith)

-- the places of a key have it
place_key : (keys : List ℕ) (t i : ℕ) → i < count_of keys (length keys) t
    → get_or keys (get_or (places_of keys (length keys) t) i 0) 0 ≡ t
unfolding places_of count_of
place_key keys t i h =
    let places = filter (λ a. eqb (get_or keys a 0) t) (numbers (length keys) 0) in
    let a = get_or places i 0 in
    eqb-true (get_or keys a 0) t
    (filter_holds (λ b. eqb (get_or keys b 0) t) (numbers (length keys) 0) a (place_has places a i h refl)).1

module _ (n : ℕ) (keys vals : List ℕ) where
  -- there is a start for each node, and one more
  pub starts_long : length (starts_of n keys) ≡ suc n
  unfolding starts_of
  starts_long = joined_length (λ t. lower keys t ∷ []) 1 (λ _. refl) (suc n) 0 ∙ omega arith

  pub starts_nodes : nodes (starts_of n keys) ≡ n
  unfolding nodes
  starts_nodes = omega (arith, starts_long)

  -- a start is the number of lower keys
  pub start_is : (t : ℕ) → t ≤ n → get_or (starts_of n keys) t 0 ≡ lower keys t
  start_is = (parts keys n vals).start

  next_is : (t : ℕ) → t < n → get_or (starts_of n keys) (t + 1) 0 ≡ lower keys (suc t)
  next_is t h = rw add-one (start_is (suc t) (omega arith))

  pub starts_zero : get_or (starts_of n keys) 0 0 ≡ 0
  starts_zero = start_is 0 (omega arith) ∙ lower_none keys

  pub starts_up : (t : ℕ) → t < n → get_or (starts_of n keys) t 0 ≤ get_or (starts_of n keys) (t + 1) 0
  starts_up t h = omega (arith, start_is t (omega arith), next_is t h, lower_up keys t (suc t) (omega arith))

  module _ (low : (a : ℕ) → a < length keys → get_or keys a 0 < n) where
    order_long : length (order_of n keys) ≡ length keys
    order_long = (stable keys n).long ∙ lower_all n keys low

    -- as many values as keys, and the last start is past them
    pub sorted_long : length (sorted_by n keys vals) ≡ length keys
    unfolding sorted_by
    sorted_long = length-map (order_of n keys) (λ a. get_or vals a 0) ∙ order_long

    pub starts_last : get_or (starts_of n keys) n 0 ≡ length (sorted_by n keys vals)
    starts_last = omega (arith, start_is n (omega arith), lower_all n keys low, sorted_long)

    -- the place at a position
    pub position_place : (j : ℕ) → j < length (sorted_by n keys vals)
        → let a = get_or (order_of n keys) j 0 in
        (a < length keys) × (get_or (sorted_by n keys vals) j 0 ≡ get_or vals a 0)
    unfolding sorted_by
    position_place j h =
        let long : j < length (order_of n keys) = omega (arith, order_long, sorted_long) in
        (((stable keys n).no_other j long).0, map_at (λ a. get_or vals a 0) (order_of n keys) j long)

    -- the position of a place
    pub place_position : (a : ℕ) → a < length keys
        → (j : ℕ) × (j < length (sorted_by n keys vals)) × (get_or (order_of n keys) j 0 ≡ a)
    place_position a h =
        let o = (stable keys n).stands a h (low a h) in
        (rank_of keys a, omega (arith, o.0, order_long, sorted_long), o.1)

-- the key of the place at position j, in the part of key t
part_key : (n : ℕ) (keys : List ℕ) (t j : ℕ) → t < n → lower keys t ≤ j → j < lower keys (suc t)
    → j < length (order_of n keys) → get_or keys (get_or (order_of n keys) j 0) 0 ≡ t
unfolding sorted_by count_of
part_key n keys t j h from to long =
    let key : ℕ → ℕ = λ a. get_or keys a 0 in
    let places = places_of keys (length keys) t in
    let lo = lower keys t in
    let there : lo + (j - lo) ≡ j = omega arith in
    let within : j - lo < count_of keys (length keys) t = omega (arith, lower_next keys t) in
    let sorted = sorted_by n keys keys in
    let read : get_or (slice lo (lower keys (suc t)) sorted) (j - lo) 0 ≡ get_or sorted j 0 =
    get_or-drop lo _ (j - lo) 0
    ∙ ap (λ (k : ℕ). get_or (take (lower keys (suc t)) sorted) k 0) there
    ∙ get_or-take (lower keys (suc t)) sorted j 0 to in
    sym (map_at key (order_of n keys) j long)
    ∙ sym read
    ∙ ap (λ (l : List ℕ). get_or l (j - lo) 0) ((parts keys n keys).part t h)
    ∙ map_at key places (j - lo) within
    ∙ place_key keys t (j - lo) within

-- the node of a position is the key of the place there
pub node_key : (n : ℕ) (keys vals gs : List ℕ) (low : (a : ℕ) → a < length keys → get_or keys a 0 < n)
    → Index (sorted_by n keys vals) (starts_of n keys) gs → (j : ℕ) → j < length (sorted_by n keys vals)
    → node_at (starts_of n keys) j ≡ get_or keys (get_or (order_of n keys) j 0) 0
node_key n keys vals gs low x j h =
    let has = node_has (sorted_by n keys vals) (starts_of n keys) gs x j h in
    let t = node_at (starts_of n keys) j in
    let below : t < n = omega (arith, has.0, starts_nodes n keys vals) in
    sym (part_key n keys t j below (omega (arith, has.1.0, start_is n keys vals t (omega arith)))
    (omega (arith, has.1.1, next_is n keys vals t below))
    (omega (arith, order_long n keys vals low, sorted_long n keys vals low)))
