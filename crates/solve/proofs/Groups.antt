-- What stands in the layout's lists for the group of an available move: how many groups and ends stand ahead of it, its
-- move, where its ends begin and stop, and its ends. Assumes nothing.
use mathlib.Core.Path.{◌≡◌, refl, sym, ap, ap₂, ◌∙◌}
use mathlib.Core.Logic.{⊎_elim}
use mathlib.Core.Bool.{true, false}
use mathlib.Core.List.{List, [], ◌∷◌, ◌++◌, append_assoc, append-nil}
use Prim.Native.Nat.{ℕ, suc, ◌+◌, ◌-◌, ◌≤◌, ◌<◌}
use native.Mathlib.Nat.{zero-add}
use native.Mathlib.Omega.{arith}
use lib.ListN.{length, get_or, drop, length-append, length-take, length-drop}
use lib.Seq.{drop-append_seam, get_or-append_seam, get_or-take, get_or-drop}
use Rattle.statements.specs.Sets.{joined}
use Rattle.statements.specs.Plants.{Plant, ends, available}
use Rattle.sets.proofs.Tests.{decided}
use Rattle.sets.proofs.Joined.{joined_length, joined_split, joined_more}
use Rattle.layout.specs.Layout.{part_of, parts_of, all_parts, group_moves, group_ends, group_sizes, group_counts, total}
use Rattle.layout.specs.Layout.{starts, bounds, group_begins, first_groups, Front}
use Rattle.layout.proofs.Lengths.{total_append, starts_length}
use Rattle.layout.proofs.Joining.{joined_total, joined_long}

-- a number of a list that an array has from a place on
pub front_at : (n : ℕ) (xs table : List ℕ) → Front xs (drop n table) → (k : ℕ) → k < length xs
    → get_or table (n + k) 0 ≡ get_or xs k 0
front_at n xs table e k h =
    sym (get_or-drop n table k 0)
    ∙ sym (get_or-take (length xs) (drop n table) k 0 h)
    ∙ ap (λ (l : List ℕ). get_or l k 0) e

-- it stands in the array
pub front_in : (n : ℕ) (xs table : List ℕ) → Front xs (drop n table) → (k : ℕ) → k < length xs → n + k < length table
front_in n xs table e k h =
    omega (arith, ap length e, length-take (length xs) (drop n table), length-drop n table)

-- where parts begin: at the sum of those before
starts_here : (at : ℕ) (before after : List ℕ)
    → get_or (starts at (before ++ after) ++ ((at + total (before ++ after)) ∷ [])) (length before) 0 ≡ at + total before
unfolding starts total
starts_here at [] [] = refl
starts_here at [] (n ∷ after) = omega arith
starts_here at (n ∷ before) after =
    let whole : at + (n + total (before ++ after)) ≡ at + n + total (before ++ after) = omega arith in
    let sum : at + n + total before ≡ at + (n + total before) = omega arith in
    ap (λ (i : ℕ). get_or (starts (at + n) (before ++ after) ++ (i ∷ [])) (length before) 0) whole
    ∙ starts_here (at + n) before after
    ∙ sum

-- the same, told of all bounds
bounds_here : (ns before after : List ℕ) → ns ≡ before ++ after → get_or (bounds ns) (length before) 0 ≡ total before
unfolding bounds
bounds_here ns before after e = rw e (simp zero-add at (starts_here 0 before after))

-- there is one bound more than parts
bounds_long : (ns : List ℕ) → length (bounds ns) ≡ suc (length ns)
unfolding bounds
bounds_long ns = omega (arith, length-append (starts 0 ns) (total ns ∷ []), starts_length 0 ns)

-- lists joined, with number v in their midst
joined_here : (f : ℕ → List ℕ) (n v : ℕ) → v < n
    → joined n 0 f ≡ joined v 0 f ++ (f v ++ joined (n - suc v) (suc v) f)
unfolding joined
joined_here f n v h =
    let all : v + suc (n - suc v) ≡ n = omega arith in
    rw all at (rw zero-add at (joined_split f v (suc (n - suc v)) 0))

-- what is told of a group: its move, how many ends it has, and its ends
abbrev pub the_move : ℕ → ℕ → List ℕ → List ℕ
the_move x u ys = u ∷ []

abbrev the_size : ℕ → ℕ → List ℕ → List ℕ
the_size x u ys = length ys ∷ []

abbrev the_ends : ℕ → ℕ → List ℕ → List ℕ
the_ends x u ys = ys

-- the parts of the groups ahead of a move's in a state
pub ahead : Plant → ℕ → (ℕ → ℕ → List ℕ → List ℕ) → ℕ → ℕ → List ℕ
ahead p mask part x u = joined x 0 (parts_of p mask part) ++ joined u 0 (part_of p mask part x)

module _ (p : Plant) (mask : ℕ) where
  module _ (part : ℕ → ℕ → List ℕ → List ℕ) (x u : ℕ) where
    -- a group has its part where the move is available
    pub part_yes : available p mask x u ≡ true → part_of p mask part x u ≡ part x u (ends p x u)
    unfolding part_of
    part_yes e = rw e

    -- otherwise it has none
    pub part_no : available p mask x u ≡ false → part_of p mask part x u ≡ []
    unfolding part_of
    part_no e = rw e

    -- ahead of the next move stands one part more
    ahead_next : ahead p mask part x (suc u) ≡ ahead p mask part x u ++ part_of p mask part x u
    unfolding ahead
    ahead_next =
        let before = joined x 0 (parts_of p mask part) in
        ap (λ (l : List ℕ). before ++ l) (rw zero-add at (joined_more (part_of p mask part x) u 0))
        ∙ sym (append_assoc before (joined u 0 (part_of p mask part x)) (part_of p mask part x u))

    -- all parts begin with those
    ahead_all : x < p.states → u < p.moves
        → (rest : List ℕ) × (all_parts p mask part ≡ ahead p mask part x u ++ (part_of p mask part x u ++ rest))
    unfolding all_parts parts_of ahead
    ahead_all h k =
        let before = joined x 0 (parts_of p mask part) in
        let behind = joined (p.states - suc x) (suc x) (parts_of p mask part) in
        let later = joined (p.moves - suc u) (suc u) (part_of p mask part x) in (
          later ++ behind,
          joined_here (parts_of p mask part) p.states x h
              ∙ ap (λ (l : List ℕ). before ++ (l ++ behind)) (joined_here (part_of p mask part x) p.moves u k)
              ∙ simp append_assoc,
        )

  -- each group has one move and one size
  part_long : (x u : ℕ) → length (part_of p mask the_size x u) ≡ length (part_of p mask the_move x u)
  part_long x u =
      ⊎_elim
      (λ e. rw (part_yes the_size x u e, part_yes the_move x u e))
      (λ e. rw (part_no the_size x u e, part_no the_move x u e))
      (decided (available p mask x u))

  -- its size is how many ends it has
  part_total : (x u : ℕ) → total (part_of p mask the_size x u) ≡ length (part_of p mask the_ends x u)
  unfolding total
  part_total x u =
      ⊎_elim
      (λ e. rw (part_yes the_size x u e, part_yes the_ends x u e) (omega arith))
      (λ e. rw (part_no the_size x u e, part_no the_ends x u e))
      (decided (available p mask x u))

  module _ (x u : ℕ) where
    -- so there are as many sizes ahead as groups
    ahead_long : length (ahead p mask the_size x u) ≡ length (ahead p mask the_move x u)
    unfolding ahead parts_of
    ahead_long =
        simp length-append (ap₂ (λ (i j : ℕ). i + j)
        (joined_long (parts_of p mask the_size) (parts_of p mask the_move)
        (λ y. joined_long (part_of p mask the_size y) (part_of p mask the_move y) (part_long y) p.moves 0) x 0)
        (joined_long (part_of p mask the_size x) (part_of p mask the_move x) (part_long x) u 0))

    -- and their sum is how many ends there are
    ahead_total : total (ahead p mask the_size x u) ≡ length (ahead p mask the_ends x u)
    unfolding ahead parts_of
    ahead_total =
        rw (total_append, length-append) (ap₂ (λ (i j : ℕ). i + j)
        (joined_total (parts_of p mask the_size) (parts_of p mask the_ends)
        (λ y. joined_total (part_of p mask the_size y) (part_of p mask the_ends y) (part_total y) p.moves 0) x 0)
        (joined_total (part_of p mask the_size x) (part_of p mask the_ends x) (part_total x) u 0))

  module _ (x : ℕ) (h : x ≤ p.states) where
    -- a state's groups come after those of the states before it
    first_sum : get_or (first_groups p mask) x 0 ≡ length (joined x 0 (parts_of p mask the_move))
    unfolding first_groups group_counts total
    first_sum =
        let count : ℕ → List ℕ = λ y. length (parts_of p mask the_move y) ∷ [] in
        let all : x + (p.states - x) ≡ p.states = omega arith in
        let size : length (joined x 0 count) ≡ x = joined_length count 1 (λ _. refl) x 0 ∙ omega arith in
        let behind = joined (p.states - x) (0 + x) count in
        let split = rw all at (joined_split count x (p.states - x) 0) in
        rw size at (bounds_here (group_counts p mask) (joined x 0 count) behind split)
        ∙ joined_total count (parts_of p mask the_move) (λ y. omega arith) x 0

    -- there is a first group for each state, and one more
    pub first_in : x < length (first_groups p mask)
    unfolding first_groups group_counts
    first_in =
        let count : ℕ → List ℕ = λ y. length (parts_of p mask the_move y) ∷ [] in
        omega (arith, bounds_long (group_counts p mask), joined_length count 1 (λ _. refl) p.states 0)

  module _ (x : ℕ) (h : x < p.states) where
    -- so the first group of a state is the one with no move ahead
    pub first_here : get_or (first_groups p mask) x 0 ≡ length (ahead p mask the_move x 0)
    unfolding ahead joined
    first_here =
        first_sum x (omega arith) ∙ ap length (sym (append-nil (joined x 0 (parts_of p mask the_move))))

    -- and that of the next state comes after the state's own groups
    pub first_next : get_or (first_groups p mask) (suc x) 0
        ≡ get_or (first_groups p mask) x 0 + length (joined p.moves 0 (part_of p mask the_move x))
    unfolding parts_of
    first_next =
        let before = joined x 0 (parts_of p mask the_move) in
        let own = joined p.moves 0 (part_of p mask the_move x) in
        let more : joined (suc x) 0 (parts_of p mask the_move) ≡ before ++ own =
        rw zero-add at (joined_more (parts_of p mask the_move) x 0) in
        first_sum (suc x) h
        ∙ ap length more
        ∙ length-append before own
        ∙ ap (λ (i : ℕ). i + length own) (sym (first_sum x (omega arith)))

  module _ (x u : ℕ) (e : available p mask x u ≡ true) where
    -- an available move's part is ahead of the next move
    own_next : (part : ℕ → ℕ → List ℕ → List ℕ)
        → ahead p mask part x (suc u) ≡ ahead p mask part x u ++ part x u (ends p x u)
    own_next part = rw (part_yes part x u e) at (ahead_next part x u)

    -- as many groups stand ahead of the next move, and one more
    pub group_next : length (ahead p mask the_move x (suc u)) ≡ suc (length (ahead p mask the_move x u))
    group_next = omega (arith, ap length (own_next the_move), length-append (ahead p mask the_move x u) (u ∷ []))

    module _ (h : x < p.states) (k : u < p.moves) where
      -- its part stands behind those ahead
      own : (part : ℕ → ℕ → List ℕ → List ℕ)
          → (rest : List ℕ) × (all_parts p mask part ≡ ahead p mask part x u ++ (part x u (ends p x u) ++ rest))
      own part = let all = ahead_all part x u h k in (all.0, rw (part_yes part x u e) at all.1)

      -- its move
      pub group_move : get_or (group_moves p mask) (length (ahead p mask the_move x u)) 0 ≡ u
      unfolding group_moves
      group_move =
          let all = own the_move in
          ap (λ (l : List ℕ). get_or l (length (ahead p mask the_move x u)) 0) all.1
          ∙ get_or-append_seam (ahead p mask the_move x u) u all.0 0

      -- it is one of the groups
      pub group_in : length (ahead p mask the_move x u) < length (group_moves p mask)
      unfolding group_moves
      group_in =
          let all = own the_move in
          omega (arith, ap length all.1, length-append (ahead p mask the_move x u) (u ∷ all.0))

      -- where its ends begin
      pub group_begin : get_or (group_begins p mask) (length (ahead p mask the_move x u)) 0
          ≡ length (ahead p mask the_ends x u)
      unfolding group_begins group_sizes
      group_begin =
          let all = own the_size in
          rw (ahead_long x u) at (bounds_here (group_sizes p mask) (ahead p mask the_size x u) _ all.1)
          ∙ ahead_total x u

      -- where they stop
      pub group_stop : get_or (group_begins p mask) (suc (length (ahead p mask the_move x u))) 0
          ≡ length (ahead p mask the_ends x u) + length (ends p x u)
      unfolding group_begins group_sizes
      group_stop =
          let all = own the_size in
          let size : ℕ = length (ends p x u) in
          let split : group_sizes p mask ≡ ahead p mask the_size x (suc u) ++ all.0 =
          all.1
          ∙ sym (append_assoc (ahead p mask the_size x u) (size ∷ []) all.0)
          ∙ ap (λ (l : List ℕ). l ++ all.0) (sym (own_next the_size)) in
          let here : length (ahead p mask the_size x (suc u)) ≡ suc (length (ahead p mask the_move x u)) =
          ahead_long x (suc u) ∙ group_next in
          rw here at (bounds_here (group_sizes p mask) (ahead p mask the_size x (suc u)) all.0 split)
          ∙ ahead_total x (suc u)
          ∙ ap length (own_next the_ends)
          ∙ length-append (ahead p mask the_ends x u) (ends p x u)

      -- both are stored
      pub group_bounds : suc (length (ahead p mask the_move x u)) < length (group_begins p mask)
      unfolding group_begins group_sizes
      group_bounds =
          let all = own the_size in
          omega (
            arith,
            bounds_long (group_sizes p mask),
            ap length all.1,
            length-append (ahead p mask the_size x u) (length (ends p x u) ∷ all.0),
            ahead_long x u,
          )

      -- its ends
      pub group_ends_lem : (rest : List ℕ)
          × (drop (length (ahead p mask the_ends x u)) (group_ends p mask) ≡ ends p x u ++ rest)
      unfolding group_ends
      group_ends_lem =
          let all = own the_ends in (
            all.0,
            ap (drop (length (ahead p mask the_ends x u))) all.1
                ∙ drop-append_seam (ahead p mask the_ends x u) (ends p x u ++ all.0),
          )

      -- which are some of all ends
      pub group_ends_in : length (ahead p mask the_ends x u) + length (ends p x u) ≤ length (group_ends p mask)
      unfolding group_ends
      group_ends_in =
          let all = own the_ends in
          omega (
            arith,
            ap length all.1,
            length-append (ahead p mask the_ends x u) (ends p x u ++ all.0),
            length-append (ends p x u) all.0,
          )

  -- a move that is not available has no group
  pub no_group : (x u : ℕ) → available p mask x u ≡ false
      → length (ahead p mask the_move x (suc u)) ≡ length (ahead p mask the_move x u)
  no_group x u e = ap length (rw (part_no the_move x u e, append-nil) at (ahead_next the_move x u))
