-- The layout once the pass is over and the sums are made: how long its lists are, and that each array begins with its
-- own. Assumes nothing.
use mathlib.Core.Path.{◌≡◌, refl, sym, ap, ap₂, ◌∙◌}
use mathlib.Core.Bool.{Bool, true, false}
use mathlib.Core.List.{List, [], ◌∷◌, ◌++◌}
use Prim.Native.Nat.{ℕ, suc, ◌+◌, ◌-◌, ◌*◌, ◌≤◌, ◌<◌}
use native.Mathlib.Omega.{arith}
use lib.ListN.{length, take, drop, set, replicate, length-append, length-drop, length-set}
use lib.ListN.{length-replicate}
use lib.Seq.{take-suc-set, take-take, take-set-le, take-append-le, drop-drop, drop-set-lt, drop-set-add, drop_at}
use Rattle.statements.specs.Sets.{pick}
use Rattle.statements.specs.Plants.{Plant, ends, available}
use Rattle.sets.proofs.Joined.{joined_length}
use Rattle.layout.specs.Layout.{part_of, parts_of, all_parts, group_states, group_moves, group_ends, group_sizes}
use Rattle.layout.specs.Layout.{group_counts, total, starts, bounds, numbered, group_begins, first_groups}
use Rattle.layout.specs.Layout.{group_owners, table_room, Front, Layout}
use Rattle.layout.specs.Loading.{loaded_of}
use Rattle.layout.specs.Passing.{Laid, part, first_part, begins_part, moves_part, ends_part, owners_part, Room}
use Rattle.layout.specs.Passing.{LaidIn}
use Rattle.layout.proofs.Lengths.{starts_length}
use Rattle.layout.proofs.Joining.{joined_total, joined_long}

pick_total : (b : Bool) (ys : List ℕ) → total (pick b (length ys ∷ []) []) ≡ length (pick b ys [])
unfolding total
pick_total true ys = omega arith
pick_total false ys = refl

-- one number for a test that holds, whichever it is
pub pick_long : (b : Bool) (i j : ℕ) → length (pick b (i ∷ []) []) ≡ length (pick b (j ∷ []) [])
pick_long true i j = refl
pick_long false i j = refl

module _ (p : Plant) (mask : ℕ) where
  -- as many ends as the sizes say
  pub ends_length : length (group_ends p mask) ≡ total (group_sizes p mask)
  unfolding group_ends group_sizes all_parts parts_of part_of
  ends_length =
      sym (joined_total (parts_of p mask (λ x u ys. length ys ∷ [])) (parts_of p mask (λ x u ys. ys))
      (λ x. joined_total (part_of p mask (λ x u ys. length ys ∷ []) x) (part_of p mask (λ x u ys. ys) x)
      (λ u. pick_total (available p mask x u) (ends p x u)) p.moves 0) p.states 0)

  -- as many groups as the states have
  pub counts_total : total (group_counts p mask) ≡ length (group_moves p mask)
  unfolding group_counts group_moves all_parts total
  counts_total =
      joined_total (λ x. length (parts_of p mask (λ y u ys. u ∷ []) x) ∷ []) (parts_of p mask (λ x u ys. u ∷ []))
      (λ x. omega arith) p.states 0

  -- a state, a move and a size for each
  pub states_length : length (group_states p mask) ≡ length (group_sizes p mask)
  unfolding group_states group_sizes all_parts parts_of part_of
  states_length =
      joined_long (parts_of p mask (λ x u ys. x ∷ [])) (parts_of p mask (λ x u ys. length ys ∷ []))
      (λ x. joined_long (part_of p mask (λ x u ys. x ∷ []) x) (part_of p mask (λ x u ys. length ys ∷ []) x)
      (λ u. pick_long (available p mask x u) x (length (ends p x u))) p.moves 0) p.states 0

  pub moves_length : length (group_moves p mask) ≡ length (group_sizes p mask)
  unfolding group_moves group_sizes all_parts parts_of part_of
  moves_length =
      joined_long (parts_of p mask (λ x u ys. u ∷ [])) (parts_of p mask (λ x u ys. length ys ∷ []))
      (λ x. joined_long (part_of p mask (λ x u ys. u ∷ []) x) (part_of p mask (λ x u ys. length ys ∷ []) x)
      (λ u. pick_long (available p mask x u) u (length (ends p x u))) p.moves 0) p.states 0

  pub counts_length : length (group_counts p mask) ≡ p.states
  unfolding group_counts
  counts_length =
      joined_length (λ x. length (parts_of p mask (λ y u ys. u ∷ []) x) ∷ []) 1 (λ _. refl) p.states 0 ∙ omega arith

-- one number more than there are parts
pub bounds_length : (ns : List ℕ) → length (bounds ns) ≡ suc (length ns)
unfolding bounds
bounds_length ns = omega (arith, length-append (starts 0 ns) (total ns ∷ []), starts_length 0 ns)

-- as many numbers as the parts have
pub numbered_length : (k : ℕ) (ns : List ℕ) → length (numbered k ns) ≡ total ns
unfolding numbered total
numbered_length k [] = refl
numbered_length k (n ∷ ns) =
    length-append (replicate n k) (numbered (suc k) ns)
    ∙ ap₂ (λ (i j : ℕ). i + j) (length-replicate n k) (numbered_length (suc k) ns)

-- a list begins with what its first numbers are
front : (ys xs : List ℕ) (n : ℕ) → length xs ≡ n → take n ys ≡ xs → Front xs ys
front ys xs n e h = rw e h

module _ {p : Plant} {mask g n : ℕ} {first states moves begins ends owners : List ℕ}
    (l : Laid p mask g n first states moves begins ends owners) where
  pub groups_count : g ≡ length (group_states p mask)
  groups_count = l.groups_are ∙ sym (states_length p mask)

  pub arrows_count : n ≡ length (group_ends p mask)
  arrows_count = l.arrows_are ∙ sym (ends_length p mask)

  pub loaded_is : record { groups = g; arrows = n } ≡ loaded_of p mask
  loaded_is = cc (groups_count, arrows_count)

  -- the sum of the groups of all states
  pub count_sum : total (take p.states first) ≤ length p.arrows
  count_sum =
      omega (
        arith,
        ap total l.counts_are,
        counts_total p mask,
        moves_length p mask,
        l.groups_are,
        l.groups_few,
      )

-- a list whose first numbers stand in a part of a table begins there
front_part : (a h : ℕ) (t : List ℕ) (xs : List ℕ) (n : ℕ) → n ≤ h → length xs ≡ n → take n (part a h t) ≡ xs
    → Front xs (drop a t)
unfolding part
front_part a h t xs n few e is = front (drop a t) xs n e (sym (take-take n h (drop a t) few) ∙ is)

-- with the sums made in its first part, and the last end's place stored, it is the layout
module _ {p : Plant} {mask g n h : ℕ} {t states : List ℕ} (l : LaidIn p mask g n h t states)
    (room : Room (length p.arrows) h t states) (first : List ℕ) (size : length first ≡ 1025) where
  -- the table then
  abbrev Closed : List ℕ
  Closed = set (first ++ drop 1025 t) (1025 + g) n

  summed : (m : ℕ) → m < 1025 → take (suc m) Closed ≡ take (suc m) first
  summed m few =
      take-set-le (suc m) (first ++ drop 1025 t) (1025 + g) n (omega arith)
      ∙ take-append-le (suc m) first (drop 1025 t) (omega arith)

  stored : drop 1025 Closed ≡ set (drop 1025 t) g n
  stored =
      drop-set-add 1025 (first ++ drop 1025 t) g n
      ∙ ap (λ (k : List ℕ). set k g n) (drop_at first (drop 1025 t) 1025 size)

  closed_long : length Closed ≡ length t
  closed_long =
      omega (
        arith,
        length-set (first ++ drop 1025 t) (1025 + g) n,
        length-append first (drop 1025 t),
        length-drop 1025 t,
        room.table_long,
      )

  -- past the number that was stored it is as it was
  rest_kept : (a : ℕ) → 1025 + g < a → drop a Closed ≡ drop a t
  rest_kept a low =
      let place : 1025 + (a - 1025) ≡ a = omega arith in
      let kept = drop-set-lt (a - 1025) (drop 1025 t) g n (omega arith) in
      rw (← place)
      (sym (drop-drop (a - 1025) 1025 Closed) ∙ ap (drop (a - 1025)) stored ∙ kept ∙ drop-drop (a - 1025) 1025 t)

  pub closed : (m : ℕ) → m ≡ p.states → m < 1025 → h ≡ table_room (length t)
      → take (suc m) first ≡ bounds (take m (first_part t)) → Layout p mask Closed states
  unfolding first_groups group_begins group_owners bounds part begins_part moves_part ends_part owners_part
  closed m same few here sums =
      let counts = group_counts p mask in
      let sizes = group_sizes p mask in
      let place : table_room (length Closed) ≡ h = ap table_room closed_long ∙ sym here in
      let groups : g ≤ h = omega (arith, l.groups_few, room.table_fits) in
      let arrows : n ≤ h = omega (arith, l.arrows_few, room.table_fits) in
      let begun : take g (drop 1025 t) ≡ starts 0 sizes =
      sym (take-take g (h + 1) (drop 1025 t) (omega arith)) ∙ l.begins_are in
      let counted : take (suc m) Closed ≡ bounds (take m (first_part t)) = summed m few ∙ sums in
      record {
        first_is =
            front Closed (bounds counts) (suc p.states)
            (bounds_length counts ∙ ap suc (counts_length p mask)) (rw same at counted ∙ ap bounds l.counts_are);
        begins_is =
            front (drop 1025 Closed) (bounds sizes) (suc g) (bounds_length sizes ∙ ap suc (sym l.groups_are))
            (ap (take (suc g)) stored
            ∙ take-suc-set (drop 1025 t) g n (omega (arith, length-drop 1025 t, room.table_long))
            ∙ ap₂ (λ (k : List ℕ) (i : ℕ). k ++ (i ∷ [])) begun l.arrows_are);
        moves_is =
            rw (place, rest_kept (1026 + h) (omega arith))
            (front_part (1026 + h) h t (group_moves p mask) g groups (moves_length p mask ∙ sym l.groups_are)
            l.moves_are);
        ends_is =
            rw (place, rest_kept (1026 + 2 * h) (omega arith))
            (front_part (1026 + 2 * h) h t (group_ends p mask) n arrows (sym (arrows_count l)) l.ends_are);
        owners_is =
            rw (place, rest_kept (1026 + 3 * h) (omega arith))
            (front_part (1026 + 3 * h) h t (numbered 0 sizes) n arrows
            (numbered_length 0 sizes ∙ sym l.arrows_are) l.owners_are);
        states_is = front states (group_states p mask) g (sym (groups_count l)) l.states_are;
      }
