-- The search of a state's groups, turn by turn: what is left of the groups decides which move is found, and what is
-- left of a group's ends decides whether its move goes into the set. Assumes nothing.
use mathlib.Core.Path.{◌≡◌, refl, sym, ap, ◌∙◌, subst}
use mathlib.Core.Bool.{true, false}
use mathlib.Core.List.{List, [], ◌∷◌, ◌++◌}
use Prim.Native.Nat.{ℕ, suc, ◌+◌, ◌-◌, ◌≤◌, ◌<◌}
use native.Mathlib.Nat.{zero-add}
use native.Mathlib.Numerals.{add-one}
use native.Mathlib.Omega.{arith}
use lib.Dec.{ltb}
use lib.ListN.{length, get_or, take, drop, length-append, length-take, length-drop, drop_of_length-le}
use lib.Seq.{drop-cons, get_or-take, get_or-drop}
use borrow.Author.Tests.{lt-ltb, le-ltb}
use Rattle.statements.specs.Sets.{numbers, first, is_in, all_in}
use Rattle.statements.specs.Plants.{Plant, plant_of, ends, available, goes_into, move_into, can}
use Rattle.sets.proofs.Members.{is_in_here, is_in_there, filter_test, numbers_in_lem}
use Rattle.sets.proofs.First.{first_yes, first_no}
use Rattle.decoding.proofs.Faults.{PlantOk, plant_ok, arrow_range}
use Rattle.layout.specs.Layout.{group_moves, group_ends, group_begins, first_groups}
use Rattle.solve.specs.Tabled.{Tabled, moves_at, ends_at}
use Rattle.solve.specs.Given.{Given, below}
use Rattle.solve.proofs.Groups as groups
use Rattle.solve.proofs.Groups.{the_move, ahead, front_at, front_in}
use Rattle.solve.proofs.NextGroup.{groups_left, Group, into_yes, groups_none, groups_some}

-- whether a state is below a limit
pub below_test : (waits : List ℕ) (limit s y : ℕ) → y < s → is_in y (below waits limit s) ≡ ltb (get_or waits y 0) limit
unfolding below
below_test waits limit s y h =
    filter_test (λ x. ltb (get_or waits x 0) limit) (numbers s 0) y (numbers_in_lem s 0 y (omega arith) (omega arith))

-- a state of an accepted plant, whose table is at hand, with a wait for each state
pub record Sought (p : Plant) (mask : ℕ) (table waits : List ℕ) (x : ℕ) : Type 0 where
  pub ok : PlantOk p
  pub table_is : Tabled p mask table
  pub long : p.states ≤ length waits
  pub here : x < p.states

-- what a search is given
pub sought : {plant : List ℕ} {mask none x : ℕ} {table waits : List ℕ} → Given plant mask table none
    → (plant_of plant).states ≤ length waits → x < (plant_of plant).states
    → Sought (plant_of plant) mask table waits x
sought {plant} g long here = record { ok = plant_ok plant g.accepted; table_is = g.table_is; long = long; here = here }

-- at a group: the groups from there to the last are those of the moves left, one of which is the first into the set
pub record Left (p : Plant) (mask : ℕ) (ys : List ℕ) (x last g : ℕ) : Type 0 where
  pub from : ℕ
  pub left : ℕ
  pub all : from + left ≡ p.moves
  pub here : g ≡ length (ahead p mask the_move x from)
  pub more : last ≡ g + groups_left p mask x left from
  pub same : move_into p mask ys x ≡ first left from (goes_into p mask ys x)

-- at an end of a group: its move goes into the set just if the ends from there on do
pub record Ends (p : Plant) (mask : ℕ) (ys : List ℕ) (x last g stop at : ℕ) : Type 0 where
  pub move : ℕ
  pub left : ℕ
  pub todo : List ℕ
  pub rest : List ℕ
  pub all : move + suc left ≡ p.moves
  pub is_available : available p mask x move ≡ true
  pub here : g ≡ length (ahead p mask the_move x move)
  pub more : last ≡ suc (g + groups_left p mask x left (suc move))
  pub stop_is : stop ≡ at + length todo
  pub inside : stop ≤ length (group_ends p mask)
  pub text : drop at (group_ends p mask) ≡ todo ++ rest
  pub into : goes_into p mask ys x move ≡ all_in todo ys
  pub same : move_into p mask ys x ≡ first (suc left) move (goes_into p mask ys x)
  pub states : (y : ℕ) → is_in y todo ≡ true → y < p.states

module _ {p : Plant} {mask : ℕ} {table waits : List ℕ} {x : ℕ} (q : Sought p mask table waits x) where
  -- the first groups of a state and of the next are in the table
  pub sought_next : x + 1 < length table
  sought_next =
      let inside = groups.first_in p mask (suc x) q.here in
      omega (arith, front_in 0 (first_groups p mask) table q.table_is.first_is (suc x) inside)

  -- a first group in the table
  first_at : (y : ℕ) → y ≤ p.states → get_or table y 0 ≡ get_or (first_groups p mask) y 0
  first_at y h =
      rw zero-add at (front_at 0 (first_groups p mask) table q.table_is.first_is y (groups.first_in p mask y h))

  module _ {ys : List ℕ} where
    -- at the first group all moves are left
    pub left_start : Left p mask ys x (get_or table (x + 1) 0) (get_or table x 0)
    unfolding move_into
    left_start =
        let at = first_at x (omega (arith, q.here)) in
        record {
          from = 0;
          left = p.moves;
          all = omega arith;
          here = at ∙ groups.first_here p mask x q.here;
          more = rw (add-one, first_at (suc x) q.here, at) (groups.first_next p mask x q.here);
          same = refl;
        }

    module _ {last g : ℕ} (l : Left p mask ys x last g) where
      -- past the last group: there is no move
      pub left_none : last ≤ g → move_into p mask ys x ≡ p.moves
      left_none h = l.same ∙ groups_none p mask ys x l.left l.from (omega (arith, l.more)) ∙ l.all

      pub left_cannot : last ≤ g → can p mask ys x ≡ false
      unfolding can
      left_cannot h = le-ltb (move_into p mask ys x) p.moves (omega (arith, left_none h))

      module _ (h : g < last) where
        -- otherwise there is a next group
        left_group : Group p mask ys x l.left l.from
        left_group = groups_some p mask ys x l.left l.from (omega (arith, l.more))

        -- it is the group of this move
        group_here : length (ahead p mask the_move x left_group.move) ≡ g
        group_here = left_group.here ∙ sym l.here

        -- which is one of the plant's
        group_below : left_group.move < p.moves
        group_below = omega (arith, left_group.all, l.all)

        -- where its ends begin and stop is stored
        bounds_in : suc g < length (group_begins p mask)
        bounds_in =
            let m = left_group in
            rw group_here at (groups.group_bounds p mask x m.move m.is_available q.here group_below)

        -- it stands in the table
        pub left_in : 1026 + g < length table
        left_in =
            omega (arith, front_in 1025 (group_begins p mask) table q.table_is.begins_is (suc g) bounds_in)

        -- its ends are those in between
        pub left_ends : Ends p mask ys x last g (get_or table (1026 + g) 0) (get_or table (1025 + g) 0)
        unfolding ends
        left_ends =
            let m = left_group in
            let u = m.move in
            let behind = groups.group_ends_lem p mask x u m.is_available q.here group_below in
            let begin = front_at 1025 (group_begins p mask) table q.table_is.begins_is g (omega (arith, bounds_in))
            ∙ rw group_here at (groups.group_begin p mask x u m.is_available q.here group_below) in
            let next : 1025 + suc g ≡ 1026 + g = omega arith in
            let stop = rw next at (front_at 1025 (group_begins p mask) table q.table_is.begins_is (suc g) bounds_in)
            ∙ rw group_here at (groups.group_stop p mask x u m.is_available q.here group_below) in
            record {
              move = u;
              left = m.left;
              todo = ends p x u;
              rest = behind.0;
              all = m.all ∙ l.all;
              is_available = m.is_available;
              here = sym group_here;
              more = omega (arith, l.more, m.more);
              stop_is = stop ∙ ap (λ (i : ℕ). i + length (ends p x u)) (sym begin);
              inside = omega (arith, stop, groups.group_ends_in p mask x u m.is_available q.here group_below);
              text = rw begin behind.1;
              into = into_yes p mask ys x u m.is_available;
              same = l.same ∙ m.same;
              states = λ y i. (arrow_range p.arrows p.states p.moves 0 x u y q.ok.arrows_ok_lem i).1;
            }

    module _ {last g stop at : ℕ} (d : Ends p mask ys x last g stop at) where
      -- its move is one of the plant's
      move_below : d.move < p.moves
      move_below = omega (arith, d.all)

      -- the group is before the last
      pub ends_before : g < last
      ends_before = omega (arith, d.more)

      -- it is one of the groups
      group_in : g < length (group_moves p mask)
      group_in =
          rw (sym d.here) at (groups.group_in p mask x d.move d.is_available q.here move_below)

      -- so its move stands in the table
      pub ends_move_in : moves_at table + g < length table
      ends_move_in = front_in (moves_at table) (group_moves p mask) table q.table_is.moves_is g group_in

      -- and so do its ends
      pub ends_stop_in : ends_at table + stop ≤ length table
      ends_stop_in =
          omega (
            arith,
            d.inside,
            q.table_is.long,
            ap length q.table_is.ends_is,
            length-take (length (group_ends p mask)) (drop (ends_at table) table),
            length-drop (ends_at table) table,
          )

      -- past the last end: the move goes into the set
      ends_found : stop ≤ at → move_into p mask ys x ≡ d.move
      unfolding all_in
      ends_found h =
          let none : d.todo ≡ [] = drop_of_length-le d.todo {i = 0} (omega (arith, d.stop_is)) in
          let good : goes_into p mask ys x d.move ≡ true = d.into ∙ ap (λ (zs : List ℕ). all_in zs ys) none in
          d.same ∙ first_yes d.left d.move (goes_into p mask ys x) good

      -- it is the one that stands in the table
      pub ends_all : stop ≤ at → move_into p mask ys x ≡ get_or table (moves_at table + g) 0
      ends_all h =
          let read = front_at (moves_at table) (group_moves p mask) table q.table_is.moves_is g group_in
          ∙ rw (sym d.here) at (groups.group_move p mask x d.move d.is_available q.here move_below) in
          ends_found h ∙ sym read

      -- so there is one
      pub ends_can : stop ≤ at → can p mask ys x ≡ true
      unfolding can
      ends_can h = lt-ltb (move_into p mask ys x) p.moves (omega (arith, ends_found h, move_below))

      -- the same place, written otherwise
      pub ends_here : {at' : ℕ} → at' ≡ at → Ends p mask ys x last g stop at'
      ends_here e = subst (λ (k : ℕ). Ends p mask ys x last g stop k) (sym e) d

      module _ (h : at < stop) where
        -- an end is left
        end_in : at < length (group_ends p mask)
        end_in =
            omega (
              arith,
              d.stop_is,
              ap length d.text,
              length-append d.todo d.rest,
              length-drop at (group_ends p mask),
            )

        -- it stands in the table
        pub ends_in_lem : ends_at table + at < length table
        ends_in_lem = front_in (ends_at table) (group_ends p mask) table q.table_is.ends_is at end_in

        -- the end that is read
        abbrev Next : ℕ
        Next = get_or table (ends_at table + at) 0

        -- it is the first of those left, and the others come after it
        split : (d.todo ≡ Next ∷ drop 1 d.todo) × (drop (suc at) (group_ends p mask) ≡ drop 1 d.todo ++ d.rest)
        split =
            let read = front_at (ends_at table) (group_ends p mask) table q.table_is.ends_is at end_in in
            let some = drop-cons d.todo 0 0 (omega (arith, d.stop_is)) in
            let text : get_or (group_ends p mask) at 0 ∷ drop (suc at) (group_ends p mask)
            ≡ get_or d.todo 0 0 ∷ (drop 1 d.todo ++ d.rest) =
            sym (drop-cons (group_ends p mask) at 0 end_in)
            ∙ d.text
            ∙ ap (λ (zs : List ℕ). zs ++ d.rest) some in
            let here : Next ≡ get_or d.todo 0 0 = cc in
            (some ∙ ap (λ (y : ℕ). y ∷ drop 1 d.todo) (sym here), cc)

        -- it is a state
        pub ends_state : Next < p.states
        ends_state = d.states Next (rw split.0 (is_in_here Next (drop 1 d.todo)))

        -- it is in the set: the others decide
        pub ends_pass : is_in Next ys ≡ true → Ends p mask ys x last g stop (at + 1)
        unfolding all_in
        ends_pass e =
            record {
              move = d.move;
              left = d.left;
              todo = drop 1 d.todo;
              rest = d.rest;
              all = d.all;
              is_available = d.is_available;
              here = d.here;
              more = d.more;
              stop_is = omega (arith, d.stop_is, length-drop 1 d.todo);
              inside = d.inside;
              text = rw add-one split.1;
              into = d.into ∙ ap (λ (zs : List ℕ). all_in zs ys) split.0 ∙ rw e;
              same = d.same;
              states = λ z m. d.states z (rw split.0 (is_in_there z Next (drop 1 d.todo) m));
            }

        -- it is not: the groups behind decide
        pub ends_fail : is_in Next ys ≡ false → Left p mask ys x last (g + 1)
        unfolding all_in
        ends_fail e =
            let bad : goes_into p mask ys x d.move ≡ false =
            d.into ∙ ap (λ (zs : List ℕ). all_in zs ys) split.0 ∙ rw e in
            record {
              from = suc d.move;
              left = d.left;
              all = omega (arith, d.all);
              here = omega (arith, d.here, groups.group_next p mask x d.move d.is_available);
              more = omega (arith, d.more);
              same = d.same ∙ first_no d.left d.move (goes_into p mask ys x) bad;
            }

-- the ends of a group as a part of the table
abbrev part_of_table : List ℕ → ℕ → ℕ → List ℕ
part_of_table table at stop = take (ends_at table + stop - (ends_at table + at)) (drop (ends_at table + at) table)

module _ {p : Plant} {mask : ℕ} {table waits : List ℕ} {x : ℕ} (q : Sought p mask table waits x) {last g stop : ℕ}
    (limit at i : ℕ) (d : Ends p mask (below waits limit p.states) x last g stop (at + i)) where
  -- past the last of them
  pub part_all : length (part_of_table table at stop) ≤ i → stop ≤ at + i
  part_all h =
      omega (
        arith,
        ends_stop_in q d,
        length-take (ends_at table + stop - (ends_at table + at)) (drop (ends_at table + at) table),
        length-drop (ends_at table + at) table,
      )

  module _ (h : i < length (part_of_table table at stop)) where
    part_left : at + i < stop
    part_left =
        omega (arith, length-take (ends_at table + stop - (ends_at table + at)) (drop (ends_at table + at) table))

    part_read : get_or (part_of_table table at stop) i 0 ≡ get_or table (ends_at table + (at + i)) 0
    part_read =
        let place : ends_at table + at + i ≡ ends_at table + (at + i) = omega arith in
        get_or-take (ends_at table + stop - (ends_at table + at)) (drop (ends_at table + at) table) i 0
        (omega (arith, part_left))
        ∙ get_or-drop (ends_at table + at) table i 0
        ∙ ap (λ (k : ℕ). get_or table k 0) place

    -- the end that is read is a state
    pub part_state : get_or (part_of_table table at stop) i 0 < p.states
    part_state = rw part_read (ends_state q d part_left)

    end_test : is_in (get_or table (ends_at table + (at + i)) 0) (below waits limit p.states)
        ≡ ltb (get_or waits (get_or (part_of_table table at stop) i 0) 0) limit
    end_test =
        below_test waits limit p.states (get_or table (ends_at table + (at + i)) 0) (ends_state q d part_left)
        ∙ ap (λ (y : ℕ). ltb (get_or waits y 0) limit) (sym part_read)

    -- its wait is not below the limit: the groups behind decide
    pub part_high : limit ≤ get_or waits (get_or (part_of_table table at stop) i 0) 0
        → Left p mask (below waits limit p.states) x last (g + 1)
    part_high high = ends_fail q d part_left (end_test ∙ le-ltb _ _ high)

    -- its wait is below the limit: the other ends decide
    pub part_low : get_or waits (get_or (part_of_table table at stop) i 0) 0 < limit
        → Ends p mask (below waits limit p.states) x last g stop (at + (i + 1))
    part_low low = ends_here q (ends_pass q d part_left (end_test ∙ lt-ltb _ _ low)) (omega arith)
