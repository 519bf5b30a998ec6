-- A plant's graph is what the walk takes: its starts are in order and its numbers in range, and a state can enter a set
-- along the groups exactly when it can in the plant. Assumes nothing.
use mathlib.Core.Path.{◌≡◌, refl, sym, ap, fun_ext, ◌∙◌}
use mathlib.Core.Bool.{Bool, true, ◌&&◌}
use mathlib.Core.List.{List}
use Prim.Native.Nat.{ℕ, suc, ◌<◌, ◌≤◌}
use native.Mathlib.Omega.{arith}
use borrow.Author.Tests.{eq-eqb, lt-ltb, ltb-true, leb-true}
use lib.ListN.{length, get_or}
use Rattle.statements.specs.Sets.{first, every, is_in, all_in}
use Rattle.statements.specs.Plants.{Plant, plant_of, head_ok, plant_fault, ends, available, goes_into}
use Rattle.statements.specs.Plants.{move_into, can}
use Rattle.sets.proofs.Tests.{and_true, and_left, and_right, and_iff, same_test}
use Rattle.sets.proofs.Members.{all_in_at, all_in_all}
use Rattle.sets.proofs.Numbers.{every_all}
use Rattle.sets.proofs.First.{first_holds, first_least}
use Rattle.decoding.proofs.Faults.{PlantOk, plant_tests, arrow_range}
use Rattle.decoding.proofs.Order.{arrows_length}
use Rattle.layout.specs.Layout.{group_states, group_ends, group_owners}
use Rattle.sort.specs.Sorted.{order_of, sorted_by, starts_of}
use Rattle.game.specs.Walked.{node_at, can_enter, ordered, all_below}
use Rattle.game.specs.Steps.{Index, Has}
use Rattle.game.proofs.Checks.{below_yes, ordered_ends}
use Rattle.game.proofs.Levels.{EndsIn, place_has, can_to, can_from}
use Rattle.graph.proofs.Rows.{has_end}
use Rattle.graph.proofs.Groups.{state_of, move_of, group_available, place_group, group_place, group_of, ends_few}
use Rattle.graph.proofs.Groups.{groups_few}
use Rattle.graph.proofs.Positions.{starts_long, starts_nodes, starts_zero, starts_up, sorted_long, starts_last}
use Rattle.graph.proofs.Positions.{position_place, place_position, node_key}

-- where the groups of each end state begin, and the groups by end state
abbrev pub plant_starts : Plant → ℕ → List ℕ
plant_starts p mask = starts_of p.states (group_ends p mask)

abbrev pub plant_rev : Plant → ℕ → List ℕ
plant_rev p mask = sorted_by p.states (group_ends p mask) (group_owners p mask)

-- an accepted plant has at most 8192 arrows
pub arrows_few : (s : List ℕ) → plant_fault s ≡ 0 → length (plant_of s).arrows ≤ 8192
unfolding head_ok
arrows_few s fine =
    let head = simp and_iff at (plant_tests s fine).0 in
    omega (arith, leb-true, arrows_length s)

module _ (p : Plant) (mask : ℕ) where
  -- there is a start for each state, and one more
  pub links_starts : length (plant_starts p mask) ≡ suc p.states
  links_starts = starts_long p.states (group_ends p mask) (group_owners p mask)

  -- no more groups and positions than an accepted plant has arrows
  pub links_ends : length p.arrows ≤ 8192 → length (group_ends p mask) ≤ 8192
  links_ends few = omega (arith, ends_few p mask)

  pub links_groups : length p.arrows ≤ 8192 → length (group_states p mask) ≤ 8192
  links_groups few = omega (arith, ends_few p mask, groups_few p mask)

module _ (p : Plant) (mask : ℕ) (ok : PlantOk p) where
  -- an end of a move in a state is in range, and so are the two
  in_range : (x u y : ℕ) → is_in y (ends p x u) ≡ true → (u < p.moves) × (y < p.states) × (x < p.states)
  unfolding ends
  in_range x u y m = arrow_range p.arrows p.states p.moves 0 x u y ok.arrows_ok_lem m

  -- an available move has an end
  an_end : (x u : ℕ) → available p mask x u ≡ true → is_in (get_or (ends p x u) 0 0) (ends p x u) ≡ true
  an_end x u e = place_has (ends p x u) (get_or (ends p x u) 0 0) 0 (has_end p mask x u e) refl

  available_range : (x u : ℕ) → available p mask x u ≡ true → (u < p.moves) × (x < p.states)
  available_range x u e = let r = in_range x u (get_or (ends p x u) 0 0) (an_end x u e) in (r.0, r.2)

  -- ends and states of groups are in range
  pub ends_below : (a : ℕ) → a < length (group_ends p mask) → get_or (group_ends p mask) a 0 < p.states
  ends_below a h =
      let g = get_or (group_owners p mask) a 0 in
      (in_range (state_of p mask g) (move_of p mask g) (get_or (group_ends p mask) a 0) (place_group p mask a h).1).1

  pub states_below : (g : ℕ) → g < length (group_states p mask) → get_or (group_states p mask) g 0 < p.states
  states_below g h = (available_range (state_of p mask g) (move_of p mask g) (group_available p mask g h)).1

  -- as many positions as ends
  pub links_long : length (plant_rev p mask) ≡ length (group_ends p mask)
  links_long = sorted_long p.states (group_ends p mask) (group_owners p mask) ends_below

  pub links_few : length p.arrows ≤ 8192 → length (plant_rev p mask) ≤ 8192
  links_few few = omega (arith, links_long, links_ends p mask few)

  -- the place at a position
  at_place : (j : ℕ) → j < length (plant_rev p mask)
      → let a = get_or (order_of p.states (group_ends p mask)) j 0 in
      (a < length (group_ends p mask)) × (get_or (plant_rev p mask) j 0 ≡ get_or (group_owners p mask) a 0)
  at_place = position_place p.states (group_ends p mask) (group_owners p mask) ends_below

  rev_below : (j : ℕ) → j < length (plant_rev p mask) → get_or (plant_rev p mask) j 0 < length (group_states p mask)
  rev_below j h =
      let o = at_place j h in
      omega (arith, o.1, (place_group p mask _ o.0).0)

  -- the arrays are those of a hypergraph
  pub links_index : Index (plant_rev p mask) (plant_starts p mask) (group_states p mask)
  links_index =
      let keys = group_ends p mask in
      let owners = group_owners p mask in
      let count = starts_nodes p.states keys owners in
      record {
        some = omega (arith, links_starts p mask);
        small = omega (arith, count, ok.sizes.states_most);
        zero_is = starts_zero p.states keys owners;
        up = λ t h. starts_up p.states keys owners t (omega arith);
        last_is = rw count (starts_last p.states keys owners ends_below);
        groups = rev_below;
        of_node = λ g h. omega (arith, states_below g h, count);
      }

  pub links_ordered : ordered (plant_starts p mask) (length (plant_rev p mask)) ≡ true
  links_ordered =
      let x = links_index in
      sym (ordered_ends (plant_starts p mask) (length (plant_rev p mask)) x.up)
      ∙ and_true (eq-eqb _ 0 x.zero_is) (eq-eqb _ (length (plant_rev p mask)) x.last_is)

  pub links_rev_below : all_below (plant_rev p mask) (length (group_states p mask)) ≡ true
  links_rev_below = sym (below_yes (plant_rev p mask) (length (group_states p mask)) rev_below)

  pub links_states_below : all_below (group_states p mask) p.states ≡ true
  links_states_below = sym (below_yes (group_states p mask) p.states states_below)

  -- a position of an end of a group: it is the group's, and its node is that end
  end_position : (g : ℕ) → g < length (group_states p mask) → (y : ℕ)
      → is_in y (ends p (state_of p mask g) (move_of p mask g)) ≡ true
      → (j : ℕ) × (j < length (plant_rev p mask)) × (get_or (plant_rev p mask) j 0 ≡ g)
      × (node_at (plant_starts p mask) j ≡ y)
  end_position g h y m =
      let keys = group_ends p mask in
      let owners = group_owners p mask in
      let o = group_place p mask g h y m in
      let j = place_position p.states keys owners ends_below o.0 o.1 in (
        j.0,
        j.1,
        (at_place j.0 j.1).1 ∙ ap (λ (a : ℕ). get_or owners a 0) j.2 ∙ o.2,
        node_key p.states keys owners (group_states p mask) ends_below links_index j.0 j.1
            ∙ ap (λ (a : ℕ). get_or keys a 0) j.2
            ∙ o.3,
      )

  -- the node of a position of a group is an end of it
  position_end : (j : ℕ) → j < length (plant_rev p mask) → (g : ℕ) → get_or (plant_rev p mask) j 0 ≡ g
      → is_in (node_at (plant_starts p mask) j) (ends p (state_of p mask g) (move_of p mask g)) ≡ true
  position_end j h g e =
      let o = at_place j h in
      let a = get_or (order_of p.states (group_ends p mask)) j 0 in
      let same : get_or (group_owners p mask) a 0 ≡ g = sym o.1 ∙ e in
      let node =
      node_key p.states (group_ends p mask) (group_owners p mask) (group_states p mask) ends_below links_index j h in
      rw node (rw same at (place_group p mask a o.0).1)

  -- each group has a position
  group_has : (g : ℕ) → g < length (group_states p mask) → Has (plant_rev p mask) g
  group_has g h =
      let x = state_of p mask g in
      let u = move_of p mask g in
      let o = end_position g h (get_or (ends p x u) 0 0) (an_end x u (group_available p mask g h)) in
      (o.0, (o.1, o.2))

  pub links_all : every (length (group_states p mask)) 0 (λ g. is_in g (plant_rev p mask)) ≡ true
  links_all =
      every_all (length (group_states p mask)) 0 (λ g. is_in g (plant_rev p mask))
      (λ g low high.
      let o = group_has g (omega arith) in
      place_has (plant_rev p mask) g o.0 o.1.0 o.1.1)

  module _ (ys : List ℕ) (x : ℕ) where
    -- along a group: by its move
    enter_can : can_enter (group_states p mask) (plant_starts p mask) (plant_rev p mask) ys x ≡ true
        → can p mask ys x ≡ true
    unfolding can move_into goes_into
    enter_can h =
        let o = can_from (group_states p mask) (plant_starts p mask) (plant_rev p mask) ys x h in
        let g = o.0 in
        let u = move_of p mask g in
        let here : state_of p mask g ≡ x = o.1.1.0 in
        let serves : available p mask x u ≡ true = rw here at (group_available p mask g o.1.0) in
        let into : all_in (ends p x u) ys ≡ true =
        all_in_all (ends p x u) ys
        (λ y m.
        let q = end_position g o.1.0 y (rw here m) in
        rw q.3 at (o.1.1.1.1 q.0 q.1 q.2)) in
        let test : ℕ → Bool = λ (v : ℕ). available p mask x v && all_in (ends p x v) ys in
        lt-ltb (first p.moves 0 test) p.moves
        (omega (
          arith,
          available_range x u serves,
          first_least p.moves 0 test u (omega arith) (omega (arith, available_range x u serves))
              (and_true serves into),
        ))

    -- by a move: along its group
    can_enter_lem : can p mask ys x ≡ true
        → can_enter (group_states p mask) (plant_starts p mask) (plant_rev p mask) ys x ≡ true
    unfolding can move_into goes_into
    can_enter_lem h =
        let test : ℕ → Bool = λ (v : ℕ). available p mask x v && all_in (ends p x v) ys in
        let u = first p.moves 0 test in
        let low : u < p.moves = ltb-true u p.moves h in
        let holds : test u ≡ true = first_holds p.moves 0 test (omega arith) in
        let serves = and_left (available p mask x u) (all_in (ends p x u) ys) holds in
        let into = and_right (available p mask x u) (all_in (ends p x u) ys) holds in
        let o = group_of p mask x u (available_range x u serves).1 low serves in
        let inside : EndsIn (plant_starts p mask) (plant_rev p mask) ys o.0 =
        λ j l e. all_in_at (ends p x u) ys into _ (rw (o.2, o.3) at (position_end j l o.0 e)) in
        rw o.2 at
        (can_to (group_states p mask) (plant_starts p mask) (plant_rev p mask) ys o.0 o.1 (group_has o.0 o.1)
        inside)

    -- a state can enter a set along the groups exactly when it can in the plant
    pub links_can : can_enter (group_states p mask) (plant_starts p mask) (plant_rev p mask) ys x ≡ can p mask ys x
    links_can = same_test _ _ enter_can can_enter_lem

  -- as an equation of functions
  pub links_same : can_enter (group_states p mask) (plant_starts p mask) (plant_rev p mask) ≡ can p mask
  links_same = fun_ext (λ ys. fun_ext (λ x. links_can ys x))
