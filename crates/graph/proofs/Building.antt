-- The packed arrays as a whole: when there is room for them, and that they hold the graph once the layout is loaded and
-- the links are packed. Assumes nothing.
use Rattle.std.proofs.Common.{Some, None}
use mathlib.Core.Path.{◌≡◌, refl, sym, ap, ◌∙◌}
use mathlib.Core.Bool.{Bool, true, false, ◌&&◌}
use mathlib.Core.List.{List, ◌++◌}
use Prim.Native.Nat.{ℕ, ◌+◌, ◌-◌, ◌*◌, ◌/◌, ◌≤◌, ◌<◌}
use native.Mathlib.Omega.{arith}
use borrow.Author.Tests.{le-leb, lt-leb, eqb-true}
use lib.Dec.{leb, eqb}
use lib.ListN.{length, take, drop, length-drop}
use lib.Seq.{length-take-le, take-take}
use Rattle.statements.specs.Plants.{word, Plant, plant_of, plant_fault}
use Rattle.sets.proofs.Tests.{and_left, and_none, and_iff, leb_iff}
use Rattle.decoding.proofs.Faults.{states_few}
use Rattle.format.proofs.Header.{plant_states}
use Rattle.decoding.proofs.Order.{arrows_length}
use Rattle.layout.specs.Layout.{group_states, group_ends, group_sizes, group_owners, table_room, roomy, Front, Layout}
use Rattle.layout.specs.declared.Loaded.{Loaded}
use Rattle.layout.specs.Loading.{loaded_of}
use Rattle.layout.proofs.Closing.{ends_length, numbered_length}
use Rattle.layout.proofs.Options.{some_yes, some_is, none_no}
use Rattle.statements.specs.Sets.{pick}
use Rattle.game.specs.Packed.{part, places_in}
use Rattle.graph.specs.Packed.{lent, accepts, roomy_pack, Packed}
use Rattle.graph.specs.Steps.{Owned, Linkable, Linked}
use Rattle.graph.proofs.Groups.{ends_few}
use Rattle.graph.proofs.Links.{arrows_few, links_ends}
use Rattle.graph.proofs.Packing.{front_fits, front_append, front_alike}

module _ (p : Plant) (table graph : List ℕ) where
  -- with room for the starts and the labels, there is room where there is for the layout
  pub room_same : 2049 ≤ length graph → (states : List ℕ) → length states ≡ places_in (length graph)
      → roomy p table states ≡ roomy_pack p table graph
  unfolding roomy roomy_pack
  room_same long states e = rw (e, le-leb 2049 (length graph) long)

  -- and otherwise there is none
  pub room_none : length graph < 2049 → roomy_pack p table graph ≡ false
  unfolding roomy_pack
  room_none short =
      let arrows = length p.arrows in
      let fits = leb arrows (places_in (length graph)) in
      let table_fits = leb arrows (table_room (length table)) in
      and_none (leb 1026 (length table)) (table_fits && (leb 2049 (length graph) && fits))
      (and_none table_fits (leb 2049 (length graph) && fits) (rw (lt-leb 2049 (length graph) short)))

-- what is accepted and fits, by what the layout tells and what the links do
pub both_fit : (indexed : Bool) (index s : List ℕ) (room fits good : Bool) → fits ≡ (eqb (plant_fault s) 0 && room)
    → lent indexed (plant_of s) index ≡ good → (fits && good) ≡ (accepts indexed index s && room)
unfolding accepts
both_fit indexed index s room fits good e l =
    rw (e, ← l) (turned (eqb (plant_fault s) 0) room (lent indexed (plant_of s) index))
  where
    turned : (a b c : Bool) → ((a && b) && c) ≡ ((a && c) && b)
    turned false b c = refl
    turned true true true = refl
    turned true true false = refl
    turned true false true = refl
    turned true false false = refl

-- an accepted plant has few states and ends
pub counts_few : (s : List ℕ) (mask a : ℕ) → plant_fault s ≡ 0 → a ≡ length (group_ends (plant_of s) mask)
    → (word 0 s ≤ 1024) × (a ≤ 8192) × (a ≤ length (plant_of s).arrows)
counts_few s mask a fine count =
    omega (
      arith,
      states_few s fine,
      plant_states s,
      links_ends (plant_of s) mask (arrows_few s fine),
      ends_few (plant_of s) mask,
    )

-- the ends that groups own are few, and there is room for as many
pub owned_few : {s ends owners rev : List ℕ} {mask : ℕ} → ends ≡ group_ends (plant_of s) mask → Owned s mask owners rev
    → (word 0 s ≤ 1024) × (length ends ≤ 8192) × (length ends ≤ length owners) × (length ends ≤ length rev)
owned_few {s} {mask = mask} e own =
    omega (
      arith,
      states_few s own.fine,
      plant_states s,
      ap length e,
      ends_few (plant_of s) mask,
      arrows_few s own.fine,
      arrows_length s,
      own.owners_long,
      own.rev_long,
    )

-- as many owners as ends
pub owners_length : (p : Plant) (mask : ℕ) → length (group_owners p mask) ≡ length (group_ends p mask)
unfolding group_owners
owners_length p mask = numbered_length 0 (group_sizes p mask) ∙ sym (ends_length p mask)

-- the groups that own the ends, at the front of a list that is longer
pub owners_part_lem : (p : Plant) (mask : ℕ) (ends owners : List ℕ) → ends ≡ group_ends p mask
    → Front (group_owners p mask) owners → take (length ends) owners ≡ group_owners p mask
owners_part_lem p mask ends owners e front =
    ap (λ (n : ℕ). take n owners) (ap length e ∙ sym (owners_length p mask)) ∙ front

-- a layout that is loaded in a table and the front of a graph: of the plant and of the room it tells this
pub record Opened (s : List ℕ) (mask : ℕ) (table graph : List ℕ) (l : Loaded) : Type 0 where
  pub fine : plant_fault s ≡ 0
  pub roomy : (eqb (plant_fault s) 0 && roomy_pack (plant_of s) table graph) ≡ true
  pub counted : l ≡ loaded_of (plant_of s) mask
  pub arrows_are : l.arrows ≡ length (group_ends (plant_of s) mask)
  pub table_fits : word 3 s ≤ table_room (length table)
  pub graph_fits : word 3 s ≤ places_in (length graph)

module _ (s : List ℕ) (mask : ℕ) (table graph : List ℕ) (long : 2049 ≤ length graph) where
  abbrev p : Plant
  p = plant_of s

  -- the front of the graph, for the states of the groups
  abbrev Places : List ℕ
  Places = take ((length graph - 2049) / 2) graph

  pub places_size : length Places ≡ places_in (length graph)
  unfolding places_in
  places_size = length-take-le ((length graph - 2049) / 2) graph (omega arith)

  same : roomy p table Places ≡ roomy_pack p table graph
  same = room_same p table graph long Places places_size

  pub loads_no : None ≡ pick (eqb (plant_fault s) 0 && roomy p table Places) (Some (loaded_of p mask)) None
      → (eqb (plant_fault s) 0 && roomy_pack p table graph) ≡ false
  loads_no e = rw (← same) (none_no _ _ e)

  pub opened : (l : Loaded)
      → Some l ≡ pick (eqb (plant_fault s) 0 && roomy p table Places) (Some (loaded_of p mask)) None
      → Opened s mask table graph l
  unfolding roomy_pack
  opened l e =
      let both : (eqb (plant_fault s) 0 && roomy_pack p table graph) ≡ true = rw (← same) (some_yes _ _ l e) in
      let k = simp (and_iff, leb_iff) at both in
      let is = some_is _ _ l e in
      record {
        fine = eqb-true (plant_fault s) 0 (and_left (eqb (plant_fault s) 0) (roomy_pack p table graph) both);
        roomy = both;
        counted = is;
        arrows_are = ap (λ (m : Loaded). m.arrows) is;
        table_fits = omega (arith, arrows_length s);
        graph_fits = omega (arith, arrows_length s);
      }

-- a part of a list, and how long it is
part_of : (a n : ℕ) (t : List ℕ) → part a n t ≡ take n (drop a t)
unfolding part
part_of a n t =
    let same : a + n - a ≡ n = omega arith in
    ap (λ (m : ℕ). take m (drop a t)) same

part_size : (a n : ℕ) (t : List ℕ) → a + n ≤ length t → length (part a n t) ≡ n
part_size a n t h = ap length (part_of a n t) ∙ length-take-le n (drop a t) (omega (arith, length-drop a t))

-- the ends of an accepted plant, and the groups that own them, in a table with room for h of each
module _ (s : List ℕ) (mask a h : ℕ) (table : List ℕ) (count : a ≡ length (group_ends (plant_of s) mask))
    (room : h ≡ table_room (length table)) {states : List ℕ} (l : Layout (plant_of s) mask table states) where
  ends_are : part (1026 + 2 * h) a table ≡ group_ends (plant_of s) mask
  ends_are = part_of (1026 + 2 * h) a table ∙ rw (room, count) l.ends_is

  owners_are : a ≤ h → Front (group_owners (plant_of s) mask) (part (1026 + 3 * h) h table)
  owners_are fits =
      let n = length (group_owners (plant_of s) mask) in
      let few : n ≤ h = omega (arith, owners_length (plant_of s) mask) in
      ap (take n) (part_of (1026 + 3 * h) h table)
      ∙ take-take n h (drop (1026 + 3 * h) table) few
      ∙ rw room l.owners_is

  pub linkable : plant_fault s ≡ 0 → 1026 + 4 * h ≤ length table → word 3 s ≤ h → (graph : List ℕ)
      → 2049 ≤ length graph → word 3 s ≤ places_in (length graph)
      → Linkable s mask (part (1026 + 2 * h) a table) (part (1026 + 3 * h) h table) graph
  linkable fine long fits graph graph_long few =
      record {
        fine = fine;
        ends_are = ends_are;
        owners_are = owners_are (omega (arith, counts_few s mask a fine count, arrows_length s));
        owners_long = omega (arith, part_size (1026 + 3 * h) h table (omega arith));
        graph_long = graph_long;
        arrows_fit = few;
      }

  -- with the links packed, the arrays hold the graph
  pub packed : (rest graph : List ℕ) → length states ≡ places_in (length graph)
      → Linked s (part (1026 + 2 * h) a table) (group_owners (plant_of s) mask) (states ++ rest) graph
      → Packed (plant_of s) mask table graph
  packed rest graph size k =
      let p = plant_of s in
      let at = plant_states s in
      record {
        first_is = l.first_is;
        begins_is = l.begins_is;
        moves_is = l.moves_is;
        ends_is = l.ends_is;
        states_is =
            front_alike (places_in (length graph)) (group_states p mask) graph (states ++ rest) k.kept
            (omega (arith, front_fits (group_states p mask) states l.states_is))
            (front_append (group_states p mask) states rest l.states_is);
        rev_is = rw (← at, ends_are) at k.rev_in_lem;
        starts_is = rw (← at, ends_are) at k.starts_in_lem;
        labels_is = k.labels_in_lem;
      }
