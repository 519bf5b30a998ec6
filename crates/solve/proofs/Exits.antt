-- A label that gets its mark again: the packed game stays the plant's, and the marks say which states leave.
-- Assumes nothing.
use mathlib.Core.Path.{◌≡◌, sym, ap, ap₂, ◌∙◌}
use mathlib.Core.Logic.{⊎_elim}
use mathlib.Core.Bool.{Bool, true, false}
use mathlib.Core.List.{List, [], ◌∷◌, ◌++◌}
use Prim.Native.Nat.{ℕ, ◌+◌, ◌-◌, ◌%◌, ◌≤◌, ◌<◌}
use native.Mathlib.Omega.{arith}
use lib.Dec.{ltb}
use lib.ListN.{length, get_or, take, drop, set, length-set}
use lib.Seq.{take-set-le, drop-set-add, get_or-set_same, get_or-set_other}
use Rattle.statements.specs.Sets.{pick}
use Rattle.statements.specs.Plants.{Plant}
use Rattle.sets.proofs.Tests.{same_number}
use Rattle.sets.proofs.Members.{is_in_none}
use Rattle.decoding.proofs.Faults.{PlantOk}
use Rattle.layout.specs.Layout.{group_states, Front}
use Rattle.game.specs.Packed.{places_in}
use Rattle.graph.proofs.Groups.{groups_few, ends_few}
use Rattle.graph.proofs.Links.{plant_starts, plant_rev, links_starts, links_long}
use Rattle.solve.specs.Reached.{goes}
use Rattle.solve.specs.Graphed.{Graphed, Exits, label_at}
use Rattle.solve.proofs.Lasts.{last_other}
use Rattle.solve.proofs.Labels.{label_low}

-- a store past a list at the front leaves it there
front_set : (xs all : List ℕ) (i v : ℕ) → length xs ≤ i → Front xs all → Front xs (set all i v)
front_set xs all i v h f = take-set-le (length xs) all i v h ∙ f

-- and so does one past a list that begins at a place
front_drop_set : (xs all : List ℕ) (n j v : ℕ) {i : ℕ} → i ≡ n + j → length xs ≤ j → Front xs (drop n all)
    → Front xs (drop n (set all i v))
front_drop_set xs all n j v e h f =
    ap (λ (k : ℕ). take (length xs) (drop n (set all k v))) e
    ∙ ap (take (length xs)) (drop-set-add n all j v)
    ∙ front_set xs (drop n all) j v h f

-- the low bits of a label, with the mark
low_bits : (l : ℕ) (b : Bool) → l < 1024 → (l + pick b 32768 0) % 32768 ≡ l
low_bits l true h = omega arith
low_bits l false h = omega arith

-- with no states there are no marks
pub exits_none : (p : Plant) (leave graph : List ℕ) → Exits p leave [] graph
exits_none p leave graph x m = absurd (is_in_none x m)

module _ {p : Plant} {mask groups positions : ℕ} {graph : List ℕ} (ok : PlantOk p)
    (g : Graphed p mask groups positions graph) (x : ℕ) (in_range : x < p.states) where
  -- a state's label is in the array
  pub label_inside : label_at graph x < length graph
  label_inside = omega (arith, in_range, ok.sizes.states_most, g.long)

  module _ (b : Bool) {at v : ℕ} (here : at ≡ label_at graph x)
      (is : v ≡ get_or graph at 0 % 32768 + pick b 32768 0) where
    -- what is written is the plant's label with the mark
    marked_label : v ≡ get_or p.labels x 0 + pick b 32768 0
    marked_label = is ∙ ap (λ (l : ℕ). l + pick b 32768 0) (rw here (g.labels_are x in_range))

    -- the array is as long as before
    same_long : length (set graph at v) ≡ length graph
    same_long = length-set graph at v

    -- the label is read back
    label_back : get_or (set graph at v) (label_at graph x) 0 ≡ v
    label_back = rw here (get_or-set_same graph (label_at graph x) v 0 label_inside)

    -- and the others stay
    label_other : (y : ℕ) → (y ≡ x → ⊥) → get_or (set graph at v) (label_at graph y) 0 ≡ get_or graph (label_at graph y) 0
    label_other y d = get_or-set_other graph at (label_at graph y) v 0 (λ e. d (omega (arith, e, here)))

    -- so all labels are still the plant's
    labels_still : (y : ℕ) → y < p.states → get_or (set graph at v) (label_at graph y) 0 % 32768 ≡ get_or p.labels y 0
    labels_still y h =
        ⊎_elim
        (λ e. rw e (ap (λ (l : ℕ). l % 32768) (label_back ∙ marked_label)
        ∙ low_bits (get_or p.labels x 0) b (label_low p ok x)))
        (λ d. ap (λ (l : ℕ). l % 32768) (label_other y d) ∙ g.labels_are y h)
        (same_number y x)

    -- the groups end before the labels, and so do the groups by end
    groups_before : length (group_states p mask) ≤ at
    unfolding places_in
    groups_before = omega (arith, here, groups_few p mask, ends_few p mask, g.room, g.long)

    rev_before : places_in (length graph) + length (plant_rev p mask) ≤ at
    unfolding places_in
    rev_before = omega (arith, here, links_long p mask ok, ends_few p mask, g.room, g.long)

    -- the array with a label marked holds the same game
    pub graphed_marked : Graphed p mask groups positions (set graph at v)
    graphed_marked =
        let k = places_in (length graph) in
        record {
          groups_are = g.groups_are;
          positions_are = g.positions_are;
          states_is = front_set (group_states p mask) graph at v groups_before g.states_is;
          rev_is = rw same_long
              (front_drop_set (plant_rev p mask) graph k (at - k) v (omega (arith, rev_before))
              (omega (arith, rev_before)) g.rev_is);
          starts_is = rw same_long
              (front_drop_set (plant_starts p mask) graph (length graph - 2049) (1025 + x) v
              (omega (arith, here, g.long)) (omega (arith, links_starts p mask, ok.sizes.states_most)) g.starts_is);
          labels_are = λ y h. rw same_long (labels_still y h);
          long = rw same_long g.long;
          room = rw same_long g.room;
          few = rw same_long g.few;
        }

    -- one state more has its mark
    pub exits_more : (leave done : List ℕ) → Exits p leave done graph → (away : ℕ) {none : ℕ} → none ≡ p.moves
        → x < length leave → b ≡ ltb away none → Exits p (set leave x away) (done ++ (x ∷ [])) (set graph at v)
    unfolding goes
    exits_more leave done old away {none = none} moves room test y m =
        rw same_long
        (⊎_elim
        (λ e. rw e (label_back ∙ marked_label
        ∙ ap (λ (c : Bool). get_or p.labels x 0 + pick c 32768 0)
        (test ∙ sym (ap₂ ltb (get_or-set_same leave x away 0 room) (sym moves)))))
        (λ d. label_other y d
        ∙ old y (sym (last_other y x done d) ∙ m)
        ∙ ap (λ (w : ℕ). get_or p.labels y 0 + pick (ltb w p.moves) 32768 0)
        (sym (get_or-set_other leave x y away 0 d)))
        (same_number y x))
