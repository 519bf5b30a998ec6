-- The packed game of a plant is the plant's own: it can be worked out, what is left in it are the states kept, and its
-- steps are those of the reach to a goal. Assumes nothing.
use mathlib.Core.Path.{◌≡◌, refl, sym, ap, ap₂, ◌∙◌}
use mathlib.Core.Bool.{Bool, true}
use mathlib.Core.List.{List, [], ◌∷◌}
use Prim.Native.Nat.{ℕ, zero, suc, ◌+◌, ◌-◌, ◌*◌, ◌≤◌, ◌<◌}
use native.Mathlib.Omega.{arith}
use native.Mathlib.Nat.{mul-le-mul_right, zero-add}
use native.Mathlib.Numerals.{add-one}
use borrow.Author.Tests.{le-leb}
use lib.ListN.{length, get_or, take, drop, get_or-append}
use lib.Seq.{get_or-take, get_or-drop}
use Rattle.statements.specs.Sets.{pick, bit, numbers, every, joined, iterate, is_in, filter, over}
use Rattle.statements.specs.Plants.{Plant, in_goal, can}
use Rattle.statements.specs.Kept.{grown, target, forced, forced_all}
use Rattle.sets.proofs.Tests.{and_true}
use Rattle.sets.proofs.Members.{Sifted}
use Rattle.sets.proofs.Iterate.{sifted_below}
use Rattle.sets.proofs.Joined.{joined_at, joined_length, joined_drop}
use Rattle.sets.proofs.Over.{over_first}
use Rattle.decoding.proofs.Faults.{PlantOk}
use Rattle.arrays.specs.Lists.{rising}
use Rattle.layout.specs.Layout.{group_states, Front}
use Rattle.game.specs.Walked.{can_enter, ordered, all_below}
use Rattle.game.specs.Game.{Can, grown_in, aims, reached_in, attracted, attracted_all, held_after, steps_to, steps_of}
use Rattle.game.specs.Packed.{part, groups_in, rev_in, starts_in, labels_in, goal_of, over_at, can_in, roomy_for, hypergraph}
use Rattle.game.specs.Packed.{places_in, playable, held_in, waits_in}
use Rattle.arrays.proofs.Ordered.{filter_rising}
use Rattle.game.proofs.Alike.{held_within_lem, held_alike, steps_alike}
use Rattle.graph.proofs.Groups.{groups_few, ends_few}
use Rattle.graph.proofs.Links.{plant_starts, plant_rev, links_starts, links_long, links_ordered}
use Rattle.graph.proofs.Links.{links_rev_below, links_states_below, links_all, links_same}
use Rattle.solve.specs.Reached.{goes, within, step_of, reached}
use Rattle.solve.specs.Rows.{kept_from, Columns}
use Rattle.solve.specs.Graphed.{Graphed, Exits}
use Rattle.solve.proofs.Labels.{label_low, exit_bit, goal_bit}

-- the part of a list that begins with another
part_front : (a n : ℕ) (xs all : List ℕ) → n ≡ length xs → Front xs (drop a all) → part a n all ≡ xs
unfolding part
part_front a n xs all e f =
    let there : a + n - a ≡ length xs = omega arith in
    ap (λ (k : ℕ). take k (drop a all)) there ∙ f

-- a number of a part
part_at : (a n : ℕ) (all : List ℕ) (x : ℕ) → x < n → get_or (part a n all) x 0 ≡ get_or all (a + x) 0
unfolding part
part_at a n all x h = get_or-take (a + n - a) (drop a all) x 0 (omega arith) ∙ get_or-drop a all x 0

-- the same game, told of a plant
module _ (p : Plant) (mask : ℕ) (done : ℕ → Bool) (all : List ℕ) where
  all_forced : (n : ℕ) → attracted_all n (can p mask) done (in_goal p) all ≡ forced_all n p mask done all
  unfolding attracted_all attracted reached_in grown_in aims forced_all forced grown target
  all_forced zero = refl
  all_forced (suc n) = ap (filter (λ x. is_in x (forced p mask done all n))) (all_forced n)

module _ (p : Plant) (mask : ℕ) (leave : List ℕ) where
  held_kept : (start : List ℕ)
      → held_after p.states p.goals (can p mask) (goes p leave) (in_goal p) start ≡ kept_from p mask leave start
  unfolding held_after kept_from
  held_kept start =
      ap (λ (f : List ℕ → List ℕ). iterate p.states f start)
      (λ i all. all_forced p mask (goes p leave) all p.goals i)

  steps_reached : (all : List ℕ) (i x : ℕ)
      → steps_to (can p mask) (goes p leave) (in_goal p i) all x ≡ reached p mask leave all i x
  unfolding steps_to attracted reached_in grown_in aims reached step_of within forced grown target
  steps_reached all i x = refl

-- a number of columns, one after the other
column_at : (f : ℕ → ℕ → ℕ) (n goals i x : ℕ) (old : List ℕ) → i < goals → x < n
    → get_or (over (joined goals 0 (λ k. joined n 0 (λ y. f k y ∷ []))) old) (i * n + x) 0 ≡ f i x
column_at f n goals i x old hi hx =
    let part : ℕ → List ℕ = λ k. joined n 0 (λ y. f k y ∷ []) in
    let sized : (k : ℕ) → length (part k) ≡ n = λ k.
    joined_length (λ y. f k y ∷ []) 1 (λ j. refl) n 0 ∙ omega arith in
    let most = mul-le-mul_right {m = suc i} {n = goals} n hi in
    let long = joined_length part n sized goals 0 in
    over_first (joined goals 0 part) old (i * n + x) (omega arith)
    ∙ (sym (get_or-drop (i * n) (joined goals 0 part) x 0)
    ∙ (ap (λ (ys : List ℕ). get_or ys x 0) (joined_drop part n sized goals 0 i hi)
    ∙ (get_or-append (part (0 + i)) (joined (goals - suc i) (suc (0 + i)) part) 0 x (omega (arith, sized (0 + i)))
    ∙ (joined_at (f (0 + i)) n 0 x hx ∙ ap₂ f (zero-add i) (zero-add x)))))

module _ (p : Plant) (mask : ℕ) (ok : PlantOk p) (few : length p.arrows ≤ 8192) (groups positions : ℕ)
    (graph : List ℕ) (g : Graphed p mask groups positions graph) where
  -- the parts of the array
  groups_is : groups_in graph groups ≡ group_states p mask
  unfolding groups_in
  groups_is = ap (λ (k : ℕ). take k graph) g.groups_are ∙ g.states_is

  rev_is : rev_in graph positions ≡ plant_rev p mask
  unfolding rev_in
  rev_is = part_front (places_in (length graph)) positions (plant_rev p mask) graph (g.positions_are ∙ sym (links_long p mask ok)) g.rev_is

  starts_is : starts_in graph p.states ≡ plant_starts p mask
  unfolding starts_in
  starts_is =
      part_front (length graph - 2049) (p.states + 1) (plant_starts p mask) graph (add-one p.states ∙ sym (links_starts p mask))
      g.starts_is

  -- its states go on as those of the plant
  can_is : can_in graph p.states groups positions ≡ can p mask
  unfolding can_in
  can_is =
      ap₂ (λ (a b : List ℕ). can_enter a b (rev_in graph positions)) groups_is starts_is
      ∙ (ap (can_enter (group_states p mask) (plant_starts p mask)) rev_is ∙ links_same p mask ok)

  hyper : hypergraph graph p.states groups positions ≡ true
  unfolding hypergraph
  hyper =
      let long : positions ≡ length (plant_rev p mask) = g.positions_are ∙ sym (links_long p mask ok) in
      and_true (ap₂ ordered starts_is long ∙ links_ordered p mask ok)
      (and_true (ap₂ all_below rev_is g.groups_are ∙ links_rev_below p mask ok)
      (and_true (ap (λ (ys : List ℕ). all_below ys p.states) groups_is ∙ links_states_below p mask ok)
      (ap₂ (λ (k : ℕ) (ys : List ℕ). every k 0 (λ i. is_in i ys)) g.groups_are rev_is ∙ links_all p mask ok)))

  module _ (leave first : List ℕ) (set : Sifted (numbers p.states 0) first) (exits : Exits p leave first graph) where
    abbrev labels : List ℕ
    labels = labels_in graph p.states

    -- the game can be worked out
    pub can_play : (room : ℕ) → 8192 ≤ room
        → playable graph p.states groups positions p.goals first room ≡ true
    unfolding playable roomy_for
    can_play room wide =
        let sizes = ok.sizes in
        let product : p.goals * p.states ≤ 8192 = product_few p.goals p.states sizes.goals_most sizes.states_most in
        and_true
        (and_true (le-leb p.states 1024 sizes.states_most)
        (and_true (le-leb 2049 (length graph) g.long)
        (and_true (le-leb (places_in (length graph)) 8192 g.few)
        (and_true (le-leb groups (places_in (length graph))
        (omega (arith, g.groups_are, groups_few p mask, ends_few p mask, g.room)))
        (and_true (le-leb positions (places_in (length graph)) (omega (arith, g.positions_are, ends_few p mask, g.room)))
        (and_true (le-leb 1 p.goals sizes.goals_least)
        (and_true (le-leb p.goals 8 sizes.goals_most)
        (le-leb (p.goals * p.states) room (omega arith)))))))))
        (and_true hyper (ap (rising 0 p.states) set ∙ filter_rising (λ y. is_in y first) p.states))
      where
        product_few : (a b : ℕ) → a ≤ 8 → b ≤ 1024 → a * b ≤ 8192
        product_few a b ha hb =
            let m = mul-le-mul_right {m = a} {n = 8} b ha in
            omega arith

    label_at_lem : (x : ℕ) → is_in x first ≡ true
        → get_or labels x 0 ≡ get_or p.labels x 0 + pick (goes p leave x) 32768 0
    unfolding labels_in
    label_at_lem x m =
        part_at (length graph - 1024) p.states graph x (sifted_below p.states first set x m) ∙ exits x m

    -- a run is over where a state leaves, and the goals are the plant's
    over_is : (x : ℕ) → is_in x first ≡ true → over_at labels x ≡ goes p leave x
    unfolding over_at
    over_is x m = ap (bit 15) (label_at_lem x m) ∙ exit_bit (get_or p.labels x 0) (goes p leave x) (label_low p ok x)

    goal_is : (i x : ℕ) → i < p.goals → is_in x first ≡ true → goal_of labels i x ≡ in_goal p i x
    unfolding goal_of in_goal
    goal_is i x h m =
        ap (bit (suc i)) (label_at_lem x m)
        ∙ goal_bit (get_or p.labels x 0) (goes p leave x) (label_low p ok x) i (omega (arith, ok.sizes.goals_most))

    -- what is left are the states kept
    pub held_is : held_in graph p.states groups positions p.goals first ≡ kept_from p mask leave first
    unfolding held_in
    held_is =
        ap (λ (c : Can). held_after p.states p.goals c (over_at labels) (goal_of labels) first) can_is
        ∙ (held_alike (can p mask) (over_at labels) (goes p leave) (goal_of labels) (in_goal p) p.goals first over_is
        goal_is p.states
        ∙ held_kept p mask leave first)

    kept_within_lem : (x : ℕ) → is_in x (kept_from p mask leave first) ≡ true → is_in x first ≡ true
    kept_within_lem x m =
        held_within_lem (can p mask) (over_at labels) (goes p leave) (goal_of labels) (in_goal p) p.goals first over_is
        goal_is p.states x
        (ap (is_in x)
        (held_alike (can p mask) (over_at labels) (goes p leave) (goal_of labels) (in_goal p) p.goals first over_is
        goal_is p.states
        ∙ held_kept p mask leave first) ∙ m)

    -- and its waits are the columns of the reach to each goal
    pub waits_are : (kept old waits : List ℕ) → kept ≡ kept_from p mask leave first
        → waits ≡ over (waits_in graph p.states groups positions p.goals kept) old → length waits ≡ length old
        → 8192 ≤ length old → Columns p mask leave kept waits
    unfolding waits_in steps_of
    waits_are kept old waits ek e long room =
        record {
          wait_is = λ x i hx hi.
              let steps : Can → ℕ → ℕ → ℕ = λ c k y. steps_to c (over_at labels) (goal_of labels k) kept y in
              ap (λ (ys : List ℕ). get_or ys (i * p.states + x) 0) e
              ∙ (column_at (steps (can_in graph p.states groups positions)) p.states p.goals i x old hi hx
              ∙ (ap (λ (c : Can). steps c i x) can_is
              ∙ (steps_alike (can p mask) (over_at labels) (goes p leave) (goal_of labels i) (in_goal p i) kept
              (λ y m. over_is y (kept_within_lem y (rw ek at m))) (λ y m. goal_is i y hi (kept_within_lem y (rw ek at m))) x
              ∙ steps_reached p mask leave kept i x)));
          room =
              let m = mul-le-mul_right {m = p.goals} {n = 8} p.states ok.sizes.goals_most in
              omega (arith, ok.sizes.states_most);
        }
