-- What gathering the groups by an index tells where all arrows are in service: whether the bytes lent are the plant's
-- index, and if so the groups are sorted by their ends. Assumes nothing.
use mathlib.Core.Path.{◌≡◌, refl, sym, ap, ◌∙◌}
use mathlib.Core.Bool.{Bool, true}
use mathlib.Core.List.{List}
use Prim.Native.Nat.{ℕ, ◌<◌, ◌≤◌}
use native.Mathlib.Omega.{arith}
use lib.ListN.{length, get_or}
use lib.Seq.{get_or-take}
use borrow.Author.Tests.{le-leb}
use Rattle.statements.specs.Sets.{pick, over}
use Rattle.statements.specs.Plants.{word, Plant, plant_of, plant_fault}
use Rattle.statements.specs.Index.{by_end, index_bytes, same_bytes}
use Rattle.sets.proofs.Tests.{and_left, and_right}
use Rattle.sets.proofs.Over.{over_back}
use Rattle.decoding.proofs.Faults.{plant_tests}
use Rattle.decoding.proofs.Order.{arrows_length, ends_low}
use Rattle.decoding.proofs.Indexed.{same_iff}
use Rattle.format.proofs.Header.{plant_states}
use Rattle.layout.specs.Layout.{group_ends, group_owners, Front}
use Rattle.layout.proofs.Served.{ends_served}
use Rattle.sort.specs.Sorted.{sorted_by}
use Rattle.index.specs.Checked.{opens_well, numbers_in, ascends}
use Rattle.index.specs.Gathered.{climbed, taken, ready}
use Rattle.index.proofs.Passing.{end_read}
use Rattle.index.proofs.Ends.{by_sorted}
use Rattle.index.proofs.Exact.{same_passes, index_numbers_lem}
use Rattle.index.proofs.Taken.{and_on, climbed_all}
use Rattle.graph.proofs.Links.{arrows_few}
use Rattle.graph.proofs.Building.{owners_length}

module _ (s index by rev : List ℕ) (fine : plant_fault s ≡ 0)
    (by_room : word 3 s ≤ length by) (room : word 3 s ≤ length rev) where
  abbrev p : Plant
  p = plant_of s

  -- the headers and the lengths are good where the index opens well
  ready_is : ready s index by rev ≡ opens_well p.states (length p.arrows) index
  unfolding ready
  ready_is =
      let e = length p.arrows in
      let few = arrows_length s in
      rw ((plant_tests s fine).0, le-leb e (length by) (omega (arith, few)), le-leb e (length rev) (omega (arith, few)))
      (and_on (opens_well p.states e index))

  module _ (mask : ℕ) (all : length (group_ends p mask) ≡ word 3 s) (own : Front (group_owners p mask) by) where
    abbrev sorted : List ℕ
    sorted = sorted_by (word 0 s) (group_ends p mask) (group_owners p mask)

    -- the groups of the ends are those of the arrows
    own_at : (a : ℕ) → a < length p.arrows → get_or (group_owners p mask) a 0 ≡ get_or by a 0
    own_at a h =
        let m = length (group_owners p mask) in
        ap (λ (l : List ℕ). get_or l a 0) (sym own)
        ∙ get_or-take m by a 0 (omega (arith, owners_length p mask, arrows_length s))

    taken_sorted : taken by (by_end p) ≡ sorted
    unfolding taken
    taken_sorted =
        by_sorted p (group_ends p mask) (all ∙ sym (arrows_length s))
        (λ a h.
        let low : a < word 3 s = omega (arith, arrows_length s) in
        ends_served s mask fine all a low ∙ end_read s a low)
        (group_owners p mask) (λ a. get_or by a 0) own_at (ends_low s fine) (arrows_few s fine)
        ∙ ap (λ (n : ℕ). sorted_by n (group_ends p mask) (group_owners p mask)) (plant_states s)

    -- and what is listed is sorted
    pub lent_list : (new : List ℕ) → same_bytes index (index_bytes p) ≡ true
        → new ≡ pick (ready s index by rev) (over (taken by (climbed p 0 (numbers_in p index))) rev) rev
        → Front sorted new
    unfolding ascends
    lent_list new same e =
        let up : ascends p index ≡ true =
        same_passes s fine index ((same_iff index (index_bytes p)).0 same) in
        let opens = and_left (opens_well p.states (length p.arrows) index) _ up in
        let climb = and_right (opens_well p.states (length p.arrows) index) _ up in
        let numbers = climbed_all p 0 (numbers_in p index) climb
        ∙ index_numbers_lem s fine index ((same_iff index (index_bytes p)).0 same) in
        let wrote : new ≡ over sorted rev =
        e ∙ ap (λ (b : Bool). pick b (over (taken by (climbed p 0 (numbers_in p index))) rev) rev) (ready_is ∙ opens)
        ∙ ap (λ (l : List ℕ). over l rev) (ap (taken by) numbers ∙ taken_sorted) in
        rw wrote (over_back sorted rev _ refl)
