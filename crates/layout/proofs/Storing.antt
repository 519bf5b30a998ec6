-- The pass in a table: what is known once the first k arrows are passed, and what the stores of a turn do to it.
-- Assumes nothing.
use mathlib.Core.Path.{◌≡◌, ap, ◌∙◌}
use mathlib.Core.Bool.{true}
use mathlib.Core.List.{List}
use Prim.Native.Nat.{ℕ, ◌+◌, ◌-◌, ◌*◌, ◌≤◌, ◌<◌}
use native.Mathlib.Omega.{arith}
use lib.Dec.{leb}
use lib.ListN.{length, get_or, take, set, replicate, length-set}
use lib.Seq.{take-take}
use Rattle.statements.specs.Sets.{pick, bit}
use Rattle.statements.specs.Plants.{word, head_ok}
use Rattle.format.specs.declared.arrows.Arrow.{Arrow as ReadArrow}
use Rattle.format.specs.Arrows.{arrow_in}
use Rattle.format.specs.Checks.{least_after}
use Rattle.format.proofs.Header.{PlantHead, plant_head, plant_states, plant_moves}
use Rattle.layout.specs.Passing.{part, first_part, begins_part, moves_part, ends_part, owners_part, Room}
use Rattle.layout.proofs.Turns.{Spare}
use Rattle.layout.proofs.Passed.{key, Passed, Taken, pass_start, pass_turn, pass_small, pass_count}
use Rattle.layout.proofs.Tables.{begins_size, moves_size, ends_size, owners_size, first_at, Stored}
use Rattle.layout.proofs.Tables.{first_stored, begins_stored, moves_stored, ends_stored, owners_stored}

-- the first k arrows are passed, and laid out in a table with room for h groups
abbrev pub PassedIn : List ℕ → ℕ → ℕ → ℕ → ℕ → ℕ → ℕ → List ℕ → List ℕ → Type 0
PassedIn s mask k least g n h table states =
    Passed s mask k least g n (first_part table) states (moves_part h table) (begins_part h table) (ends_part h table)
    (owners_part h table)

-- at first none is
pub start_in : (s : List ℕ) (mask h : ℕ) (table states : List ℕ) → PlantHead s
    → take (word 0 s) table ≡ replicate (word 0 s) 0 → PassedIn s mask 0 0 0 0 h table states
unfolding first_part part
start_in s mask h table states head clear =
    let first = take-take (word 0 s) 1025 table (omega (arith, head.sizes.states_most)) in
    pass_start s mask (first_part table) states (moves_part h table) (begins_part h table) (ends_part h table)
    (owners_part h table) (first ∙ clear)

-- arrays as long have as much room
pub room_same : {count h : ℕ} {table states table' states' : List ℕ} → Room count h table states
    → length table' ≡ length table → length states' ≡ length states → Room count h table' states'
room_same r e f =
    record {
      table_long = omega (arith, r.table_long);
      table_fits = r.table_fits;
      states_fit = omega (arith, r.states_fit);
    }

module _ {s : List ℕ} {mask k least g n h : ℕ} {table states : List ℕ} (room : Room (word 3 s) h table states)
    (t : PassedIn s mask k least g n h table states) {b : ReadArrow} {next : ℕ} (r : Taken s k least b next) where
  -- there is a place for one more of each
  pub group_place : g < h
  group_place = omega (arith, t.laid.groups_few, t.many, r.more, room.table_fits)

  pub end_place : n < h
  end_place = omega (arith, t.laid.arrows_few, t.many, r.more, room.table_fits)

  pub state_place : g < length states
  state_place = omega (arith, t.laid.groups_few, t.many, r.more, room.states_fit)

  spare : Spare g n states (moves_part h table) (begins_part h table) (ends_part h table) (owners_part h table)
  spare =
      record {
        states_long = state_place;
        moves_long = omega (arith, group_place, moves_size h table room.table_long);
        begins_long = omega (arith, group_place, begins_size h table room.table_long);
        ends_long = omega (arith, end_place, ends_size h table room.table_long);
        owners_long = omega (arith, end_place, owners_size h table room.table_long);
      }

  module _ (some : next ≡ 0 → ⊥) {on new : ℕ} (eo : on ≡ pick (bit b.action mask) 1 0)
      (en : new ≡ pick (leb least (key b.from b.action)) on 0) where
    -- the numbers that it adds are small
    pub small_in : (new ≤ on) × (on ≤ 1) × (on - new ≤ g)
    small_in = pass_small t r some spare eo en

    state_low : b.from < 1025
    state_low =
        omega (arith, pass_count t r some spare eo en, plant_states s, r.head.sizes.states_most)

    -- and so are the groups of its state
    pub count_in : (b.from < 1025) × (get_or table b.from 0 + new < 65536)
    count_in = (
      state_low,
      omega (
        arith,
        pass_count t r some spare eo en,
        first_at table b.from state_low,
        small_in,
        t.laid.groups_few,
        t.many,
        r.more,
        r.head.arrows_most,
      ),
    )

    -- after its stores it is passed, and the arrays are as long as they were
    module _ {counted opened table' states' : List ℕ}
        (e₁ : counted ≡ set table b.from (get_or table b.from 0 + new))
        (e₂ : states' ≡ set states g b.from)
        (e₃ : opened ≡ set (set counted (1026 + h + g) b.action) (1025 + g) n)
        (e₄ : table' ≡ set (set opened (1026 + 2 * h + n) b.to) (1026 + 3 * h + n) (g - (on - new))) where
      stored : table'
          ≡ Stored h g n table b.from (get_or table b.from 0 + new) b.action b.to (g - (on - new))
      stored = rw (e₄, e₃, e₁)

      pub again_in : PassedIn s mask (k + 1) next (g + new) (n + on) h table' states'
      again_in =
          let sum = get_or table b.from 0 + new in
          let owner = g - (on - new) in
          rw (
            stored,
            e₂,
            first_stored h g n table b.from sum b.action b.to owner group_place end_place state_low,
            begins_stored h g n table b.from sum b.action b.to owner group_place end_place state_low,
            moves_stored h g n table b.from sum b.action b.to owner group_place end_place state_low,
            ends_stored h g n table b.from sum b.action b.to owner group_place end_place state_low,
            owners_stored h g n table b.from sum b.action b.to owner group_place end_place state_low,
            ← first_at table b.from state_low,
          ) (pass_turn t r some spare eo en)

      pub same_in : (length table' ≡ length table) × (length states' ≡ length states)
      same_in = (ap length stored ∙ simp length-set, ap length e₂ ∙ simp length-set)

-- arrow k as it is read and checked, from what the code reads
pub taken_of : {s : List ℕ} {states moves count k least next : ℕ} {b : ReadArrow} → head_ok s ≡ true → states ≡ word 0 s
    → moves ≡ word 1 s → count ≡ word 3 s → k < count → b ≡ arrow_in s k → next ≡ least_after states moves least b
    → Taken s k least b next
taken_of {s} ok e f g low read next =
    record {
      head = plant_head s ok;
      more = rw g at low;
      read = read;
      next_is = rw (plant_states s, plant_moves s, ← e, ← f) next;
    }
