-- Where all arrows of an accepted plant are in service, the ends of its groups are those of the arrows, in their stored
-- order. The pass over the arrows is followed, in lists as long as need be. Assumes nothing.
use mathlib.Core.Path.{◌≡◌, refl, sym, ap, ◌∙◌}
use mathlib.Core.Logic.{⊎_elim}
use mathlib.Core.Bool.{Bool, true, false, true≢false}
use mathlib.Core.List.{List}
use Prim.Native.Nat.{ℕ, zero, suc, ◌+◌, ◌-◌, ◌<◌, ◌≤◌}
use native.Mathlib.Numerals.{add-one}
use native.Mathlib.Omega.{arith}
use lib.Dec.{leb}
use lib.ListN.{length, get_or, take, set, replicate, length-set, length-replicate}
use lib.Seq.{get_or-set_same, get_or-set_other, get_or-take, take-length, length-take-le}
use Rattle.statements.specs.Sets.{pick, bit}
use Rattle.statements.specs.Plants.{word, plant_of, plant_fault}
use Rattle.sets.proofs.Tests.{same_number}
use Rattle.decoding.proofs.Faults.{plant_tests}
use Rattle.decoding.proofs.Order.{arrows_length}
use Rattle.format.specs.declared.arrows.Arrow.{Arrow as ReadArrow}
use Rattle.format.specs.Arrows.{arrow_in}
use Rattle.format.specs.Checks.{least_after}
use Rattle.format.proofs.Header.{plant_head}
use Rattle.layout.specs.Layout.{group_ends}
use Rattle.layout.proofs.Turns.{Spare}
use Rattle.layout.proofs.Passed.{key, Passed, Taken, pass_start, pass_turn, pass_refused, pass_end}

-- the first k arrows are passed in lists as long as all arrows, and where all are in service each end stands at its
-- place
record Walked (s : List ℕ) (mask k : ℕ) : Type 0 where
  least : ℕ
  groups : ℕ
  arrows : ℕ
  first : List ℕ
  states : List ℕ
  moves : List ℕ
  begins : List ℕ
  ends : List ℕ
  owners : List ℕ
  passed : Passed s mask k least groups arrows first states moves begins ends owners
  states_long : length states ≡ word 3 s
  moves_long : length moves ≡ word 3 s
  begins_long : length begins ≡ word 3 s
  ends_long : length ends ≡ word 3 s
  owners_long : length owners ≡ word 3 s
  stands : arrows ≡ k → (j : ℕ) → j < k → get_or ends j 0 ≡ (arrow_in s j).to

-- at first none is
walk_start : (s : List ℕ) (mask : ℕ) → Walked s mask 0
walk_start s mask =
    let zeros : List ℕ = replicate (word 3 s) 0 in
    let firsts : List ℕ = replicate (word 0 s) 0 in
    let size : length zeros ≡ word 3 s = length-replicate {A = ℕ} (word 3 s) 0 in
    let clear : take (word 0 s) firsts ≡ firsts =
    ap (λ (n : ℕ). take n firsts) (sym (length-replicate {A = ℕ} (word 0 s) 0)) ∙ take-length firsts in
    record {
      least = 0;
      groups = 0;
      arrows = 0;
      first = firsts;
      states = zeros;
      moves = zeros;
      begins = zeros;
      ends = zeros;
      owners = zeros;
      passed = pass_start s mask firsts zeros zeros zeros zeros zeros clear;
      states_long = size;
      moves_long = size;
      begins_long = size;
      ends_long = size;
      owners_long = size;
      stands = λ all j h. absurd (omega arith);
    }

-- the next arrow of an accepted plant
module _ (s : List ℕ) (mask k : ℕ) (fine : plant_fault s ≡ 0) (more : k < word 3 s) (w : Walked s mask k) where
  arrow : ReadArrow
  arrow = arrow_in s k

  next : ℕ
  next = least_after (plant_of s).states (plant_of s).moves w.least arrow

  taken : Taken s k w.least arrow next
  unfolding arrow next
  taken = record { head = plant_head s (plant_tests s fine).0; more = more; read = refl; next_is = refl }

  some : next ≡ 0 → ⊥
  some none = true≢false (sym (plant_tests s fine).2 ∙ pass_refused w.passed taken none)

  few : (w.groups < word 3 s) × (w.arrows ≤ k)
  few = omega (arith, w.passed.laid.groups_few, w.passed.laid.arrows_few, w.passed.many, more)

  spare : Spare w.groups w.arrows w.states w.moves w.begins w.ends w.owners
  spare =
      record {
        states_long = omega (arith, few.0, w.states_long);
        moves_long = omega (arith, few.0, w.moves_long);
        begins_long = omega (arith, few.0, w.begins_long);
        ends_long = omega (arith, few.1, w.ends_long);
        owners_long = omega (arith, few.1, w.owners_long);
      }

  on : ℕ
  on = pick (bit arrow.action mask) 1 0

  new : ℕ
  new = pick (leb w.least (key arrow.from arrow.action)) on 0

  one : (b : Bool) → pick b 1 0 ≤ 1
  one true = omega arith
  one false = omega arith

  stands_next : w.arrows + on ≡ k + 1 → (j : ℕ) → j < k + 1
      → get_or (set w.ends w.arrows arrow.to) j 0 ≡ (arrow_in s j).to
  unfolding on arrow
  stands_next full j h =
      let here : w.arrows ≡ k = omega (arith, few.1, one (bit (arrow_in s k).action mask)) in
      ⊎_elim
      (λ e.
      ap (λ (n : ℕ). get_or (set w.ends w.arrows (arrow_in s k).to) n 0) (e ∙ sym here)
      ∙ get_or-set_same w.ends w.arrows (arrow_in s k).to 0 (omega (arith, more, w.ends_long))
      ∙ ap (λ (n : ℕ). (arrow_in s n).to) (sym e))
      (λ d.
      get_or-set_other w.ends w.arrows j (arrow_in s k).to 0 (λ q. omega arith) ∙ w.stands here j (omega arith))
      (same_number j k)

  walk_next : Walked s mask (k + 1)
  unfolding on new arrow next
  walk_next =
      record {
        least = next;
        groups = w.groups + new;
        arrows = w.arrows + on;
        first = set w.first arrow.from (get_or w.first arrow.from 0 + new);
        states = set w.states w.groups arrow.from;
        moves = set w.moves w.groups arrow.action;
        begins = set w.begins w.groups w.arrows;
        ends = set w.ends w.arrows arrow.to;
        owners = set w.owners w.arrows (w.groups - (on - new));
        passed = pass_turn w.passed taken some spare refl refl;
        states_long = length-set w.states w.groups arrow.from ∙ w.states_long;
        moves_long = length-set w.moves w.groups arrow.action ∙ w.moves_long;
        begins_long = length-set w.begins w.groups w.arrows ∙ w.begins_long;
        ends_long = length-set w.ends w.arrows arrow.to ∙ w.ends_long;
        owners_long = length-set w.owners w.arrows (w.groups - (on - new)) ∙ w.owners_long;
        stands = stands_next;
      }

-- step by step up to a number
climb : (P : ℕ → Type 0) (n : ℕ) → P 0 → ((k : ℕ) → k < n → P k → P (k + 1)) → (k : ℕ) → k ≤ n → P k
climb P n base step zero h = base
climb P n base step (suc k) h = rw add-one at (step k (omega arith) (climb P n base step k (omega arith)))

-- so where there are as many ends as arrows, they are those of the arrows
module _ (s : List ℕ) (mask : ℕ) (fine : plant_fault s ≡ 0) where
  all : Walked s mask (word 3 s)
  all =
      climb (Walked s mask) (word 3 s) (walk_start s mask) (λ k more w. walk_next s mask k fine more w) (word 3 s)
      (omega arith)

  pub ends_served : length (group_ends (plant_of s) mask) ≡ word 3 s
      → (j : ℕ) → j < word 3 s → get_or (group_ends (plant_of s) mask) j 0 ≡ (arrow_in s j).to
  ends_served many j h =
      let laid = pass_end all.passed (omega arith) in
      let long = length-take-le all.arrows all.ends
      (omega (arith, all.ends_long, laid.arrows_few, arrows_length s)) in
      let full : all.arrows ≡ word 3 s = omega (arith, ap length laid.ends_are) in
      ap (λ (l : List ℕ). get_or l j 0) (sym laid.ends_are)
      ∙ get_or-take all.arrows all.ends j 0 (omega arith)
      ∙ all.stands full j h
