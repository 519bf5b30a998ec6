-- What working out the game of a plant comes to: the states kept from a start, and the columns of their waits.
-- Assumes nothing.
use mathlib.Core.Path.{◌≡◌, ap, ◌∙◌, subst}
use mathlib.Core.Bool.{Bool}
use mathlib.Core.List.{List}
use Prim.Native.Nat.{ℕ, ◌*◌, ◌≤◌}
use native.Mathlib.Nat.{mul-le-mul_right}
use native.Mathlib.Omega.{arith}
use lib.ListN.{length, take}
use Rattle.std.specs.Prelude.{Option, Some, None}
use Rattle.statements.specs.Sets.{pick, numbers, over}
use Rattle.statements.specs.Plants.{plant_of, plant_fault}
use Rattle.sets.proofs.Members.{Sifted, filter_holds}
use Rattle.decoding.proofs.Faults.{plant_ok}
use Rattle.game.specs.Packed.{playable, held_in, waits_in}
use Rattle.graph.proofs.Links.{arrows_few}
use Rattle.solve.specs.Rows.{Columns, kept_from}
use Rattle.solve.specs.Graphed.{Graphed, Exits}
use Rattle.solve.specs.Stages.{passing, Opened}
use Rattle.solve.proofs.Played.{can_play, held_is, waits_are}

module _ (s : List ℕ) (fine : plant_fault s ≡ 0) (mask groups positions : ℕ) (graph : List ℕ)
    (g : Graphed (plant_of s) mask groups positions graph) (leave first : List ℕ)
    (set : Sifted (numbers (plant_of s).states 0) first) (exits : Exits (plant_of s) leave first graph) where
  -- as it is said of the plant's own figures
  worked_here : (r : Option ℕ) (old waits : List ℕ) → 8192 ≤ length old → length waits ≡ length old
      → r ≡ pick (playable graph (plant_of s).states groups positions (plant_of s).goals first (length old))
      (Some (length (held_in graph (plant_of s).states groups positions (plant_of s).goals first))) None
      → waits ≡ pick (playable graph (plant_of s).states groups positions (plant_of s).goals first (length old))
      (over (waits_in graph (plant_of s).states groups positions (plant_of s).goals
      (held_in graph (plant_of s).states groups positions (plant_of s).goals first)) old) old
      → (r ≡ Some (length (kept_from (plant_of s) mask leave first)))
      × Columns (plant_of s) mask leave (kept_from (plant_of s) mask leave first) waits
  worked_here r old waits room long er ew =
      let p = plant_of s in
      let ok = plant_ok s fine in
      let few = arrows_few s fine in
      let plays = can_play p mask ok few groups positions graph g leave first set exits (length old) room in
      let held = held_is p mask ok few groups positions graph g leave first set exits in
      let kept = held_in graph p.states groups positions p.goals first in
      let is : waits ≡ over (waits_in graph p.states groups positions p.goals kept) old =
      ew ∙ ap (λ (b : Bool). pick b (over (waits_in graph p.states groups positions p.goals kept) old) old) plays in (
        er
            ∙ (ap (λ (b : Bool). pick b (Some (length kept)) None) plays ∙ ap (λ (ys : List ℕ). Some (length ys)) held),
        subst (λ (ys : List ℕ). Columns p mask leave ys waits) held
            (waits_are p mask ok few groups positions graph g leave first set exits kept old waits held is long room),
      )

  -- and of numbers that are equal to these
  pub worked : (n g' q goals : ℕ) → n ≡ (plant_of s).states → g' ≡ groups → q ≡ positions → goals ≡ (plant_of s).goals
      → (r : Option ℕ) (old waits : List ℕ) → 8192 ≤ length old → length waits ≡ length old
      → r ≡ pick (playable graph n g' q goals first (length old)) (Some (length (held_in graph n g' q goals first))) None
      → waits ≡ pick (playable graph n g' q goals first (length old))
      (over (waits_in graph n g' q goals (held_in graph n g' q goals first)) old) old
      → (r ≡ Some (length (kept_from (plant_of s) mask leave first)))
      × Columns (plant_of s) mask leave (kept_from (plant_of s) mask leave first) waits
  worked n g' q goals en eg eq el r old waits room long er ew =
      worked_here r old waits room long (rw (en, eg, eq, el) at er) (rw (en, eg, eq, el) at ew)

-- the states that a stage may pass are marked as those of the start
pub opened_exits : (s : List ℕ) (mask : ℕ) (start earlier leave all graph : List ℕ) (count : ℕ)
    → Opened (plant_of s) mask start earlier leave all count → Exits (plant_of s) leave start graph
    → Exits (plant_of s) leave (take count all) graph
opened_exits s mask start earlier leave all graph count o exits x m =
    exits x (filter_holds (passing (plant_of s) mask earlier) start x (rw o.list at m)).0

-- 8,192 numbers are enough for the waits of any plant
pub columns_room : (s : List ℕ) → plant_fault s ≡ 0 → (n goals : ℕ) → n ≡ (plant_of s).states → goals ≡ (plant_of s).goals
    → goals * n ≤ 8192
columns_room s fine n goals en eg =
    let sizes = (plant_ok s fine).sizes in
    let few = mul-le-mul_right {m = goals} {n = 8} n (omega (arith, sizes.goals_most)) in
    omega (arith, sizes.states_most)
