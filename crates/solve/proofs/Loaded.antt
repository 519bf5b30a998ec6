-- What the solver's functions are given, out of the packed arrays of a plant. Assumes nothing.
use mathlib.Core.Path.{◌≡◌, refl, sym, ap, ap₂, ◌∙◌}
use mathlib.Core.Bool.{Bool, true, false}
use mathlib.Core.List.{List}
use Prim.Native.Nat.{ℕ, ◌+◌, ◌-◌, ◌*◌, ◌≤◌, ◌<◌}
use native.Mathlib.Omega.{arith}
use lib.ListN.{length, get_or, drop, replicate}
use lib.Seq.{get_or-take, get_or-drop}
use Rattle.statements.specs.Sets.{pick, numbers}
use Rattle.statements.specs.Plants.{Plant, plant_of, plant_fault}
use Rattle.statements.specs.Books.{lost_mark}
use Rattle.sets.proofs.Tests.{not_both}
use Rattle.sets.proofs.Members.{Sifted}
use Rattle.sets.proofs.Iterate.{sifted_below}
use Rattle.decoding.proofs.Faults.{PlantOk, plant_ok}
use Rattle.layout.specs.Layout.{table_room, group_states, group_ends, Front}
use Rattle.game.specs.Packed.{places_in}
use Rattle.graph.specs.Packed.{Packed}
use Rattle.solve.specs.declared.moves.Frame.{Frame}
use Rattle.solve.specs.Reached.{goes}
use Rattle.solve.specs.Given.{Given}
use Rattle.solve.specs.Rows.{row_size, rows_long}
use Rattle.solve.specs.Graphed.{Graphed, Exits, label_at}
use Rattle.solve.proofs.Labels.{label_low}
use Rattle.solve.proofs.Plain.{no_move}

-- a number of a list that stands from a place on
front_at : (xs all : List ℕ) (n x : ℕ) → Front xs (drop n all) → x < length xs → get_or all (n + x) 0 ≡ get_or xs x 0
front_at xs all n x f h =
    sym (get_or-drop n all x 0)
    ∙ (sym (get_or-take (length xs) (drop n all) x 0 h) ∙ ap (λ (ys : List ℕ). get_or ys x 0) f)

-- the figures of a plant with groups loaded, one by one
pub record Figures (p : Plant) (mask groups positions : ℕ) (f : Frame) : Type 0 where
  pub mask_is : f.mask ≡ mask
  pub none_is : f.none ≡ p.moves
  pub states_is : f.states ≡ p.states
  pub goals_is : f.goals ≡ p.goals
  pub size_is : f.size ≡ row_size p
  pub groups_is : f.groups ≡ groups
  pub positions_is : f.positions ≡ positions

pub figures_are : (p : Plant) (mask groups positions : ℕ) (eager : Bool) (f : Frame)
    → f ≡ record {
      mask = mask;
      none = p.moves;
      states = p.states;
      goals = p.goals;
      size = row_size p;
      groups = groups;
      positions = positions;
      eager = eager;
    }
    → Figures p mask groups positions f
figures_are p mask groups positions eager f e =
    record {
      mask_is = ap (λ (f : Frame). f.mask) e;
      none_is = ap (λ (f : Frame). f.none) e;
      states_is = ap (λ (f : Frame). f.states) e;
      goals_is = ap (λ (f : Frame). f.goals) e;
      size_is = ap (λ (f : Frame). f.size) e;
      groups_is = ap (λ (f : Frame). f.groups) e;
      positions_is = ap (λ (f : Frame). f.positions) e;
    }

-- the numbers of all rows, by the figures
pub rows_count : (p : Plant) {states size : ℕ} → states ≡ p.states → size ≡ row_size p → states * size ≡ rows_long p
unfolding rows_long
rows_count p es ez = ap₂ (λ (a b : ℕ). a * b) es ez

-- a label without its mark
no_mark : (l : ℕ) (b : Bool) → b ≡ false → l ≡ l + pick b 32768 0
no_mark l true e = absurd (not_both refl e)
no_mark l false e = omega arith

module _ (s : List ℕ) (fine : plant_fault s ≡ 0) (mask : ℕ) (table graph : List ℕ)
    (packed : Packed (plant_of s) mask table graph) where
  -- the table
  pub loaded_given : 1026 ≤ length table → {none : ℕ} → none ≡ (plant_of s).moves → Given s mask table none
  unfolding table_room
  loaded_given long n =
      record {
        accepted = fine;
        table_is = record {
          first_is = packed.first_is;
          begins_is = packed.begins_is;
          moves_is = packed.moves_is;
          ends_is = packed.ends_is;
          long = long;
        };
        none_is = n;
      }

  ok : PlantOk (plant_of s)
  ok = plant_ok s fine

  -- the labels
  label_is : (x : ℕ) → x < (plant_of s).states → get_or graph (label_at graph x) 0 ≡ get_or (plant_of s).labels x 0
  label_is x h =
      front_at (plant_of s).labels graph (length graph - 1024) x packed.labels_is (omega (arith, ok.labels_long))

  -- the game
  pub loaded_graphed : 2049 ≤ length graph → length (plant_of s).arrows ≤ places_in (length graph)
      → places_in (length graph) ≤ 8192 → {groups positions : ℕ} → groups ≡ length (group_states (plant_of s) mask)
      → positions ≡ length (group_ends (plant_of s) mask) → Graphed (plant_of s) mask groups positions graph
  loaded_graphed long room few eg ep =
      record {
        groups_are = eg;
        positions_are = ep;
        states_is = packed.states_is;
        rev_is = packed.rev_is;
        starts_is = packed.starts_is;
        labels_are = λ x h. omega (arith, label_is x h, label_low (plant_of s) ok x);
        long = long;
        room = room;
        few = few;
      }

  -- no state leaves it
  pub loaded_exits : (start : List ℕ) → Sifted (numbers (plant_of s).states 0) start
      → Exits (plant_of s) (replicate 1024 lost_mark) start graph
  loaded_exits start set x m =
      let p = plant_of s in
      let inside = sifted_below p.states start set x m in
      let leave = replicate 1024 lost_mark in
      let stays = no_move p leave ok.sizes.moves_most refl x (omega (arith, ok.sizes.states_most)) in
      label_is x inside ∙ no_mark (get_or p.labels x 0) (goes p leave x) stays
