-- So many stages are worked out, over the marks that stand there.
use Rattle.std.proofs.Common.{◌≡◌, List, [], ℕ, ◌-◌, ◌≤◌, length}
use Rattle.statements.specs.Plants.{plant_of}
use Rattle.statements.specs.Kept.{kept_within, stages_to}
use Rattle.arrays.specs.Lists.{among}
use Rattle.solve.specs.Graphed.{Graphed}
use Rattle.solve.specs.Rows.{Rowed}
use Rattle.solve.specs.Stages.{Staged}
use Rattle.solve.proofs.moves.Moves.by_stages.Given as goal

abbrev pub invariant-loop-done : goal.invariant-loop-done
invariant-loop-done l =
    let p = plant_of l.self.plant.now in
    let mask = l.self.frame.mask in
    record {
      staged : (old : List ℕ) → Rowed p mask (kept_within p mask (among l.start)) [] old l.initial.out
          → Staged p mask l.start l.done l.stage old l.out;
      kept_is : l.kept ≡ length (stages_to l.done p mask (among l.start));
      few : l.done ≤ l.kept;
      graphed : Graphed p mask l.self.frame.groups l.self.frame.positions l.graph;
    }

abbrev pub decreases-loop-done : goal.decreases-loop-done
decreases-loop-done l = 1024 - l.kept
