-- Over marks the rows of the kept states are written, by stages or at once, and then the bytes are those of all rows.
use Rattle.std.proofs.Common.{◌≡◌, List, ℕ, sym, ap, ◌∙◌, subst, arith}
use Rattle.statements.specs.Plants.{Plant, plant_of}
use Rattle.statements.specs.Kept.{kept_within}
use Rattle.decoding.proofs.Faults.{plant_ok}
use Rattle.arrays.specs.Lists.{among}
use Rattle.solve.specs.Given.{Given}
use Rattle.solve.specs.Graphed.{Graphed}
use Rattle.solve.specs.Rows.{rows_over}
use Rattle.solve.proofs.RowEntries.{rows_few}
use Rattle.solve.proofs.RowMarks.{rows_bytes}
use Rattle.solve.proofs.Loaded.{figures_are, rows_count, loaded_given, loaded_graphed, loaded_exits}
use Rattle.solve.proofs.solved.Goals as goal

-- the rows written for the kept states of one set of moves are those of the other where the two are the same
rows_with : (p : Plant) (start out : List ℕ) {m mask : ℕ} {new : List ℕ} → m ≡ mask
    → new ≡ rows_over p m (kept_within p m (among start)) out
    → new ≡ rows_over p mask (kept_within p mask (among start)) out
rows_with p start out e is = is ∙ ap (λ (k : ℕ). rows_over p k (kept_within p k (among start)) out) e

pub overflow_mul-frame : goal.overflow_mul-frame
overflow_mul-frame c =
    let p = plant_of c.args.plant.now in
    let f = figures_are p _ _ _ _ _ c.frame_of-frame.ensures in
    omega (
      arith,
      rows_count p f.states_is f.size_is,
      rows_few p (plant_ok c.args.plant.now c.requires.accepted).sizes,
    )

pub blank-requires-clause-count : goal.blank-requires-clause-count
blank-requires-clause-count c =
    let p = plant_of c.args.plant.now in
    let f = figures_are p _ _ _ _ _ c.frame_of-frame.ensures in
    rows_count p f.states_is f.size_is

pub invariant_of-moves : goal.invariant_of-moves
invariant_of-moves c =
    let a = c.args in
    let f = figures_are (plant_of a.plant.now) _ _ _ _ _ c.frame_of-frame.ensures in
    record {
      given = subst (λ (m : ℕ). Given a.plant.now m a.table.now c.frame_of-frame.result.none) (sym f.mask_is)
          (loaded_given a.plant.now c.requires.accepted a.way.mask a.table.now a.graph.now c.requires.packed.0
          c.requires.packed.1.table_long f.none_is);
      states_is = f.states_is;
      goals_is = f.goals_is;
      size_is = f.size_is;
    }

pub by_stages-requires-clause-graphed : goal.by_stages-requires-clause-graphed
by_stages-requires-clause-graphed c =
    let a = c.args in
    let r = c.frame_of-frame.result in
    let f = figures_are (plant_of a.plant.now) _ _ _ _ _ c.frame_of-frame.ensures in
    let wide = c.requires.packed.1 in
    subst (λ (m : ℕ). Graphed (plant_of a.plant.now) m r.groups r.positions a.graph.now) (sym f.mask_is)
    (loaded_graphed a.plant.now c.requires.accepted a.way.mask a.table.now a.graph.now c.requires.packed.0
    wide.graph_long wide.graph_room wide.graph_few (f.groups_is ∙ c.requires.loaded.0)
    (f.positions_is ∙ c.requires.loaded.1))

pub by_stages-requires-clause-marks : goal.by_stages-requires-clause-marks
by_stages-requires-clause-marks c =
    let mask = c.frame_of-frame.result.mask in
    let p = plant_of c.args.plant.now in
    (c.args.out.now, c.blank.ensures mask (kept_within p mask (among c.args.start.now)))

pub returns-then-settles-clause-rows : goal.returns-then-settles-clause-rows
returns-then-settles-clause-rows c =
    let a = c.args in
    let p = plant_of a.plant.now in
    let mask = c.frame_of-frame.result.mask in
    let kept = kept_within p mask (among a.start.now) in
    let f = figures_are p _ _ _ _ _ c.frame_of-frame.ensures in
    rows_with p a.start.now a.out.now f.mask_is
    (rows_bytes p mask kept (c.by_stages.ensures.rows a.out.now (c.blank.ensures mask kept))
    (λ k h. omega (arith, c.type_inv.out k)) c.requires.room)

pub invariant_of-moves-2 : goal.invariant_of-moves-2
invariant_of-moves-2 c =
    let a = c.args in
    let f = figures_are (plant_of a.plant.now) _ _ _ _ _ c.frame_of-frame.ensures in
    record {
      given = subst (λ (m : ℕ). Given a.plant.now m a.table.now c.frame_of-frame.result.none) (sym f.mask_is)
          (loaded_given a.plant.now c.requires.accepted a.way.mask a.table.now a.graph.now c.requires.packed.0
          c.requires.packed.1.table_long f.none_is);
      states_is = f.states_is;
      goals_is = f.goals_is;
      size_is = f.size_is;
    }

pub at_once-requires-clause-graphed : goal.at_once-requires-clause-graphed
at_once-requires-clause-graphed c =
    let a = c.args in
    let r = c.frame_of-frame.result in
    let f = figures_are (plant_of a.plant.now) _ _ _ _ _ c.frame_of-frame.ensures in
    let wide = c.requires.packed.1 in (
      subst (λ (m : ℕ). Graphed (plant_of a.plant.now) m r.groups r.positions a.graph.now) (sym f.mask_is)
          (loaded_graphed a.plant.now c.requires.accepted a.way.mask a.table.now a.graph.now c.requires.packed.0
          wide.graph_long wide.graph_room wide.graph_few (f.groups_is ∙ c.requires.loaded.0)
          (f.positions_is ∙ c.requires.loaded.1)),
      loaded_exits a.plant.now c.requires.accepted a.way.mask a.table.now a.graph.now c.requires.packed.0
          a.start.now c.requires.set,
    )

pub returns-clause-rows : goal.returns-clause-rows
returns-clause-rows c =
    let a = c.args in
    let p = plant_of a.plant.now in
    let mask = c.frame_of-frame.result.mask in
    let kept = kept_within p mask (among a.start.now) in
    let f = figures_are p _ _ _ _ _ c.frame_of-frame.ensures in
    rows_with p a.start.now a.out.now f.mask_is
    (rows_bytes p mask kept (c.at_once.ensures.rows a.out.now (c.blank.ensures mask kept))
    (λ k h. omega (arith, c.type_inv.out k)) c.requires.room)
