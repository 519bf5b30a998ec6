-- Where the arrays are built the plant is accepted, and the rows are worked out.
use Rattle.std.proofs.Common.{is_some, sym, ◌∙◌, arith}
use Rattle.arrays.proofs.Ordered.{rising_sifted}
use Rattle.layout.proofs.Options.{some_yes, none_no}
use Rattle.graph.specs.Packed.{accepts_by, lent_bytes}
use Rattle.solve.proofs.Answers as laws
use Rattle.solve.proofs.within.Goals as goal

pub returns-in_err-loaded : goal.returns-in_err-loaded
returns-in_err-loaded c =
    let built = laws.built (is_some c.args.way.index) (lent_bytes c.args.way.index) c.args.plant.now c.args.table.now c.args.graph.now
    (sym (none_no _ _ c.in_err-loaded.ensures.loaded)) c.requires.wide in
    let works = laws.fine_solvable (accepts_by c.args.way.index c.args.plant.now) c.args.plant.now
    c.args.start.now c.args.out.now c.requires.set c.requires.room ∙ sym built in
    let left = laws.not_solved _ c.args.plant.now c.args.way.mask c.args.start.now c.args.out.now works in
    record { count = c.from_residual.ensures ∙ left.0; rows = left.1 }

pub solved-requires-clause-accepted : goal.solved-requires-clause-accepted
solved-requires-clause-accepted c =
    let built = laws.built (is_some c.args.way.index) (lent_bytes c.args.way.index) c.args.plant.now c.args.table.now c.args.graph.now
    (sym (some_yes _ _ c.in_ok-loaded.loaded c.in_ok-loaded.ensures.loaded)) c.requires.wide in
    laws.accepts_fine (is_some c.args.way.index) (lent_bytes c.args.way.index) c.args.plant.now (sym built)

pub solved-requires-clause-packed : goal.solved-requires-clause-packed
solved-requires-clause-packed c =
    let built = laws.built (is_some c.args.way.index) (lent_bytes c.args.way.index) c.args.plant.now c.args.table.now c.args.graph.now
    (sym (some_yes _ _ c.in_ok-loaded.loaded c.in_ok-loaded.ensures.loaded)) c.requires.wide in
    let fine = laws.accepts_fine (is_some c.args.way.index) (lent_bytes c.args.way.index) c.args.plant.now (sym built) in
    (c.in_ok-loaded.ensures.packed, rw (c.build.auto.table, c.build.auto.graph) (c.requires.wide fine))

pub solved-requires-clause-set : goal.solved-requires-clause-set
solved-requires-clause-set c = rising_sifted _ c.args.start.now c.requires.set

pub overflow_cast-result : goal.overflow_cast-result
overflow_cast-result c =
    let built = laws.built (is_some c.args.way.index) (lent_bytes c.args.way.index) c.args.plant.now c.args.table.now c.args.graph.now
    (sym (some_yes _ _ c.in_ok-loaded.loaded c.in_ok-loaded.ensures.loaded)) c.requires.wide in
    let fine = laws.accepts_fine (is_some c.args.way.index) (lent_bytes c.args.way.index) c.args.plant.now (sym built) in
    omega (arith, laws.done_few c.args.plant.now c.args.way.mask c.args.start.now fine c.solved.ensures.count)

pub returns : goal.returns
returns c =
    let built = laws.built (is_some c.args.way.index) (lent_bytes c.args.way.index) c.args.plant.now c.args.table.now c.args.graph.now
    (sym (some_yes _ _ c.in_ok-loaded.loaded c.in_ok-loaded.ensures.loaded)) c.requires.wide in
    let works = laws.fine_solvable (accepts_by c.args.way.index c.args.plant.now) c.args.plant.now
    c.args.start.now c.args.out.now c.requires.set c.requires.room ∙ sym built in
    let done = laws.done_solved _ c.args.plant.now c.args.way.mask c.args.start.now c.args.out.now works
    c.solved.ensures.count c.solved.ensures.rows in
    record { count = done.0; rows = done.1 }
