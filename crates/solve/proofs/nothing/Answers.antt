-- No state is kept, and over marks these are all rows.
use Rattle.std.proofs.Common.{[], sym, ◌∙◌, arith}
use Rattle.statements.specs.Plants.{plant_of}
use Rattle.graph.specs.Packed.{accepts_by}
use Rattle.solve.proofs.Answers.{book_rows, none_unsolved, none_solved}
use Rattle.solve.proofs.nothing.Goals as goal

pub returns-then-not-is_good-clause-count : goal.returns-then-not-is_good-clause-count
returns-then-not-is_good-clause-count c = λ mask.
    (none_unsolved _ c.args.plant.now mask c.args.out.now c.requires (sym c.is_good.ensures ∙ c.if-not-is_good.true)).0

pub returns-then-not-is_good-clause-rows : goal.returns-then-not-is_good-clause-rows
returns-then-not-is_good-clause-rows c = λ mask.
    (none_unsolved _ c.args.plant.now mask c.args.out.now c.requires (sym c.is_good.ensures ∙ c.if-not-is_good.true)).1

pub overflow_sub-book_long : goal.overflow_sub-book_long
overflow_sub-book_long c = omega (arith, c.book_long.ensures, book_rows (plant_of c.args.plant.now))

pub blank-requires-clause-count : goal.blank-requires-clause-count
blank-requires-clause-count c = omega (arith, c.book_long.ensures, book_rows (plant_of c.args.plant.now))

pub returns-clause-count : goal.returns-clause-count
returns-clause-count c = λ mask.
    (none_solved (accepts_by c.args.index c.args.plant.now) c.args.plant.now mask c.args.out.now
    c.requires (sym c.is_good.ensures ∙ c.if-not-is_good.false) (c.blank.ensures mask [])
    (λ k h. omega (arith, c.type_inv.out k))).0

pub returns-clause-rows : goal.returns-clause-rows
returns-clause-rows c = λ mask.
    (none_solved (accepts_by c.args.index c.args.plant.now) c.args.plant.now mask c.args.out.now
    c.requires (sym c.is_good.ensures ∙ c.if-not-is_good.false) (c.blank.ensures mask [])
    (λ k h. omega (arith, c.type_inv.out k))).1
