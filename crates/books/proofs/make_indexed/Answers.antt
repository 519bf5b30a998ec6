-- A make that passes the checks ahead of loading is carried out, and any other is refused and changes nothing.
use Rattle.std.proofs.Common.{true, sym, ◌∙◌}
use Rattle.books.proofs.Answered.{make_refused}
use Rattle.books.proofs.make_indexed.Goals as goal

pub returns-then-not-make_ahead-clause-make_indexed_says : goal.returns-then-not-make_ahead-clause-make_indexed_says
returns-then-not-make_ahead-clause-make_indexed_says c =
    make_refused true c.args.index.now c.args.plant.now c.args.mask c.args.out.now _ c.refused.ensures c.make_by.ensures
    (sym c.make_ahead.ensures ∙ c.if-not-make_ahead.true)

pub carry_out-requires : goal.carry_out-requires
carry_out-requires c = sym c.make_ahead.ensures ∙ c.if-not-make_ahead.false

pub returns-clause-make_indexed_says : goal.returns-clause-make_indexed_says
returns-clause-make_indexed_says c = c.carry_out.ensures
