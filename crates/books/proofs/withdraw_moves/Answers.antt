-- A call that passes the checks ahead of loading is carried out, and any other is refused and changes nothing.
use Rattle.std.proofs.Common.{false, [], sym, ◌∙◌}
use Rattle.books.proofs.Answered.{withdraw_refused}
use Rattle.books.proofs.withdraw_moves.Goals as goal

pub returns-then-not-withdraw_ahead-clause-withdraw_says : goal.returns-then-not-withdraw_ahead-clause-withdraw_says
returns-then-not-withdraw_ahead-clause-withdraw_says c =
    record {
      writes =
          withdraw_refused false [] c.args.plant.now c.args.book.now c.args.mask c.args.out.now c.args.drops.now _
          c.refused.ensures c.withdraw.ensures (sym c.withdraw_ahead.ensures ∙ c.if-not-withdraw_ahead.true);
    }

pub carry_out-requires : goal.carry_out-requires
carry_out-requires c = sym c.withdraw_ahead.ensures ∙ c.if-not-withdraw_ahead.false

pub returns-clause-withdraw_says : goal.returns-clause-withdraw_says
returns-clause-withdraw_says c = c.carry_out.ensures
