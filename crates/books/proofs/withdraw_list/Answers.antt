-- A list that passes the checks ahead of loading is carried out as one withdrawal of all moves that its masks name, and
-- any other is refused and changes nothing.
use Rattle.std.proofs.Common.{ℕ, length, sym, ap, ◌∙◌}
use Rattle.refusals.specs.Ahead.{withdraw_ahead}
use Rattle.refusals.proofs.Ahead.{list_left}
use Rattle.books.proofs.Answered.{list_refused, list_says}
use Rattle.books.proofs.withdraw_list.Goals as goal

pub returns-then-not-withdraw_list_ahead-clause-withdraw_list_says :
    goal.returns-then-not-withdraw_list_ahead-clause-withdraw_list_says
returns-then-not-withdraw_list_ahead-clause-withdraw_list_says c =
    list_refused c.args.plant.now c.args.book.now c.args.masks.now c.args.out.now c.args.drops.now _ c.refused.ensures
    c.withdraw_list.ensures (sym c.withdraw_list_ahead.ensures ∙ c.if-not-withdraw_list_ahead.true)

pub carry_out-requires : goal.carry_out-requires
carry_out-requires c =
    let a = c.args in
    let passes = sym c.withdraw_list_ahead.ensures ∙ c.if-not-withdraw_list_ahead.false in
    ap (λ (gone : ℕ). withdraw_ahead a.plant.now a.book.now gone (length a.out.now) (length a.drops.now))
    c.union-gone.ensures
    ∙ (list_left a.plant.now a.book.now a.masks.now _ _ passes).1

pub returns-clause-withdraw_list_says : goal.returns-clause-withdraw_list_says
returns-clause-withdraw_list_says c =
    list_says (sym c.withdraw_list_ahead.ensures ∙ c.if-not-withdraw_list_ahead.false)
    (rw c.union-gone.ensures at c.carry_out.ensures)
