-- It begins at the sought goal, and a goal that is served is passed.
use Rattle.std.proofs.Common.{sym, ◌∙◌, arith}
use Rattle.statements.specs.Books.{book_goals}
use Rattle.consult.proofs.Arriving.{pass_start, pass_on}
use Rattle.consult.proofs.goals.arrive.Goals as goal

pub loop-passed-init : goal.loop-passed-init
unfolding book_goals
loop-passed-init c =
    let a = c.args in
    let goals = c.from-goals.ensures ∙ c.number.ensures in
    pass_start a.book.now a.state a.goal _ goals (omega (arith, c.requires, goals))

pub loop-passed-preserved : goal.loop-passed-preserved
loop-passed-preserved c =
    pass_on c.loop-passed.invariant c.loop-passed-test.true (sym c.wait_at.ensures ∙ c.if-wait_at-ne0.false) _
    c.next_goal-at.ensures
