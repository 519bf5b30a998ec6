-- Lost, or the advice for a kept state.
use Rattle.std.proofs.Common.{sym, ◌∙◌}
use Rattle.consult.proofs.Consulted.{says_lost}
use Rattle.consult.proofs.goals.answer.Goals as goal

pub returns-then-is_lost : goal.returns-then-is_lost
returns-then-is_lost c =
    says_lost c.args.book.now c.args.state c.args.goal c.requires (sym c.is_lost.ensures ∙ c.if-is_lost.true)
