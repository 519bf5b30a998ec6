use Rattle.std.proofs.Common.{sym, ap, ◌∙◌}
use Rattle.rows.specs.Checks.{lost_at}
use Rattle.rows.proofs.Rows.{entry_next, lost_none}
use Rattle.rows.proofs.BookRows.entries_lost.Goals as goal

-- the entry of this goal is not lost, so not all are
pub returns-then-not-entry_lost : goal.returns-then-not-entry_lost
returns-then-not-entry_lost c =
    let rows = c.args.self.now in
    let place = entry_next rows.stages rows.book.now c.args.state c.loop-goal.goal c.entry-start.ensures.place in
    let fails = ap (lost_at rows.book.now) (sym place) ∙ sym c.entry_lost.ensures ∙ c.if-not-entry_lost.true in
    sym (lost_none rows.stages rows.book.now c.args.state _ c.loop-goal.goal (c.from-goal-end.ensures ∙ c.number.ensures) c.loop-goal-test.true fails)
