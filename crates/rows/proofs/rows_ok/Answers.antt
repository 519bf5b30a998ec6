use Rattle.std.proofs.Common.{sym, ◌∙◌, arith}
use Rattle.statements.specs.Books.{book_states}
use Rattle.rows.proofs.Rows.{lost_known, held_known, rows_start, rows_lost, rows_held, rows_fail}
use Rattle.rows.proofs.rows_ok.Goals as goal
use Rattle.rows.proofs.rows_ok.Goals.{then-not-lost+else-not-held, else-not-lost}

pub loop-state-init : goal.loop-state-init
loop-state-init c = rows_start c.args.book.now

pub held-requires : goal.held-requires
unfolding book_states
held-requires c = omega (arith, c.from-state-end.ensures, c.number.ensures)

pub returns-then-not-held : goal.returns-then-not-held
returns-then-not-held c =
    let b = c.args.book.now in
    let x = c.loop-state.state in
    let lost = lost_known b x _ _ c.staged.ensures c.lost.ensures in
    let held = held_known b x _ _ c.staged.ensures c.held.ensures in
    sym (rows_fail b _ x (c.from-state-end.ensures ∙ c.number.ensures) c.loop-state-test.true
    (sym lost ∙ c.if-not-lost.true) (sym held ∙ c.if-not-held.true))

pub loop-state-preserved : goal.loop-state-preserved
loop-state-preserved c =
    let b = c.args.book.now in
    let x = c.loop-state.state in
    let lost = lost_known b x _ _ c.staged.ensures c.lost.ensures in
    elim c.if-not-lost.branch [
      | then-not-lost+else-not-held w ↦
          rw w.kept-is
          (rows_held c.loop-state.invariant (sym lost ∙ w.if-not-lost.true)
          (sym (held_known b x _ _ c.staged.ensures w.held.ensures) ∙ w.if-not-held.false))
      | else-not-lost w ↦ rw w.kept-is (rows_lost c.loop-state.invariant (sym lost ∙ w.if-not-lost.false))
    ]
