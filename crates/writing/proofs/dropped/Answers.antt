-- A state passed is listed if it is kept before and lost after.
use Rattle.std.proofs.Common.{Bool, not, ◌&&◌, sym, ap₂, ◌∙◌, arith}
use Rattle.statements.specs.Books.{book_states}
use Rattle.rows.proofs.Rows.{lost_known}
use Rattle.writing.proofs.Drops.{short_unlisted, drops_start, drops_place, drops_more, drops_same}
use Rattle.writing.proofs.Drops.{drops_end}
use Rattle.writing.proofs.dropped.Goals as goal
use Rattle.writing.proofs.dropped.Goals.{then-was_lost-lost_in, else-was_lost-lost_in}

pub returns-then-drops-from : goal.returns-then-drops-from
unfolding book_states
returns-then-drops-from c =
    let none = short_unlisted c.args.before.now c.args.after.now c.args.drops.now (omega arith) in
    record { count = none.0; bytes = none.1 }

pub loop-state-init : goal.loop-state-init
unfolding book_states
loop-state-init c =
    drops_start c.args.before.now c.args.after.now c.args.drops.now _ c.number-states.ensures (omega arith) (omega arith)

pub overflow_add-at : goal.overflow_add-at
overflow_add-at c = omega (arith, drops_place c.loop-state.invariant)

pub loop-state-preserved : goal.loop-state-preserved
loop-state-preserved c =
    let was = lost_known c.args.before.now c.loop-state.state _ c.lost_in-was_lost.result
    c.staged-stages_before.ensures (rw c.from-in-loop-state.ensures at c.lost_in-was_lost.ensures) in
    let is = lost_known c.args.after.now c.loop-state.state _ c.lost_in.result
    c.staged-stages_after.ensures (rw c.from-in-loop-state-2.ensures at c.lost_in.ensures) in
    let test = ap₂ (λ (t u : Bool). not t && u) (sym was) (sym is) in
    elim c.if-was_lost-lost_in.branch [
      | then-was_lost-lost_in w ↦
          rw (w.drops-is, w.at-is)
          (drops_more c.loop-state.invariant (omega arith) (test ∙ w.if-was_lost-lost_in.true) w.put.ensures)
      | else-was_lost-lost_in w ↦
          rw (w.drops-is, w.at-is)
          (drops_same c.loop-state.invariant (omega arith) (test ∙ w.if-was_lost-lost_in.false))
    ]

pub overflow_cast-result : goal.overflow_cast-result
overflow_cast-result c = omega (arith, drops_place c.loop-state.invariant)

pub returns : goal.returns
returns c =
    let end = drops_end c.loop-state.invariant (omega arith) in
    record { count = end.0; bytes = end.1 }
