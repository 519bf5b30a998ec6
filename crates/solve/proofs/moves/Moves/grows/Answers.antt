-- A state read is passed over where it is settled, has a stage, or has no move into those that have one.
use Rattle.std.proofs.Common.{sym, ◌∙◌, arith}
use Rattle.std.proofs.Math.Seq.{take_all}
use Rattle.solve.proofs.StageTurns.{read_in, one_more, calm_none, calm_more, no_test}
use Rattle.solve.proofs.moves.Moves.grows.Goals as goal
use Rattle.solve.proofs.moves.Moves.grows.Goals.{then-stage-state+else-is_some, else-stage-state}

pub loop-state-init : goal.loop-state-init
loop-state-init c = calm_none _ _ _

pub bounds-stage-state : goal.bounds-stage-state
bounds-stage-state c =
    omega (
      arith,
      read_in c.args.start.now c.requires.set c.loop-state.state-index c.loop-state-test.true,
      c.requires.room,
    )

pub search-requires-clause-in_range : goal.search-requires-clause-in_range
search-requires-clause-in_range c =
    read_in c.args.start.now c.requires.set c.loop-state.state-index c.loop-state-test.true

pub loop-state-preserved : goal.loop-state-preserved
loop-state-preserved c =
    rw (one_more c.args.start.now c.loop-state.state-index c.loop-state-test.true)
    (elim c.if-stage-state.branch [
      | then-stage-state+else-is_some w ↦
          calm_more c.loop-state.invariant _
          (λ e m. sym w.search.ensures.found ∙ sym w.is_some.ensures ∙ w.if-is_some.false)
      | else-stage-state w ↦
          calm_more c.loop-state.invariant _ (no_test _ _ _ _ c.is_settled.ensures w.if-stage-state.false)
    ])

pub returns : goal.returns
returns c = λ e. rw (take_all c.loop-state.state-index c.args.start.now c.loop-state-test.false) at c.loop-state.invariant
