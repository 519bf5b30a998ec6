-- Before each turn some nodes are taken off the worklist, and in the end all.
use Rattle.std.proofs.Common.{arith}
use Rattle.game.proofs.Emptying.{state_few}
use Rattle.game.proofs.Emptied.{run_start, run_more, run_end, emptied, emptied_marked}
use Rattle.game.proofs.worklist.Game.drain.Goals as goal

pub loop-head-init : goal.loop-head-init
loop-head-init c = run_start _ _ _ _ _ _ _ _ _

pub take_off-tail-requires-clause-state : goal.take_off-tail-requires-clause-state
take_off-tail-requires-clause-state c =
    (c.requires.state.0, _, c.loop-head.invariant.state c.requires.state.0 c.requires.state.1)

pub overflow_add-head : goal.overflow_add-head
overflow_add-head c =
    let inv = c.loop-head.invariant in
    let few = state_few _ _ _ _ _ c.args.self.now.ready (inv.state c.requires.state.0 c.requires.state.1).1 in
    omega (arith, few, c.loop-head-test.true, inv.list_size, c.well_formed.1.1.1.1.0)

pub loop-head-smaller : goal.loop-head-smaller
loop-head-smaller c =
    let inv = c.loop-head.invariant in
    let few = state_few _ _ _ _ _ c.args.self.now.ready (inv.state c.requires.state.0 c.requires.state.1).1 in
    omega (arith, few, c.loop-head-test.true, inv.list_size)

pub loop-head-preserved : goal.loop-head-preserved
loop-head-preserved c =
    let kept = c.take_off-tail.auto in
    run_more _ _ _ _ _ _ _ _ _ c.loop-head.invariant kept.member kept.live kept.dead kept.list
    c.take_off-tail.ensures.state

pub returns-clause-emptied : goal.returns-clause-emptied
returns-clause-emptied c xs t =
    emptied _ _ _ _ _ c.args.self.now.ready
    (run_end _ _ _ _ _ _ _ _ _ c.loop-head.invariant c.loop-head-test.false xs t)

pub returns-clause-marked : goal.returns-clause-marked
returns-clause-marked c xs t =
    emptied_marked _ _ _ _ _ c.args.self.now.ready
    (run_end _ _ _ _ _ _ _ _ _ c.loop-head.invariant c.loop-head-test.false xs t)
