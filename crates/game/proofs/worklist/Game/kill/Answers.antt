-- The group was dead, its node has another group or no mark, a run is over there, or it goes on the worklist.
use Rattle.std.proofs.Common.{sym, ◌∙◌, ◌-◌, ◌≡◌, get_or, ltb, ltb-true, ltb-false, ⊎_elim, arith}
use Rattle.sets.proofs.Tests.{or_cases, or_neither}
use Rattle.game.proofs.Counts.{lt_or_le}
use Rattle.game.proofs.Parts.{groups_end, labels_end}
use Rattle.game.proofs.Killing.{label_over, kill_group, kill_rooms, kill_dead, kill_some, kill_more}
use Rattle.game.proofs.Killing.{kill_unmarked, kill_over, push_new, push_room, kill_push}
use Rattle.game.proofs.worklist.Game.kill.Goals as goal

pub returns-then-dead-g-gt0-clause-state : goal.returns-then-dead-g-gt0-clause-state
returns-then-dead-g-gt0-clause-state c ok after xs first d fails =
    kill_dead _ _ _ _ _ c.args.self.now.ready d fails c.if-dead-g-gt0.true

pub bounds-graph-g : goal.bounds-graph-g
bounds-graph-g c =
    let low = kill_group _ _ _ _ _ c.args.self.now.ready c.requires.state.4 c.requires.state.5 in
    omega (arith, low.0, groups_end c.args.self.now.graph.now c.args.self.now.ready.fits)

pub bounds-live-f : goal.bounds-live-f
bounds-live-f c = (kill_rooms _ _ _ _ _ c.args.self.now.ready c.requires.state.4 c.requires.state.5).1

pub overflow_sub-left : goal.overflow_sub-left
overflow_sub-left c =
    kill_some _ _ _ _ _ c.args.self.now.ready c.requires.state.4 c.requires.state.5 (omega (arith, c.if-dead-g-gt0.false))

pub bounds-live-f-2 : goal.bounds-live-f-2
bounds-live-f-2 c = (kill_rooms _ _ _ _ _ c.args.self.now.ready c.requires.state.4 c.requires.state.5).1

pub bounds-member-f : goal.bounds-member-f
bounds-member-f c = (kill_rooms _ _ _ _ _ c.args.self.now.ready c.requires.state.4 c.requires.state.5).2

pub returns-then-left-member-clause-state : goal.returns-then-left-member-clause-state
returns-then-left-member-clause-state c ok after xs first d fails =
    let node = get_or c.args.self.now.graph.now c.args.group 0 in
    let left = get_or c.args.live.now node 0 - 1 in
    let out = get_or c.args.member.now node 0 in
    let alive : get_or c.args.dead.now c.args.group 0 ≡ 0 = omega (arith, c.if-dead-g-gt0.false) in
    ⊎_elim
    (λ l. kill_more _ _ _ _ _ c.args.self.now.ready d fails alive l)
    (λ l.
    kill_unmarked _ _ _ _ _ c.args.self.now.ready d fails alive (omega arith)
    (⊎_elim
    (λ h. absurd (let k = ltb-true 0 left h in omega arith))
    (λ h. ltb-true 0 out h)
    (or_cases (ltb 0 left) (ltb 0 out) c.if-left-member.true)))
    (lt_or_le 0 left)

pub bounds-graph-labels : goal.bounds-graph-labels
bounds-graph-labels c =
    let low = kill_group _ _ _ _ _ c.args.self.now.ready c.requires.state.4 c.requires.state.5 in
    omega (arith, low.1, labels_end c.args.self.now.graph.now c.args.self.now.ready.fits)

pub bounds-member-f-then-bit_at : goal.bounds-member-f-then-bit_at
bounds-member-f-then-bit_at c = (kill_rooms _ _ _ _ _ c.args.self.now.ready c.requires.state.4 c.requires.state.5).2

pub returns-then-bit_at-clause-state : goal.returns-then-bit_at-clause-state
returns-then-bit_at-clause-state c ok after xs first d fails =
    let node = get_or c.args.self.now.graph.now c.args.group 0 in
    let left = get_or c.args.live.now node 0 - 1 in
    let low = kill_group _ _ _ _ _ c.args.self.now.ready c.requires.state.4 c.requires.state.5 in
    let none = or_neither (ltb 0 left) (ltb 0 (get_or c.args.member.now node 0)) c.if-left-member.false in
    let is = c.bit_at.ensures ∙ label_over _ _ _ _ _ c.args.self.now.ready node low.1 in
    kill_over _ _ _ _ _ c.args.self.now.ready d fails (omega (arith, c.if-dead-g-gt0.false))
    (omega (arith, ltb-false 0 left none.0)) (sym is ∙ c.if-bit_at.true)

pub push-requires-clause-room : goal.push-requires-clause-room
push-requires-clause-room c =
    let node = get_or c.args.self.now.graph.now c.args.group 0 in
    let left = get_or c.args.live.now node 0 - 1 in
    let out = get_or c.args.member.now node 0 in
    let none = or_neither (ltb 0 left) (ltb 0 out) c.if-left-member.false in (
      push_room _ _ _ _ _ c.args.self.now.ready c.requires.state.4 c.requires.state.5 (omega (arith, c.if-dead-g-gt0.false))
          (omega (arith, ltb-false 0 left none.0)) (omega (arith, ltb-false 0 out none.1)),
      (kill_rooms _ _ _ _ _ c.args.self.now.ready c.requires.state.4 c.requires.state.5).2,
    )

pub push-requires-clause-once : goal.push-requires-clause-once
push-requires-clause-once c =
    let node = get_or c.args.self.now.graph.now c.args.group 0 in
    let left = get_or c.args.live.now node 0 - 1 in
    let out = get_or c.args.member.now node 0 in
    let none = or_neither (ltb 0 left) (ltb 0 out) c.if-left-member.false in
    push_new _ _ _ _ _ c.args.self.now.ready c.requires.state.4 c.requires.state.5 (omega (arith, c.if-dead-g-gt0.false))
    (omega (arith, ltb-false 0 left none.0)) (omega (arith, ltb-false 0 out none.1))

pub returns-clause-state : goal.returns-clause-state
returns-clause-state c ok after xs first d fails =
    let node = get_or c.args.self.now.graph.now c.args.group 0 in
    let left = get_or c.args.live.now node 0 - 1 in
    let out = get_or c.args.member.now node 0 in
    let low = kill_group _ _ _ _ _ c.args.self.now.ready c.requires.state.4 c.requires.state.5 in
    let none = or_neither (ltb 0 left) (ltb 0 out) c.if-left-member.false in
    let is = c.bit_at.ensures ∙ label_over _ _ _ _ _ c.args.self.now.ready node low.1 in
    let done = c.push.ensures in
    rw (done.number, done.list, done.member)
    (kill_push _ _ _ _ _ c.args.self.now.ready d fails (omega (arith, c.if-dead-g-gt0.false))
    (omega (arith, ltb-false 0 left none.0)) (omega (arith, ltb-false 0 out none.1)) (sym is ∙ c.if-bit_at.false))
