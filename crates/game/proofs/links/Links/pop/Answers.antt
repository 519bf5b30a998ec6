-- The node's positions so far are passed, and each place that is read or written is within its array.
use Rattle.std.proofs.Common.{arith, refl, add-zero}
use Rattle.game.proofs.Pass.{pass_start}
use Rattle.game.proofs.Turns.{turning, ready, turn_end}
use Rattle.game.proofs.links.Links.pop.Goals as goal
use Rattle.game.proofs.links.Links.pop.Goals.{then-misses-eq0, else-misses-eq0}

pub offset_bounds-queue-line : goal.offset_bounds-queue-line
offset_bounds-queue-line c =
    let e = ready _ _ _ _ _ _ _ _ _ c.args.self.now.index c.requires.rooms c.requires.some c.requires.walking in
    omega (arith, e.early)

pub bounds-queue-line : goal.bounds-queue-line
bounds-queue-line c =
    let e = ready _ _ _ _ _ _ _ _ _ c.args.self.now.index c.requires.rooms c.requires.some c.requires.walking in
    e.in_queue

pub bounds-waits-t : goal.bounds-waits-t
bounds-waits-t c =
    let e = ready _ _ _ _ _ _ _ _ _ c.args.self.now.index c.requires.rooms c.requires.some c.requires.walking in
    e.in_waits

pub overflow_add-next : goal.overflow_add-next
overflow_add-next c =
    let e = ready _ _ _ _ _ _ _ _ _ c.args.self.now.index c.requires.rooms c.requires.some c.requires.walking in
    omega (arith, e.low)

pub at-group-items-requires : goal.at-group-items-requires
at-group-items-requires c =
    let e = ready _ _ _ _ _ _ _ _ _ c.args.self.now.index c.requires.rooms c.requires.some c.requires.walking in
    e.node

pub loop-group-init : goal.loop-group-init
loop-group-init c =
    let p = c.requires in
    rw add-zero (pass_start _ _ _ _ _ _ _ _ _ _ _ _ refl refl p.some c.args.self.now.index p.rooms p.walking)

pub bounds-counts-g : goal.bounds-counts-g
bounds-counts-g c =
    let p = c.requires in
    let items = c.at-group-items in
    let t = turning c.args.self.now.index p.rooms p.some p.walking c.loop-group.invariant items.result.now items.ensures.number items.ensures.groups (omega arith) in
    t.in_counts

pub bounds-counts-g-in-loop-group : goal.bounds-counts-g-in-loop-group
bounds-counts-g-in-loop-group c =
    let p = c.requires in
    let items = c.at-group-items in
    let t = turning c.args.self.now.index p.rooms p.some p.walking c.loop-group.invariant items.result.now items.ensures.number items.ensures.groups (omega arith) in
    t.in_counts

pub overflow_sub-left : goal.overflow_sub-left
overflow_sub-left c =
    let p = c.requires in
    let items = c.at-group-items in
    let t = turning c.args.self.now.index p.rooms p.some p.walking c.loop-group.invariant items.result.now items.ensures.number items.ensures.groups (omega arith) in
    t.some

pub bounds-self-g : goal.bounds-self-g
bounds-self-g c =
    let p = c.requires in
    let items = c.at-group-items in
    let t = turning c.args.self.now.index p.rooms p.some p.walking c.loop-group.invariant items.result.now items.ensures.number items.ensures.groups (omega arith) in
    t.in_gs

pub bounds-waits-f : goal.bounds-waits-f
bounds-waits-f c =
    let p = c.requires in
    let items = c.at-group-items in
    let t = turning c.args.self.now.index p.rooms p.some p.walking c.loop-group.invariant items.result.now items.ensures.number items.ensures.groups (omega arith) in
    t.in_waits

pub bounds-waits-f-then-misses-eq0 : goal.bounds-waits-f-then-misses-eq0
bounds-waits-f-then-misses-eq0 c =
    let p = c.requires in
    let items = c.at-group-items in
    let t = turning c.args.self.now.index p.rooms p.some p.walking c.loop-group.invariant items.result.now items.ensures.number items.ensures.groups (omega arith) in
    t.in_waits

pub bounds-member-f : goal.bounds-member-f
bounds-member-f c =
    let p = c.requires in
    let items = c.at-group-items in
    let t = turning c.args.self.now.index p.rooms p.some p.walking c.loop-group.invariant items.result.now items.ensures.number items.ensures.groups (omega arith) in
    t.in_member

pub offset_bounds-queue-end : goal.offset_bounds-queue-end
offset_bounds-queue-end c =
    let p = c.requires in
    let items = c.at-group-items in
    let t = turning c.args.self.now.index p.rooms p.some p.walking c.loop-group.invariant items.result.now items.ensures.number items.ensures.groups (omega arith) in
    omega (arith, t.few)

pub bounds-queue-end : goal.bounds-queue-end
bounds-queue-end c =
    let p = c.requires in
    let items = c.at-group-items in
    let t = turning c.args.self.now.index p.rooms p.some p.walking c.loop-group.invariant items.result.now items.ensures.number items.ensures.groups (omega arith) in
    t.room _ c.misses.ensures c.if-misses-eq0.true

pub overflow_add-end : goal.overflow_add-end
overflow_add-end c =
    let p = c.requires in
    let items = c.at-group-items in
    let t = turning c.args.self.now.index p.rooms p.some p.walking c.loop-group.invariant items.result.now items.ensures.number items.ensures.groups (omega arith) in
    omega (arith, t.few)

pub loop-group-preserved : goal.loop-group-preserved
loop-group-preserved c =
    let p = c.requires in
    let items = c.at-group-items in
    let t = turning c.args.self.now.index p.rooms p.some p.walking c.loop-group.invariant items.result.now items.ensures.number items.ensures.groups (omega arith) in
    elim c.if-misses-eq0.branch [
      | then-misses-eq0 w ↦ rw (w.waits-is, w.queue-is, w.end-is) (t.hit _ c.misses.ensures w.if-misses-eq0.true)
      | else-misses-eq0 w ↦ rw (w.waits-is, w.queue-is, w.end-is) (t.miss _ c.misses.ensures w.if-misses-eq0.false)
    ]

pub returns : goal.returns
returns c =
    let e = ready _ _ _ _ _ _ _ _ _ c.args.self.now.index c.requires.rooms c.requires.some c.requires.walking in
    turn_end _ _ _ _ _ _ _ e _ _ _ _ _ c.loop-group.invariant (omega (arith, c.at-group-items.ensures.number))
