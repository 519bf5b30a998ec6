-- The groups with an end at one of the positions passed are dead.
use Rattle.std.proofs.Common.{◌≡◌, ℕ, ◌+◌, ◌<◌, get_or, length-set, arith, add-zero}
use Rattle.game.proofs.Strikes.{strike_own, strike_start, strike_end}
use Rattle.game.proofs.Strikes.{strike_group, strike_node}
use Rattle.game.proofs.Strikes.{strike_dead, strike_some, strike_last, strike_more}
use Rattle.game.proofs.links.Links.strike_one.Goals as goal
use Rattle.game.proofs.links.Links.strike_one.Goals.{then-dead-g-eq0+then-left-eq0, then-dead-g-eq0+else-left-eq0, else-dead-g-eq0}

pub bounds-member-node : goal.bounds-member-node
bounds-member-node c = omega (arith, c.requires.inside, c.requires.marked.1.member_long)

pub loop-group-init : goal.loop-group-init
loop-group-init c = rw add-zero (strike_start c.args.self.now.index c.args.node c.requires.inside)

pub bounds-dead-g : goal.bounds-dead-g
bounds-dead-g c =
    let inv = c.loop-group.invariant in
    let is = c.at-group-items.ensures.groups c.loop-group.group-index (omega arith) in
    omega (
      arith,
      is,
      strike_group c.args.self.now.index c.args.node c.requires.inside inv (omega (arith, c.at-group-items.ensures.number)),
      inv.dead_size,
      c.requires.marked.1.dead_long,
    )

pub bounds-dead-g-then-dead-g-eq0 : goal.bounds-dead-g-then-dead-g-eq0
bounds-dead-g-then-dead-g-eq0 c =
    let inv = c.loop-group.invariant in
    let is = c.at-group-items.ensures.groups c.loop-group.group-index (omega arith) in
    omega (
      arith,
      is,
      strike_group c.args.self.now.index c.args.node c.requires.inside inv (omega (arith, c.at-group-items.ensures.number)),
      inv.dead_size,
      c.requires.marked.1.dead_long,
    )

pub bounds-self-g : goal.bounds-self-g
bounds-self-g c =
    let inv = c.loop-group.invariant in
    let is = c.at-group-items.ensures.groups c.loop-group.group-index (omega arith) in
    omega (arith, is, strike_group c.args.self.now.index c.args.node c.requires.inside inv (omega (arith, c.at-group-items.ensures.number)))

pub bounds-live-f : goal.bounds-live-f
bounds-live-f c =
    let inv = c.loop-group.invariant in
    let is = c.at-group-items.ensures.groups c.loop-group.group-index (omega arith) in
    rw is (omega (
      arith,
      strike_node c.args.self.now.index c.args.node c.requires.inside inv (omega (arith, c.at-group-items.ensures.number)),
      inv.live_size,
      c.requires.marked.1.live_long,
    ))

pub bounds-live-f-then-dead-g-eq0 : goal.bounds-live-f-then-dead-g-eq0
bounds-live-f-then-dead-g-eq0 c =
    let inv = c.loop-group.invariant in
    let is = c.at-group-items.ensures.groups c.loop-group.group-index (omega arith) in
    rw is (omega (
      arith,
      strike_node c.args.self.now.index c.args.node c.requires.inside inv (omega (arith, c.at-group-items.ensures.number)),
      inv.live_size,
      c.requires.marked.1.live_long,
    ))

pub overflow_sub-left : goal.overflow_sub-left
overflow_sub-left c =
    let inv = c.loop-group.invariant in
    let is = c.at-group-items.ensures.groups c.loop-group.group-index (omega arith) in
    let m = c.requires.marked in
    let own = strike_own c.args.self.now.index c.args.node c.requires.inside m.0 m.1 in
    rw is (strike_some c.args.self.now.index c.args.node c.requires.inside inv (omega (arith, c.at-group-items.ensures.number))
    (rw is at c.if-dead-g-eq0.true) m.0 own)

pub bounds-member-f : goal.bounds-member-f
bounds-member-f c =
    let inv = c.loop-group.invariant in
    let is = c.at-group-items.ensures.groups c.loop-group.group-index (omega arith) in
    rw is (omega (
      arith,
      strike_node c.args.self.now.index c.args.node c.requires.inside inv (omega (arith, c.at-group-items.ensures.number)),
      inv.member_size,
      length-set {A = ℕ},
      c.requires.marked.1.member_long,
    ))

pub loop-group-preserved : goal.loop-group-preserved
loop-group-preserved c =
    let s = c.args.self.now in
    let x = c.args.node in
    let inside = c.requires.inside in
    let inv = c.loop-group.invariant in
    let i = c.loop-group.group-index in
    let is = c.at-group-items.ensures.groups i (omega arith) in
    let more : get_or s.starts.now x 0 + i < get_or s.starts.now (x + 1) 0 = omega (arith, c.at-group-items.ensures.number) in
    let next : get_or s.starts.now x 0 + (i + 1) ≡ get_or s.starts.now x 0 + i + 1 = omega arith in
    elim c.if-dead-g-eq0.branch [
      | then-dead-g-eq0+then-left-eq0 w ↦
          rw (w.member-is, w.live-is, w.dead-is, is, next)
          (strike_last s.index x inside inv more (rw is at w.if-dead-g-eq0.true) (rw is at w.if-left-eq0.true))
      | then-dead-g-eq0+else-left-eq0 w ↦
          rw (w.member-is, w.live-is, w.dead-is, is, next)
          (strike_more s.index x inside inv more (rw is at w.if-dead-g-eq0.true) (rw is at w.if-left-eq0.false))
      | else-dead-g-eq0 w ↦ rw (w.member-is, w.live-is, w.dead-is, next) (strike_dead s.index x inside inv more (rw is at w.if-dead-g-eq0.false))
    ]

pub returns : goal.returns
returns c xs m =
    let own = strike_own c.args.self.now.index c.args.node c.requires.inside xs m in
    strike_end c.args.self.now.index c.args.node c.requires.inside c.loop-group.invariant (omega (arith, c.at-group-items.ensures.number)) xs own
