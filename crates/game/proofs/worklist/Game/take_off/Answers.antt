-- The next position's group dies, and after the last the node is off the list.
use Rattle.std.proofs.Common.{◌≡◌, ◌+◌, ◌-◌, ◌≤◌, length, get_or, arith}
use Rattle.game.specs.Packed.{starts_in}
use Rattle.game.proofs.Emptying.{off_of, span_in, span_past, span_at, taking_start, taking_fails, taking_more, taking_end}
use Rattle.game.proofs.worklist.Game.take_off.Goals as goal

pub offset_bounds-list-head : goal.offset_bounds-list-head
offset_bounds-list-head c =
    let off = off_of _ _ _ _ _ c.args.self.now.ready _ _ _ _ _ _ _ _ c.requires.some c.requires.state.2 in
    omega (arith, off.place, c.well_formed.1.1.1.1.0)

pub bounds-list-head : goal.bounds-list-head
bounds-list-head c =
    let off = off_of _ _ _ _ _ c.args.self.now.ready _ _ _ _ _ _ _ _ c.requires.some c.requires.state.2 in off.place

pub bounds-graph-starts : goal.bounds-graph-starts
bounds-graph-starts c =
    let off = off_of _ _ _ _ _ c.args.self.now.ready _ _ _ _ _ _ _ _ c.requires.some c.requires.state.2 in
    omega (arith, off.inside)

pub bounds-graph-starts-2 : goal.bounds-graph-starts-2
bounds-graph-starts-2 c =
    let off = off_of _ _ _ _ _ c.args.self.now.ready _ _ _ _ _ _ _ _ c.requires.some c.requires.state.2 in off.inside

pub slice_bounds-group-items-count : goal.slice_bounds-group-items-count
slice_bounds-group-items-count c =
    let off = off_of _ _ _ _ _ c.args.self.now.ready _ _ _ _ _ _ _ _ c.requires.some c.requires.state.2 in
    omega (arith, off.from, off.to, off.up)

pub slice_bounds-group-items-start : goal.slice_bounds-group-items-start
slice_bounds-group-items-start c =
    let off = off_of _ _ _ _ _ c.args.self.now.ready _ _ _ _ _ _ _ _ c.requires.some c.requires.state.2 in
    omega (arith, off.from, off.up, off.few, off.room, c.places-rev.ensures)

pub slice_bounds-group-items-end : goal.slice_bounds-group-items-end
slice_bounds-group-items-end c =
    let off = off_of _ _ _ _ _ c.args.self.now.ready _ _ _ _ _ _ _ _ c.requires.some c.requires.state.2 in
    omega (arith, off.to, off.few, off.room, c.places-rev.ensures)

pub loop-group-init : goal.loop-group-init
loop-group-init c =
    let off = off_of _ _ _ _ _ c.args.self.now.ready _ _ _ _ _ _ _ _ c.requires.some c.requires.state.2 in
    let e : get_or c.args.self.now.graph.now (length c.args.self.now.graph.now - 2049 + get_or c.args.list.now c.args.line.head 0) 0 + 0
    ≡ get_or (starts_in c.args.self.now.graph.now c.args.self.now.figures.nodes) (get_or c.args.list.now c.args.line.head 0) 0 =
    omega (arith, off.from) in
    rw e (taking_start _ _ _ _ _ c.args.self.now.ready _ _ _ _ _ _ c.requires.some off.node)

pub kill-tail-requires : goal.kill-tail-requires
kill-tail-requires c =
    let off = off_of _ _ _ _ _ c.args.self.now.ready _ _ _ _ _ _ _ _ c.requires.some c.requires.state.2 in
    let l = c.loop-group in
    let state = c.requires.state in
    let test = c.loop-group-test.true in
    let up :
    get_or c.args.self.now.graph.now (length c.args.self.now.graph.now - 2049 + get_or c.args.list.now c.args.line.head 0) 0
    ≤ get_or c.args.self.now.graph.now (length c.args.self.now.graph.now - 2049 + (get_or c.args.list.now c.args.line.head 0 + 1)) 0 =
    omega (arith, off.from, off.to, off.up) in
    let few : get_or c.args.self.now.graph.now (length c.args.self.now.graph.now - 2049 + (get_or c.args.list.now c.args.line.head 0 + 1)) 0 ≤ c.args.self.now.figures.positions =
    omega (arith, off.to, off.few) in
    let is = span_at _ _ _ _ _ c.args.self.now.ready _ _ _ l.group-index c.places-rev.ensures up few test in
    let low = span_in _ _ _ _ _ c.args.self.now.ready _ _ _ l.group-index c.places-rev.ensures up few test in
    let dies =
    taking_fails _ _ _ _ _ c.args.self.now.ready _ _ _ _ _ _ c.requires.some off.node l.invariant (rw off.to at low) state.0
    state.1 state.2 in
    record { state = (_, _, state.0, state.1, l.invariant.state state.0 state.1 state.2, rw (← is) at dies) }

pub loop-group-preserved : goal.loop-group-preserved
loop-group-preserved c =
    let off = off_of _ _ _ _ _ c.args.self.now.ready _ _ _ _ _ _ _ _ c.requires.some c.requires.state.2 in
    let l = c.loop-group in
    let kept = c.kill-tail.auto in
    let test = c.loop-group-test.true in
    let up :
    get_or c.args.self.now.graph.now (length c.args.self.now.graph.now - 2049 + get_or c.args.list.now c.args.line.head 0) 0
    ≤ get_or c.args.self.now.graph.now (length c.args.self.now.graph.now - 2049 + (get_or c.args.list.now c.args.line.head 0 + 1)) 0 =
    omega (arith, off.from, off.to, off.up) in
    let few : get_or c.args.self.now.graph.now (length c.args.self.now.graph.now - 2049 + (get_or c.args.list.now c.args.line.head 0 + 1)) 0 ≤ c.args.self.now.figures.positions =
    omega (arith, off.to, off.few) in
    let is = span_at _ _ _ _ _ c.args.self.now.ready _ _ _ l.group-index c.places-rev.ensures up few test in
    let low = span_in _ _ _ _ _ c.args.self.now.ready _ _ _ l.group-index c.places-rev.ensures up few test in
    let next = taking_more _ _ _ _ _ c.args.self.now.ready _ _ _ _ _ _ c.requires.some off.node l.invariant (rw off.to at low)
    kept.member kept.live kept.dead kept.list c.kill-tail.ensures.list (rw is at c.kill-tail.ensures.state) in
    let place : get_or c.args.self.now.graph.now (length c.args.self.now.graph.now - 2049 + get_or c.args.list.now c.args.line.head 0) 0 + (l.group-index + 1) ≡ get_or c.args.self.now.graph.now (length c.args.self.now.graph.now - 2049 + get_or c.args.list.now c.args.line.head 0) 0 + l.group-index + 1 =
    omega arith in
    rw place next

pub returns : goal.returns
returns c =
    let off = off_of _ _ _ _ _ c.args.self.now.ready _ _ _ _ _ _ _ _ c.requires.some c.requires.state.2 in
    let l = c.loop-group in
    let up :
    get_or c.args.self.now.graph.now (length c.args.self.now.graph.now - 2049 + get_or c.args.list.now c.args.line.head 0) 0
    ≤ get_or c.args.self.now.graph.now (length c.args.self.now.graph.now - 2049 + (get_or c.args.list.now c.args.line.head 0 + 1)) 0 =
    omega (arith, off.from, off.to, off.up) in
    let few : get_or c.args.self.now.graph.now (length c.args.self.now.graph.now - 2049 + (get_or c.args.list.now c.args.line.head 0 + 1)) 0 ≤ c.args.self.now.figures.positions =
    omega (arith, off.to, off.few) in
    let past = span_past _ _ _ _ _ c.args.self.now.ready _ _ _ l.group-index c.places-rev.ensures up few c.loop-group-test.false in
    record {
      state =
          taking_end _ _ _ _ _ c.args.self.now.ready _ _ _ _ _ _ c.requires.some off.node l.invariant (rw off.to at past);
    }
