-- A state read gets its move and its mark, and is listed where the next stage may pass it.
use Rattle.std.proofs.Common.{ℕ, ◌-◌, ◌+◌, ◌<◌, ◌≡◌, get_or, length, unwrap_or, refl, ap, sym, ◌∙◌, arith}
use Rattle.std.proofs.Math.Seq.{take_all}
use Rattle.statements.specs.Plants.{plant_of}
use Rattle.decoding.proofs.Faults.{plant_ok}
use Rattle.solve.specs.Graphed.{label_at}
use Rattle.solve.proofs.StageTurns.{read_in, one_more, opened_none, opened_few, opened_yes, opened_no, by_move}
use Rattle.solve.proofs.Exits.{exits_none, graphed_marked, exits_more}
use Rattle.solve.proofs.moves.Moves.admit.Goals as goal
use Rattle.solve.proofs.moves.Moves.admit.Goals.{then-is_settled-goes, else-is_settled-goes}

pub loop-state-init : goal.loop-state-init
loop-state-init c =
    record {
      opened = opened_none _ _ _ _ _;
      graphed = c.requires.graphed;
      exits = exits_none (plant_of c.args.self.now.plant.now) c.args.leave.now c.args.graph.now;
    }

pub search-away-requires-clause-in_range : goal.search-away-requires-clause-in_range
search-away-requires-clause-in_range c =
    read_in c.args.start.now c.requires.set c.loop-state.state-index c.loop-state-test.true

pub bounds-leave-x : goal.bounds-leave-x
bounds-leave-x c =
    omega (
      arith,
      read_in c.args.start.now c.requires.set c.loop-state.state-index c.loop-state-test.true,
      c.requires.room,
      c.loop-state.auto.leave,
    )

pub bounds-graph-labels : goal.bounds-graph-labels
bounds-graph-labels c =
    let few = (plant_ok c.args.self.now.plant.now c.args.self.now.given.accepted).sizes.states_most in
    omega (
      arith,
      few,
      read_in c.args.start.now c.requires.set c.loop-state.state-index c.loop-state-test.true,
      c.requires.graphed.long,
      c.loop-state.auto.graph,
    )

pub bounds-graph-labels-in-loop-state : goal.bounds-graph-labels-in-loop-state
bounds-graph-labels-in-loop-state c =
    let few = (plant_ok c.args.self.now.plant.now c.args.self.now.given.accepted).sizes.states_most in
    omega (
      arith,
      few,
      read_in c.args.start.now c.requires.set c.loop-state.state-index c.loop-state-test.true,
      c.requires.graphed.long,
      c.loop-state.auto.graph,
    )

pub bounds-all-count : goal.bounds-all-count
bounds-all-count c =
    omega (
      arith,
      opened_few c.args.start.now c.loop-state.state-index c.loop-state.invariant.opened c.loop-state-test.true,
      c.loop-state.auto.all,
      c.requires.room,
    )

pub loop-state-preserved : goal.loop-state-preserved
loop-state-preserved c =
    let l = c.loop-state in
    let s = c.args.self.now in
    let x = get_or c.args.start.now l.state-index 0 in
    let ok = plant_ok s.plant.now s.given.accepted in
    let in_range = read_in c.args.start.now c.requires.set l.state-index c.loop-state-test.true in
    let room : x < length l.leave = omega (arith, in_range, c.requires.room, l.auto.leave) in
    let found = c.unwrap_or.ensures ∙ ap (λ (n : ℕ). unwrap_or c.search-away.result n) s.given.none_is
    ∙ c.search-away.ensures.first in
    let leaves = c.is_some-goes.ensures ∙ c.search-away.ensures.found in
    let settled = c.is_settled.ensures in
    let few : l.count < length l.all =
    omega (arith, opened_few c.args.start.now l.state-index l.invariant.opened c.loop-state-test.true, l.auto.all, c.requires.room) in
    let here : length c.args.graph.now - 1024 + x ≡ label_at l.graph x =
    ap (λ (n : ℕ). n - 1024 + x) (sym l.auto.graph) in
    rw (one_more c.args.start.now l.state-index c.loop-state-test.true)
    (record {
      opened = elim c.if-is_settled-goes.branch [
        | then-is_settled-goes w ↦
            (opened_yes l.invariant.opened x room found settled leaves few w.if-is_settled-goes.true w.all-is w.count-is).1
        | else-is_settled-goes w ↦
            (opened_no l.invariant.opened x room found settled leaves w.if-is_settled-goes.false w.all-is w.count-is).1
      ];
      graphed = graphed_marked ok l.invariant.graphed x in_range c.is_some-goes.result here c.marked.ensures;
      exits = exits_more ok l.invariant.graphed x in_range c.is_some-goes.result here c.marked.ensures l.leave _
          l.invariant.exits c.unwrap_or.result refl room (by_move l.invariant.opened x room found settled leaves);
    })

pub returns : goal.returns
returns c =
    let all = take_all c.loop-state.state-index c.args.start.now c.loop-state-test.false in
    record {
      opened = rw all at c.loop-state.invariant.opened;
      graphed = c.loop-state.invariant.graphed;
      exits = rw all at c.loop-state.invariant.exits;
    }
