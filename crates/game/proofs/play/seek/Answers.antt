-- The targets of the next goal are in line; as many as before are the same ones, and for another number the reach is
-- worked out.
use Rattle.std.proofs.Common.{◌+◌, ◌-◌, ◌<◌, ◌≤◌, ◌∙◌, length, ap, arith}
use Rattle.std.proofs.Math.ListN.{set, length-set}
use Rattle.std.proofs.lemmas.List.{length-take-le}
use Rattle.sets.proofs.Iterate.{sifted_few, sifted_below}
use Rattle.game.specs.Packed.{part, labels_in}
use Rattle.game.proofs.Parts.{labels_length}
use Rattle.game.proofs.Aiming.{targets_are}
use Rattle.game.proofs.Seeking.{seek_skip, seek_turn, seek_reach, seek_end}
use Rattle.game.proofs.play.seek.Goals as goal
use Rattle.game.proofs.play.seek.Goals.{then-scratch-last, else-scratch-last}

pub aim-tail-requires-clause-nodes : goal.aim-tail-requires-clause-nodes
aim-tail-requires-clause-nodes c x h =
    omega (
      arith,
      sifted_below c.args.game.nodes c.args.set.now c.requires.set x h,
      c.requires.ready.fits.few_nodes,
      c.offers.auto.bits,
    )

pub aim-tail-requires-clause-room : goal.aim-tail-requires-clause-room
aim-tail-requires-clause-room c =
    let few = sifted_few c.args.game.nodes c.args.set.now c.requires.set in
    let most = c.requires.ready.fits.few_nodes in
    let long = c.loop-goal.auto.queue ∙ c.requires.room.1.1.0 in (
      omega (arith, c.requires.ready.few_goals, c.loop-goal-test.true),
      (omega (arith, few, most, long), omega (arith, few, most)),
    )

pub reach-requires-clause-lined : goal.reach-requires-clause-lined
unfolding part labels_in
reach-requires-clause-lined c =
    let a = c.args in
    let p = c.requires in
    let l = c.loop-goal in
    let low : l.goal < 8 = omega (arith, c.loop-goal-test.true, p.ready.few_goals) in
    let is = targets_are (labels_in a.graph.now a.game.nodes) a.member.now c.offers.new.bits
    (length (labels_in a.graph.now a.game.nodes)) l.goal a.set.now c.offers.ensures
    (λ x m. omega (arith, labels_length a.graph.now p.ready.fits, sifted_below a.game.nodes a.set.now p.set x m)) low in
    let number = c.aim-tail.ensures.number ∙ ap length is in
    let line = c.aim-tail.ensures.list ∙ is in
    let wide : 8 ≤ length a.scratch.now = omega (arith, p.room.0) in
    let turn = seek_turn _ p.ready p.set p.member.1 l.invariant c.loop-goal-test.true number wide p.room.1.0 line in
    let noted = set l.scratch (length a.scratch.now - 8 + l.goal) c.aim-tail.result in
    let front = length-take-le (length a.scratch.now - 8) noted
    (omega (arith, length-set l.scratch (length a.scratch.now - 8 + l.goal) c.aim-tail.result, l.invariant.long)) in
    record {
      fits = p.ready.fits;
      index = p.ready.index;
      sized = p.sizes;
      member_long = p.member.0;
      counts_long = omega (arith, p.room.0, front);
      queue_long = omega (arith, p.ready.fits.few_nodes, c.aim-tail.auto.queue, l.auto.queue, p.room.1.1.0);
      number = turn.size;
      sifted = turn.sifted;
    }

pub loop-goal-preserved : goal.loop-goal-preserved
unfolding part labels_in
loop-goal-preserved c =
    let a = c.args in
    let p = c.requires in
    let l = c.loop-goal in
    let low : l.goal < 8 = omega (arith, c.loop-goal-test.true, p.ready.few_goals) in
    let is = targets_are (labels_in a.graph.now a.game.nodes) a.member.now c.offers.new.bits
    (length (labels_in a.graph.now a.game.nodes)) l.goal a.set.now c.offers.ensures
    (λ x m. omega (arith, labels_length a.graph.now p.ready.fits, sifted_below a.game.nodes a.set.now p.set x m)) low in
    let number = c.aim-tail.ensures.number ∙ ap length is in
    let line = c.aim-tail.ensures.list ∙ is in
    let wide : 8 ≤ length a.scratch.now = omega (arith, p.room.0) in
    let noted = set l.scratch (length a.scratch.now - 8 + l.goal) c.aim-tail.result in
    let front = length-take-le (length a.scratch.now - 8) noted
    (omega (arith, length-set l.scratch (length a.scratch.now - 8 + l.goal) c.aim-tail.result, l.invariant.long)) in
    elim c.if-scratch-last.branch [
      | then-scratch-last w ↦
          seek_reach _ p.ready p.set p.member.1 l.invariant c.loop-goal-test.true number wide _
          w.reach.new.counts w.reach.new.waits p.room.1.0 line
          (w.reach.auto.counts ∙ front) w.reach.ensures w.scratch-is w.waits-is
      | else-scratch-last w ↦
          rw (w.scratch-is, w.waits-is)
          (seek_skip _ p.ready p.set p.member.1 l.invariant c.loop-goal-test.true number wide w.if-scratch-last.false)
    ]

pub returns-clause-sought : goal.returns-clause-sought
returns-clause-sought c = (seek_end c.loop-goal.invariant c.loop-goal-test.false).0
