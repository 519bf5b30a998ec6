-- The walk has taken the first nodes of the queue.
use Rattle.std.proofs.Common.{arith, ltb, ltb-true}
use Rattle.sets.proofs.Tests.{and_left}
use Rattle.game.specs.Walked.{nodes}
use Rattle.game.proofs.Ends.{rooms_to, rebase, from_now, head_low, walk_end, stops}
use Rattle.game.proofs.links.Links.spread.Goals as goal

pub most-count-requires : goal.most-count-requires
unfolding nodes
most-count-requires c = (c.args.self.now.index.small, c.requires.rooms.member_long, c.requires.rooms.w_long)

pub loop-head-init : goal.loop-head-init
loop-head-init c = record { walking = c.requires.walking; rooms = c.requires.rooms }

pub pop-tail-requires : goal.pop-tail-requires
pop-tail-requires c =
    let i = c.loop-head.invariant in
    record {
      rooms = i.rooms;
      some = ltb-true _ _ (and_left (ltb c.loop-head.head c.loop-head.tail) _ c.loop-head-test.true);
      walking = from_now _ _ _ _ _ _ _ _ _ _ i.walking;
    }

pub overflow_add-head : goal.overflow_add-head
overflow_add-head c =
    let i = c.loop-head.invariant in
    let more = ltb-true c.loop-head.head c.loop-head.tail (and_left (ltb c.loop-head.head c.loop-head.tail) _ c.loop-head-test.true) in
    omega (arith, c.args.self.now.index.small, head_low _ _ _ _ _ _ _ _ _ _ i.walking more)

pub loop-head-smaller : goal.loop-head-smaller
loop-head-smaller c =
    let i = c.loop-head.invariant in
    let more = ltb-true c.loop-head.head c.loop-head.tail (and_left (ltb c.loop-head.head c.loop-head.tail) _ c.loop-head-test.true) in
    omega (arith, head_low _ _ _ _ _ _ _ _ _ _ i.walking more)

pub loop-head-preserved : goal.loop-head-preserved
loop-head-preserved c =
    let i = c.loop-head.invariant in
    let pop = c.pop-tail in
    record {
      walking = rebase _ _ _ _ _ _ _ _ _ _ pop.ensures _ i.walking.groups.start i.walking.groups.rest;
      rooms = rooms_to _ _ _ _ _ _ _ _ _ pop.auto.counts pop.auto.waits pop.auto.queue i.rooms;
    }

pub returns : goal.returns
unfolding nodes
returns c =
    let i = c.loop-head.invariant in
    walk_end _ _ _ _ _ _ _ _ _ _ i.walking c.args.self.now.index i.rooms.q_long
    (stops _ _ _ _ c.most-count.ensures c.loop-head-test.false) i.rooms.w_long c.loop-head.auto.waits
