-- Where each group has an end the game is ready, and it is played.
use Rattle.std.proofs.Common.{arith, sym, ◌∙◌}
use Rattle.game.specs.Packed.{part, rev_in}
use Rattle.game.proofs.Checks.{below_at}
use Rattle.game.proofs.Parts.{rev_end, rev_length}
use Rattle.game.proofs.Playable.{covered_full, not_full, all_hold, tested_roomy, tested_below, tested_sifted}
use Rattle.game.proofs.Playable.{ready_in, sized_of, unplayable, played}
use Rattle.game.proofs.play.within.Goals as goal

pub overflow_add-rev : goal.overflow_add-rev
overflow_add-rev c =
    let f = (tested_roomy _ _ _ _ _ _ _ c.requires.tested).fits in
    omega (arith, c.places-rev.ensures, f.few_positions, f.places_few)

pub offset_bounds-graph-rev : goal.offset_bounds-graph-rev
offset_bounds-graph-rev c =
    let f = (tested_roomy _ _ _ _ _ _ _ c.requires.tested).fits in
    omega (arith, c.places-rev.ensures, f.places_few)

pub slice_bounds-tally-end : goal.slice_bounds-tally-end
slice_bounds-tally-end c =
    let f = (tested_roomy _ _ _ _ _ _ _ c.requires.tested).fits in
    omega (arith, c.places-rev.ensures, rev_end c.args.graph.now f)

pub tally-requires : goal.tally-requires
unfolding part rev_in
tally-requires c =
    let f = (tested_roomy _ _ _ _ _ _ _ c.requires.tested).fits in
    let long = rev_length c.args.graph.now f in
    let low = below_at _ _ (tested_below _ _ _ _ _ _ _ c.requires.tested) in
    rw c.places-rev.ensures (
      omega (arith, long, f.few_positions, f.places_few),
      λ a h. omega (arith, low a h, c.requires.sizes.long),
      c.requires.sizes.all,
    )

pub returns-then-not-covered : goal.returns-then-not-covered
unfolding part
returns-then-not-covered c =
    let game = c.args.game in
    let s = sized_of c.args.graph.now game.groups game.positions _ c.places-rev.ensures c.requires.sizes.long
    c.tally.auto.counts c.tally.ensures in
    unplayable _ _ _ _ _ _ _
    (not_full _ _ _ _ _ _ _ c.requires.tested
    (sym (covered_full _ _ _ s.long s.counted) ∙ (sym c.covered.ensures ∙ c.if-not-covered.true)))

pub play-requires : goal.play-requires
unfolding part
play-requires c =
    let game = c.args.game in
    let s = sized_of c.args.graph.now game.groups game.positions _ c.places-rev.ensures c.requires.sizes.long
    c.tally.auto.counts c.tally.ensures in
    record {
      ready = ready_in _ _ _ _ _ _ _ c.requires.tested
          (sym (covered_full _ _ _ s.long s.counted) ∙ (sym c.covered.ensures ∙ c.if-not-covered.false));
      sized = s;
      start_rises = tested_sifted _ _ _ _ _ _ _ c.requires.tested;
      no_dead = c.requires.dead;
      no_targets = c.requires.scratch;
      room = (tested_roomy _ _ _ _ _ _ _ c.requires.tested).room;
    }

pub returns : goal.returns
unfolding part
returns c =
    let game = c.args.game in
    let s = sized_of c.args.graph.now game.groups game.positions _ c.places-rev.ensures c.requires.sizes.long
    c.tally.auto.counts c.tally.ensures in
    played _ _ _ _ _ _ _
    (all_hold _ _ _ _ _ _ _ c.requires.tested
    (sym (covered_full _ _ _ s.long s.counted) ∙ (sym c.covered.ensures ∙ c.if-not-covered.false)))
    _ _ c.play.ensures
