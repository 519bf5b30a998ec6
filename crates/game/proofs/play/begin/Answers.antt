-- The nodes that have a group are marked, and those that the list leaves out are struck out.
use Rattle.std.proofs.Common.{◌≡◌, ◌∙◌, ap, ℕ, List, take, arith}
use Rattle.statements.specs.Sets.{numbers}
use Rattle.game.specs.Packed.{part, groups_in, rev_in, starts_in}
use Rattle.game.specs.Marks.{without}
use Rattle.game.proofs.Parts.{groups_front, groups_length, starts_nodes}
use Rattle.game.proofs.Standing.{begun, others_below, without_others}
use Rattle.game.proofs.play.begin.Goals as goal

pub slice_bounds-tally-end : goal.slice_bounds-tally-end
slice_bounds-tally-end c = groups_front c.args.graph.now c.requires.ready.fits

pub tally-requires : goal.tally-requires
unfolding part groups_in rev_in starts_in
tally-requires c =
    let p = c.requires in
    let nl = starts_nodes c.args.graph.now p.ready.fits in
    let gl = groups_length c.args.graph.now p.ready.fits in (
      omega (arith, gl, p.ready.fits.few_groups, p.ready.fits.places_few),
      λ a h. omega (arith, p.ready.index.of_node a h, nl, p.live.long),
      p.live.all,
    )

pub open-requires : goal.open-requires
open-requires c =
    let p = c.requires in (
      omega (arith, p.live.long, c.tally.auto.counts),
      (p.member.long, λ x h. p.member.all x (omega (arith, p.member.long, h))),
    )

pub strike_in-requires-clause-inside : goal.strike_in-requires-clause-inside
strike_in-requires-clause-inside c x h =
    others_below c.args.game.nodes c.args.start.now x (rw c.rest-count.ensures.0 at h)

pub strike_in-requires-clause-marked : goal.strike_in-requires-clause-marked
unfolding part groups_in rev_in starts_in
strike_in-requires-clause-marked c =
    let p = c.requires in
    let a = c.args in
    let gl = groups_length a.graph.now p.ready.fits in
    let nl = starts_nodes a.graph.now p.ready.fits in
    let all = begun _ _ _ p.ready.index _ _ _ (λ g h. p.dead.all g (omega (arith, gl, p.dead.long)))
    (λ x h. c.tally.ensures x (omega (arith, nl, p.live.long, h))) (λ x h. c.open.ensures x (omega (arith, nl, h)))
    (omega (arith, nl, p.member.long, c.open.auto.member)) (omega (arith, nl, p.live.long, c.tally.auto.counts))
    (omega (arith, gl, p.dead.long)) in
    (_, all)

pub returns : goal.returns
unfolding part groups_in rev_in starts_in
returns c =
    let p = c.requires in
    let a = c.args in
    let gl = groups_length a.graph.now p.ready.fits in
    let nl = starts_nodes a.graph.now p.ready.fits in
    let all = begun _ _ _ p.ready.index _ _ _ (λ g h. p.dead.all g (omega (arith, gl, p.dead.long)))
    (λ x h. c.tally.ensures x (omega (arith, nl, p.live.long, h))) (λ x h. c.open.ensures x (omega (arith, nl, h)))
    (omega (arith, nl, p.member.long, c.open.auto.member)) (omega (arith, nl, p.live.long, c.tally.auto.counts))
    (omega (arith, gl, p.dead.long)) in
    let n = a.game.nodes in
    let is : without (take c.rest-count.result c.rest-count.new.out) (numbers n 0) ≡ a.start.now =
    ap (λ (l : List ℕ). without l (numbers n 0)) c.rest-count.ensures.0 ∙ without_others n _ p.start in
    rw is at (rw nl at (c.strike_in.ensures _ all))
