-- The groups are put in order in their part, and the starts and the labels are put past it.
use Rattle.std.proofs.Common.{◌-◌, ◌/◌, ◌∙◌, ap, arith, length, take, length-append}
use Rattle.std.proofs.Math.Seq.{take-take}
use Rattle.decoding.proofs.Faults.{states_few, plant_tests}
use Rattle.format.proofs.Header.{plant_states, plant_head}
use Rattle.game.specs.Packed.{places_in}
use Rattle.graph.proofs.Packing.{front_labels, linked}
use Rattle.graph.proofs.link.Goals as goal

pub order-good-requires-clause-laid : goal.order-good-requires-clause-laid
unfolding places_in
order-good-requires-clause-laid c = (
  c.requires.ends_are,
  record {
    fine = c.requires.fine;
    owners_are = c.requires.owners_are;
    owners_long = c.requires.owners_long;
    rev_long = omega (arith, c.requires.arrows_fit);
  },
)

pub returns-clause-linked : goal.returns-clause-linked
unfolding places_in
returns-clause-linked c same =
    let g = c.args.graph.now in
    let kept = c.split_at_mut-rev.result.0.now in
    let rev = c.order-good.new.rev in
    let starts = c.order-good.new.starts in
    let labels = c.labels_to.new.to in
    let at = length g - 2049 in
    let head = plant_head _ (plant_tests _ c.requires.fine).0 in
    let few = states_few c.args.plant.now c.requires.fine in
    let kept_is = c.split_at_mut-rev.ensures.front
    ∙ ap (take (at / 2)) c.split_at_mut-front.ensures.front ∙ take-take (at / 2) at g (omega arith) in
    linked c.args.plant.now c.args.ends.now _ g kept rev starts _ labels c.requires.graph_long kept_is (omega arith)
    (omega (arith, length-append kept rev)) (omega arith) (omega arith) (c.order-good.ensures.sorted same)
    (c.order-good.ensures.starts same)
    (front_labels c.args.plant.now _ labels (omega (arith, head.long)) (omega (arith, few, plant_states c.args.plant.now))
    c.labels_to.ensures)
