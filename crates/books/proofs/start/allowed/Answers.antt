-- The labels read say which states are allowed.
use Rattle.std.proofs.Common.{◌≡◌, ap, ◌∙◌, length, get_or, take}
use Rattle.statements.specs.Sets.{bit, filter}
use Rattle.statements.specs.Plants.{plant_of, allowed}
use Rattle.sets.proofs.Members.{filter_same}
use Rattle.books.proofs.Struck.{labels_say}
use Rattle.books.proofs.start.allowed.Goals as goal

pub returns : goal.returns
returns c =
    let plant = c.args.plant.now in
    let list = take c.args.count c.args.list.now in
    let labels = c.labels_to.new.to in
    let same : filter (λ x. bit 0 (get_or labels x 0)) list ≡ filter (allowed (plant_of plant)) list =
    filter_same (λ x. bit 0 (get_or labels x 0)) (allowed (plant_of plant)) list
    (λ x m. labels_say plant labels c.requires.head c.labels_to.ensures x) in
    record { number = c.strike_out.ensures.number ∙ ap length same; still = c.strike_out.ensures.still ∙ same }
