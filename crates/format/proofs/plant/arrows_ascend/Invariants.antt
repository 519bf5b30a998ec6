-- The arrows left, with ranks from `least` up, stand for all of them.
use Rattle.std.proofs.Common.{◌≡◌, ◌+◌, ◌*◌, drop}
use Rattle.statements.specs.Plants.{word, arrows_from, arrows_ok}
use Rattle.format.proofs.plant.arrows_ascend.Given as goal

abbrev pub invariant-loop-arrow : goal.invariant-loop-arrow
invariant-loop-arrow l =
    let r = l.arrow-iterator in
    arrows_ok l.states l.moves 0 (arrows_from l.count (drop (16 + 2 * word 0 l.plant) l.plant))
    ≡ arrows_ok l.states l.moves l.least (arrows_from r.left (drop r.at r.plant.now))
