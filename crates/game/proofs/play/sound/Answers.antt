-- One test after the other.
use Rattle.std.proofs.Common.{arith}
use Rattle.game.specs.Packed.{part, groups_in, rev_in, starts_in}
use Rattle.game.proofs.Checks.{four_tests}
use Rattle.game.proofs.Parts.{groups_front, rev_end}
use Rattle.game.proofs.play.sound.Goals as goal

pub slice_bounds-below-end : goal.slice_bounds-below-end
slice_bounds-below-end c = omega (arith, c.places-rev.ensures, rev_end c.args.graph.now c.requires)

pub slice_bounds-below-end-2 : goal.slice_bounds-below-end-2
slice_bounds-below-end-2 c = groups_front c.args.graph.now c.requires

pub returns : goal.returns
unfolding part groups_in rev_in starts_in
returns c =
    four_tests c.rising.ensures (rw c.places-rev.ensures at c.below.ensures) c.below-2.ensures c.rises.ensures
