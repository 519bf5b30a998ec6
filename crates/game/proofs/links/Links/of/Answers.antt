-- The parts of a packed game are those of the struct, and they are an index.
use Rattle.std.proofs.Common.{arith, refl}
use Rattle.game.specs.Packed.{part, groups_in, rev_in, starts_in}
use Rattle.game.proofs.Parts.{groups_front, rev_end}
use Rattle.game.proofs.links.Links.of.Goals as goal

pub slice_bounds-result-end : goal.slice_bounds-result-end
slice_bounds-result-end c = omega (arith, c.places-rev.ensures, rev_end c.args.graph.now c.requires.fits)

pub slice_bounds-result-end-3 : goal.slice_bounds-result-end-3
slice_bounds-result-end-3 c = groups_front c.args.graph.now c.requires.fits

pub invariant_of-result : goal.invariant_of-result
unfolding part groups_in rev_in starts_in
invariant_of-result c = rw c.places-rev.ensures (record { index = c.requires.index })

pub returns-clause-rev : goal.returns-clause-rev
unfolding part rev_in
returns-clause-rev c = rw c.places-rev.ensures

pub returns-clause-starts : goal.returns-clause-starts
unfolding part starts_in
returns-clause-starts c = refl

pub returns-clause-gs : goal.returns-clause-gs
unfolding groups_in
returns-clause-gs c = refl
