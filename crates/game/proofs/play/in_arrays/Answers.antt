-- There is room for as many groups as the array of the game has places for.
use Rattle.std.proofs.Common.{arith}
use Rattle.game.proofs.Parts.{fresh_made}
use Rattle.game.proofs.Playable.{tested_roomy}
use Rattle.game.proofs.play.in_arrays.Goals as goal

pub within-requires-clause-sizes : goal.within-requires-clause-sizes
within-requires-clause-sizes g c =
    let fits = (tested_roomy _ _ _ _ _ _ _ c.requires.tested).fits in
    fresh_made _ 0 _ (omega (arith, fits.few_groups, c.requires.room.0))

pub within-requires-clause-dead : goal.within-requires-clause-dead
within-requires-clause-dead g c =
    let fits = (tested_roomy _ _ _ _ _ _ _ c.requires.tested).fits in
    fresh_made _ 0 _ (omega (arith, fits.few_groups, c.requires.room.0))

pub within-requires-clause-scratch : goal.within-requires-clause-scratch
within-requires-clause-scratch g c =
    let fits = (tested_roomy _ _ _ _ _ _ _ c.requires.tested).fits in
    fresh_made _ 65535 _ (omega (arith, fits.few_groups, c.requires.room.0, c.requires.room.1.1))
