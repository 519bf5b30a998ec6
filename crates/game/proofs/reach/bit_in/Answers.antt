-- A shift is a quotient by a power of 2.
use Rattle.std.proofs.Common.{refl}
use Rattle.statements.specs.Sets.{bit}
use Rattle.game.proofs.reach.bit_in.Goals as goal

pub returns : goal.returns
unfolding bit
returns c = refl
