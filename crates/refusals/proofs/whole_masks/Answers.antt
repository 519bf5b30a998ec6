-- The length alone decides.
use mathlib.Core.Path.{refl}
use Rattle.statements.specs.Calls.{whole_masks}
use Rattle.refusals.proofs.whole_masks.Goals as goal

pub returns : goal.returns
unfolding whole_masks
returns c = refl
