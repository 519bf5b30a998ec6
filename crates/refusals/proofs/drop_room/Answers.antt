-- The buffer is compared with two bytes for each state.
use mathlib.Core.Path.{ap}
use Prim.Native.Nat.{ℕ, ◌*◌}
use lib.Dec.{leb}
use Rattle.statements.specs.Plants.{plant_of}
use Rattle.statements.specs.Calls.{drop_room}
use Rattle.refusals.proofs.drop_room.Goals as goal

pub returns : goal.returns
unfolding drop_room plant_of
returns c = ap (λ (n : ℕ). leb (2 * n) c.args.drops) c.number.ensures
