-- A shift is a quotient by a power of 2, and a bit is its rest.
use Rattle.std.proofs.Common.{◌≡◌, ℕ, zero, suc, ◌<◌, eqb, arith, refl}
use Rattle.statements.specs.Sets.{pick, bit}
use Rattle.layout.proofs.pass.serves.Goals as goal

-- a rest by 2 is 1 where it is tested so, and otherwise 0
rest_is : (r : ℕ) → r < 2 → r ≡ pick (eqb r 1) 1 0
rest_is zero h = refl
rest_is (suc zero) h = refl
rest_is (suc (suc r)) h = absurd (omega arith)

pub returns : goal.returns
unfolding bit
returns c = rw c.from.ensures (rest_is _ (omega arith))
