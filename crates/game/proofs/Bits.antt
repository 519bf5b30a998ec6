-- The bits of three numbers together are 0 exactly when the three are. Assumes nothing.
use Prim.Native.Nat.{ℕ, ◌-◌}
use native.Mathlib.Omega.{arith}
use lib.Bits.{bit_or, or_add_and, and_le_l, and_le_r}
use Rattle.game.specs.Steps.{Misses}

pub misses_or : (left old out : ℕ) → Misses left old out (bit_or (bit_or left (65535 - old)) out)
misses_or left old out =
    let a = or_add_and left (65535 - old) in
    let b = and_le_l left (65535 - old) in
    let c = and_le_r left (65535 - old) in
    let d = or_add_and (bit_or left (65535 - old)) out in
    let e = and_le_l (bit_or left (65535 - old)) out in
    let f = and_le_r (bit_or left (65535 - old)) out in
    record { met = λ z. omega arith; back = λ z. omega arith }
