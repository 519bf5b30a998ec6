-- Numbers joined bit by bit: the whole is below a power of 2 just when each is, and a bit is left aside in the whole as
-- in each. Assumes nothing.
use mathlib.Core.Path.{◌≡◌, refl, sym, ap₂, ◌∙◌}
use mathlib.Core.Bool.{Bool, true, false, ◌&&◌}
use Prim.Native.Nat.{ℕ, ◌+◌, ◌-◌, ◌*◌, ◌/◌, ◌%◌, ◌^◌}
use native.Mathlib.Omega.{arith}
use lib.Dec.{ltb}
use lib.Pow.{pow_pos}
use lib.Bits.{bit_and, bit_or, or_lt, or_add_and, or_block, or_shr, or_mod, and_le_l, and_le_r, and_high}
use borrow.Author.Tests.{ltb-true, lt-ltb}
use Rattle.statements.specs.Sets.{pick}
use Rattle.sets.proofs.Tests.{and_true, and_left, and_right, same_test}

-- below a power of 2
pub low_or : (k a b : ℕ) → ltb (bit_or a b) (2 ^ k) ≡ (ltb a (2 ^ k) && ltb b (2 ^ k))
low_or k a b = same_test (ltb (bit_or a b) (2 ^ k)) (ltb a (2 ^ k) && ltb b (2 ^ k)) both each
  where
    both : ltb (bit_or a b) (2 ^ k) ≡ true → (ltb a (2 ^ k) && ltb b (2 ^ k)) ≡ true
    both h =
        let low = ltb-true (bit_or a b) (2 ^ k) h in
        and_true (lt-ltb a (2 ^ k) (omega (arith, or_add_and a b, and_le_r a b)))
        (lt-ltb b (2 ^ k) (omega (arith, or_add_and a b, and_le_l a b)))

    each : (ltb a (2 ^ k) && ltb b (2 ^ k)) ≡ true → ltb (bit_or a b) (2 ^ k) ≡ true
    each h =
        lt-ltb (bit_or a b) (2 ^ k)
        (or_lt k a b (ltb-true a (2 ^ k) (and_left (ltb a (2 ^ k)) (ltb b (2 ^ k)) h))
        (ltb-true b (2 ^ k) (and_right (ltb a (2 ^ k)) (ltb b (2 ^ k)) h)))

-- a number less bit 9: the bits above it and those below it
less_nine : (a : ℕ) → a - bit_and a 512 ≡ a / 1024 * 1024 + a % 512
less_nine a =
    let nine : bit_and a 512 ≡ a / 512 % 2 * 512 = and_high a 1 9 in
    omega (arith, nine)

less_or : (a b : ℕ) → bit_or a b - bit_and (bit_or a b) 512 ≡ bit_or (a - bit_and a 512) (b - bit_and b 512)
less_or a b =
    let high : bit_or a b / 1024 ≡ bit_or (a / 1024) (b / 1024) = or_shr a b 10 in
    let low : bit_or a b % 512 ≡ bit_or (a % 512) (b % 512) = or_mod a b 9 in
    let parts : bit_or (a / 1024 * 1024 + a % 512) (b / 1024 * 1024 + b % 512)
    ≡ bit_or (a / 1024) (b / 1024) * 1024 + bit_or (a % 512) (b % 512) =
    or_block 10 (a / 1024) (b / 1024) (a % 512) (b % 512) (omega arith) (omega arith) in
    less_nine (bit_or a b) ∙ ap₂ (λ (x y : ℕ). x * 1024 + y) high low ∙ sym parts
    ∙ ap₂ bit_or (sym (less_nine a)) (sym (less_nine b))

-- also where it is left aside by a test
pub picked_or : (free : Bool) (a b : ℕ)
    → pick free (bit_or a b - bit_and (bit_or a b) 512) (bit_or a b)
    ≡ bit_or (pick free (a - bit_and a 512) a) (pick free (b - bit_and b 512) b)
picked_or true a b = less_or a b
picked_or false a b = refl

-- nothing joined is low
pub low_none : (free : Bool) (k : ℕ) → ltb (pick free (0 - bit_and 0 512) 0) (2 ^ k) ≡ true
low_none true k = lt-ltb 0 (2 ^ k) (pow_pos k)
low_none false k = lt-ltb 0 (2 ^ k) (pow_pos k)
