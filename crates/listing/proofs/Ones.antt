-- The count of ones of a mask is the number of its bits that are set. Assumes nothing.
use mathlib.Core.Path.{◌≡◌, refl, sym, ap, ◌∙◌}
use mathlib.Core.Bool.{Bool, true, false}
use mathlib.Core.List.{List}
use Prim.Native.Nat.{ℕ, zero, suc, ◌+◌, ◌/◌, ◌%◌, ◌^◌, ◌<◌}
use native.Mathlib.Nat.{pow-suc, div-lt_iff_lt-mul}
use native.Mathlib.Omega.{arith}
use lib.Count.{ones, ones_step}
use lib.Dec.{eqb}
use lib.ListN.{length}
use Rattle.statements.specs.Sets.{bit, numbers, cons_if, filter}
use Rattle.sets.proofs.Bits.{bit_suc, bit_zero}

-- the bits from 1 on are the bits of the half
bits_half : (k x m : ℕ) → length (filter (λ u. bit u m) (numbers k (suc x)))
    ≡ length (filter (λ u. bit u (m / 2)) (numbers k x))
unfolding numbers filter
bits_half zero x m = refl
bits_half (suc k) x m = rw (bit_suc x m) (counted (bit x (m / 2)) _ _ (bits_half k (suc x) m))
  where
    counted : (b : Bool) (xs ys : List ℕ) → length xs ≡ length ys
        → length (cons_if b (suc x) xs) ≡ length (cons_if b x ys)
    counted true xs ys e = ap suc e
    counted false xs ys e = e

-- the lowest bit
lowest : (r : ℕ) (xs : List ℕ) → r < 2 → r + length xs ≡ length (cons_if (eqb r 1) 0 xs)
lowest zero xs h = omega arith
lowest (suc zero) xs h = omega arith
lowest (suc (suc r)) xs h = absurd (omega arith)

-- the ones of a number of k bits
pub ones_bits : (k m : ℕ) → m < 2 ^ k → ones m ≡ length (filter (λ u. bit u m) (numbers k 0))
unfolding ones numbers filter
ones_bits zero m h = let e : m ≡ 0 = omega arith in rw e
ones_bits (suc k) m h =
    let half : ones (m / 2) ≡ length (filter (λ u. bit u m) (numbers k 1)) =
    ones_bits k (m / 2) ((div-lt_iff_lt-mul (omega arith)).1 (rw pow-suc at h)) ∙ sym (bits_half k 0 m)
    in
    ones_step m ∙ ap (λ (n : ℕ). m % 2 + n) half
    ∙ rw (bit_zero m) (lowest (m % 2) (filter (λ u. bit u m) (numbers k 1)) (omega arith))

-- the moves in service that the listing counts are the bits of the mask
pub ones_mask : (m : ℕ) → m < 2 ^ 32 → ones m ≡ length (filter (λ u. bit u m) (numbers 32 0))
ones_mask m h = ones_bits 32 m h
