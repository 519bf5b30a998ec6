-- Two-byte numbers at places of a list of bytes, and the bits of numbers. Assumes nothing.
use mathlib.Core.Path.{◌≡◌, sym, ap, ◌∙◌, subst⁻¹}
use mathlib.Core.Bool.{true, false}
use mathlib.Core.List.{List}
use Prim.Native.Nat.{ℕ, suc, ◌+◌, ◌*◌, ◌%◌, ◌^◌, ◌≤◌, ◌<◌}
use native.Mathlib.Nat.{add-zero, add_assoc, one-mul, mul-le-mul_left, mul-lt-mul_of_pos_right}
use native.Mathlib.Nat.{le_of_lt, lt_of_lt_of_le, lt_of_le_of_lt, div-eq_of_lt, mod-eq_of_lt}
use native.Mathlib.Numerals.{add-one}
use native.Mathlib.Omega.{arith}
use lib.ListN.{length, get_or, drop, get_or-eq_default}
use lib.Seq.{get_or-drop}
use lib.Pow.{pow_pos, pow_mono, pow-add, pow-lt}
use borrow.Author.Tests.{lt-ltb}
use Rattle.statements.specs.Sets.{bit}
use Rattle.statements.specs.Plants.{word}
use Rattle.statements.specs.Books.{mask_at, mask_ok}

-- a number's two bytes, in the list that was cut off at a place
pub word_bytes : (s : List ℕ) (at i : ℕ)
    → word i (drop at s) ≡ get_or s (at + 2 * i) 0 + 256 * get_or s (at + 2 * i + 1) 0
unfolding word
word_bytes s at i = simp (get_or-drop, add_assoc)

-- the number that starts at a place
pub word_here : (s : List ℕ) (at : ℕ) → word 0 (drop at s) ≡ get_or s at 0 + 256 * get_or s (at + 1) 0
word_here s at = word_bytes s at 0 ∙ simp add-zero

-- number i from a place on is the number that starts 2i bytes further
pub word_further : (s : List ℕ) (at i : ℕ) → word i (drop at s) ≡ word 0 (drop (at + 2 * i) s)
word_further s at i = word_bytes s at i ∙ sym (word_here s (at + 2 * i))

-- number i is the number that starts at byte 2i
pub word_number : (s : List ℕ) (i : ℕ) → word i s ≡ word 0 (drop (2 * i) s)
unfolding word
word_number s i = simp (get_or-drop, add-zero)

-- a mask's two halves start at bytes 4k and 4k + 2
pub mask_halves : (m : List ℕ) (k : ℕ) {low high : ℕ} → low ≡ word 0 (drop (4 * k) m)
    → high ≡ word 0 (drop (4 * k + 2) m) → low + 65536 * high ≡ mask_at m k
unfolding mask_at
mask_halves m k el eh =
    let l : 2 * (2 * k) ≡ 4 * k = omega arith in
    let h : 2 * (2 * k + 1) ≡ 4 * k + 2 = omega arith in
    rw (el, eh, word_number m (2 * k), word_number m (2 * k + 1), l, h)

-- past the end the bytes count as 0
pub word_past : (s : List ℕ) (at : ℕ) → length s ≤ at → word 0 (drop at s) ≡ 0
word_past s at h =
    let low : get_or s at 0 ≡ 0 = get_or-eq_default s 0 h in
    let high : get_or s (at + 1) 0 ≡ 0 = get_or-eq_default s 0 (omega arith) in
    word_here s at ∙ omega arith

-- and the high byte of a number at the last place
pub word_last : (s : List ℕ) (at : ℕ) → length s ≡ at + 1 → word 0 (drop at s) ≡ get_or s at 0
word_last s at e =
    let high : get_or s (at + 1) 0 ≡ 0 = get_or-eq_default s 0 (omega arith) in
    word_here s at ∙ omega arith

-- a number below 2^k has no bit at k or above
pub no_bit : (k i v : ℕ) → v < 2 ^ k → k ≤ i → bit i v ≡ false
unfolding bit
no_bit k i v h l = rw (div-eq_of_lt (lt_of_lt_of_le h (pow_mono l)))

-- a number below 2^k is a mask for k or more moves
pub mask_fits : (k u m : ℕ) → m < 2 ^ k → k ≤ u → mask_ok u m ≡ true
unfolding mask_ok
mask_fits k u m h l = lt-ltb m (2 ^ u) (lt_of_lt_of_le h (pow_mono l))

-- 1 shifted by less than 32 places
pub power : (k : ℕ) → k < 32 → (1 * 2 ^ k) % 4294967296 ≡ 2 ^ k
power k h = rw one-mul (mod-eq_of_lt (pow-lt h))

-- and shifted by one place more
pub power_next : (k : ℕ) → k < 31 → (1 * 2 ^ (k + 1)) % 4294967296 ≡ 2 ^ suc k
power_next k h = power (k + 1) (omega arith) ∙ ap (λ (n : ℕ). 2 ^ n) (add-one k)

-- a product of numbers of j and k bits
pub product_below : (j k : ℕ) {a b : ℕ} → a < 2 ^ j → b < 2 ^ k → a * b < 2 ^ (j + k)
product_below j k {a} {b} ha hb =
    subst⁻¹ (λ (n : ℕ). a * b < n) (pow-add 2 j k)
    (lt_of_le_of_lt (mul-le-mul_left a (le_of_lt hb)) (mul-lt-mul_of_pos_right ha (pow_pos k)))
