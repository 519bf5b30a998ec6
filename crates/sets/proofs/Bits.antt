-- Masks bit by bit: a mask is its bits, that of a test has those at which the test holds, and the lowest of it is the
-- first such number. Assumes nothing.
use mathlib.Core.Path.{◌≡◌, refl, sym, ap, ap₂, ◌∙◌}
use mathlib.Core.Bool.{Bool, true, false, ◌||◌}
use Prim.Native.Nat.{ℕ, zero, suc, ◌+◌, ◌/◌, ◌%◌, ◌^◌, max, ◌≤◌, ◌<◌}
use native.Mathlib.Omega.{arith}
use native.Mathlib.Nat.{div-div-eq-div-mul, pow-succ', div-one, add-zero, zero-add, zero-div}
use lib.Dec.{eqb, eqb-zero-suc, eqb-suc-zero, eqb-suc-suc}
use lib.Bits.{bit_or, or_step}
use Rattle.statements.specs.Sets.{pick, bit, bits, first, lowest}
use Rattle.sets.proofs.First.{first_alike}

-- a mask's bits: the lowest, and those of its half
pub bit_zero : (v : ℕ) → bit 0 v ≡ eqb (v % 2) 1
unfolding bit
bit_zero v = rw (div-one) refl

pub bit_suc : (u v : ℕ) → bit (suc u) v ≡ bit u (v / 2)
unfolding bit
bit_suc u v = rw (pow-succ', ← div-div-eq-div-mul)

-- 0 has none
pub bit_none : (u : ℕ) → bit u 0 ≡ false
unfolding bit
bit_none u = rw (zero-div) refl

-- a test as a number
low : (t : Bool) → pick t 1 0 < 2
low true = omega arith
low false = omega arith

low_is : (t : Bool) → eqb (pick t 1 0) 1 ≡ t
low_is true = refl
low_is false = refl

low_test : (r : ℕ) → r < 2 → r ≡ pick (eqb r 1) 1 0
low_test zero h = refl
low_test (suc zero) h = refl
low_test (suc (suc r)) h = absurd (omega arith)

module _ (test : ℕ → Bool) where
  -- the lowest bit, and the others
  bits_low : (n x : ℕ) → bits (suc n) x test % 2 ≡ pick (test x) 1 0
  unfolding bits
  bits_low n x = omega (arith, low (test x))

  bits_half : (n x : ℕ) → bits (suc n) x test / 2 ≡ bits n (suc x) test
  unfolding bits
  bits_half n x = omega (arith, low (test x))

  -- its bits below n say where the test holds, and it has no others
  bits_bit : (n x u : ℕ) → u < n → bit u (bits n x test) ≡ test (x + u)
  bits_bit zero x u h = absurd (omega arith)
  bits_bit (suc n) x zero h =
      bit_zero (bits (suc n) x test)
      ∙ rw (bits_low n x, add-zero) (low_is (test x))
  bits_bit (suc n) x (suc u) h =
      let there : suc x + u ≡ x + suc u = omega arith in
      bit_suc u (bits (suc n) x test) ∙ rw (bits_half n x)
      (bits_bit n (suc x) u (omega arith) ∙ ap test there)

  pub bits_at : (n u : ℕ) → u < n → bit u (bits n 0 test) ≡ test u
  bits_at n u h = bits_bit n 0 u h ∙ ap test (zero-add u)

  pub bits_past : (n x u : ℕ) → n ≤ u → bit u (bits n x test) ≡ false
  unfolding bits
  bits_past zero x u h = bit_none u
  bits_past (suc n) x zero h = absurd (omega arith)
  bits_past (suc n) x (suc u) h =
      bit_suc u (bits (suc n) x test) ∙ rw (bits_half n x) (bits_past n (suc x) u (omega arith))

  pub bits_below : (n x : ℕ) → bits n x test < 2 ^ n
  unfolding bits
  bits_below zero x = omega arith
  bits_below (suc n) x = omega (arith, low (test x), bits_below n (suc x), pow-succ' 2 n)

-- two masks with the same bits are one
pub same_bits : (n a b : ℕ) → a < 2 ^ n → b < 2 ^ n → ((u : ℕ) → u < n → bit u a ≡ bit u b) → a ≡ b
same_bits zero a b ha hb same = omega arith
same_bits (suc n) a b ha hb same =
    let half =
    same_bits n (a / 2) (b / 2) (omega (arith, pow-succ' 2 n)) (omega (arith, pow-succ' 2 n))
    (λ u h. sym (bit_suc u a) ∙ same (suc u) (omega arith) ∙ bit_suc u b) in
    let tests = sym (bit_zero a) ∙ same 0 (omega arith) ∙ bit_zero b in
    let low_same : a % 2 ≡ b % 2 =
    low_test (a % 2) (omega arith) ∙ ap (λ (t : Bool). pick t 1 0) tests ∙ sym (low_test (b % 2) (omega arith)) in
    omega (arith, half, low_same)

-- a number is below the power of 2 that it is the exponent of
below_power : (n : ℕ) → n < 2 ^ n
below_power zero = omega arith
below_power (suc n) = omega (arith, below_power n, pow-succ' 2 n)

-- without a bound
pub all_bits : (a b : ℕ) → ((u : ℕ) → bit u a ≡ bit u b) → a ≡ b
all_bits a b same =
    let above = below_power (a + b) in
    same_bits (a + b) a b (omega arith) (omega arith) (λ u h. same u)

-- the lowest of a test's mask is the first at which the test holds
pub lowest_bits : (n : ℕ) (test : ℕ → Bool) → lowest n (bits n 0 test) ≡ first n 0 test
unfolding lowest
lowest_bits n test = first_alike n 0 (λ u. bit u (bits n 0 test)) test (λ u l h. bits_at test n u (omega arith))

-- the bits of two masks joined, and of a mask with one bit
max_low : (s t : Bool) → max (pick s 1 0) (pick t 1 0) ≡ pick (s || t) 1 0
max_low true true = refl
max_low true false = refl
max_low false true = refl
max_low false false = refl

or_low_half : (a b : ℕ) →
    (bit_or a b % 2 ≡ pick (eqb (a % 2) 1 || eqb (b % 2) 1) 1 0) × (bit_or a b / 2 ≡ bit_or (a / 2) (b / 2))
or_low_half a b =
    let joins : max (a % 2) (b % 2) ≡ pick (eqb (a % 2) 1 || eqb (b % 2) 1) 1 0 =
    ap₂ max (low_test (a % 2) (omega arith)) (low_test (b % 2) (omega arith))
    ∙ max_low (eqb (a % 2) 1) (eqb (b % 2) 1) in
    omega (arith, or_step a b, joins, low (eqb (a % 2) 1 || eqb (b % 2) 1))

pub or_bit : (u a b : ℕ) → bit u (bit_or a b) ≡ (bit u a || bit u b)
or_bit zero a b =
    rw (bit_zero (bit_or a b), bit_zero a, bit_zero b, (or_low_half a b).0) (low_is (eqb (a % 2) 1 || eqb (b % 2) 1))
or_bit (suc u) a b =
    rw (bit_suc u (bit_or a b), bit_suc u a, bit_suc u b, (or_low_half a b).1) (or_bit u (a / 2) (b / 2))

-- masks joined in either grouping
pub or_assoc : (a b c : ℕ) → bit_or (bit_or a b) c ≡ bit_or a (bit_or b c)
or_assoc a b c =
    all_bits (bit_or (bit_or a b) c) (bit_or a (bit_or b c))
    (λ u.
    rw (or_bit u (bit_or a b) c, or_bit u a b, or_bit u a (bit_or b c), or_bit u b c)
    (one_or_other (bit u a) (bit u b) (bit u c)))
  where
    one_or_other : (s t v : Bool) → ((s || t) || v) ≡ (s || (t || v))
    one_or_other true t v = refl
    one_or_other false t v = refl

pub one_bit : (u k : ℕ) → bit u (2 ^ k) ≡ eqb u k
one_bit zero zero = bit_zero 1
one_bit zero (suc k) =
    let even : 2 ^ suc k % 2 ≡ 0 = omega (arith, pow-succ' 2 k) in
    bit_zero (2 ^ suc k) ∙ ap (λ (r : ℕ). eqb r 1) even ∙ sym (eqb-zero-suc k)
one_bit (suc u) zero = bit_suc u 1 ∙ bit_none u ∙ sym (eqb-suc-zero u)
one_bit (suc u) (suc k) =
    let half : 2 ^ suc k / 2 ≡ 2 ^ k = omega (arith, pow-succ' 2 k) in
    bit_suc u (2 ^ suc k) ∙ ap (bit u) half ∙ one_bit u k ∙ sym (eqb-suc-suc u k)
