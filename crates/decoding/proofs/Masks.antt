-- The bits of a mask less another: those of the one that are not in the other. Two masks joined, and the masks of a
-- list joined: all that one of them names. Assumes nothing.
use mathlib.Core.Path.{◌≡◌, refl, sym, ap, ◌∙◌}
use mathlib.Core.Logic.{◌↔◌, ◌⊎◌, inl, inr}
use mathlib.Core.Bool.{Bool, true, false, ◌&&◌, ◌||◌, not, true≢false}
use mathlib.Core.List.{List, [], ◌∷◌}
use Prim.Native.Nat.{ℕ, zero, suc, ◌-◌, ◌/◌, ◌%◌, ◌^◌, ◌<◌}
use native.Mathlib.Omega.{arith}
use lib.Dec.{eqb}
use lib.Bits.{bit_and, bit_or, and_step, and_le_l, and_le_r, and_zero_r, or_lt, or_add_and}
use lib.Pow.{pow_pos}
use borrow.Author.Tests.{ltb-true, lt-ltb, eqb-true, eq-eqb, not-true}
use Rattle.statements.specs.Sets.{bit, is_in}
use Rattle.statements.specs.Books.{less_mask, mask_ok, each_ok, union_of}
use Rattle.sets.proofs.Tests.{same_test, and_true, and_left, and_right, or_left, or_right, or_cases}
use Rattle.sets.proofs.Members.{is_in_none}
use Rattle.sets.proofs.Bits.{bit_suc, bit_zero, bit_none, all_bits, or_bit}

less_half : (a b : ℕ) → less_mask a b / 2 ≡ less_mask (a / 2) (b / 2)
unfolding less_mask
less_half a b = omega (arith, and_step a b, and_le_l (a / 2) (b / 2))

less_low : (a b : ℕ) → less_mask a b % 2 ≡ a % 2 - b % 2
unfolding less_mask
less_low a b = omega (arith, and_step a b, and_le_l (a / 2) (b / 2))

low_bit : (r t : ℕ) → r < 2 → t < 2 → eqb (r - t) 1 ≡ eqb r 1 && not (eqb t 1)
low_bit zero zero h g = refl
low_bit zero (suc zero) h g = refl
low_bit zero (suc (suc t)) h g = absurd (omega arith)
low_bit (suc zero) zero h g = refl
low_bit (suc zero) (suc zero) h g = refl
low_bit (suc zero) (suc (suc t)) h g = absurd (omega arith)
low_bit (suc (suc r)) t h g = absurd (omega arith)

pub less_is : (u a b : ℕ) → bit u (less_mask a b) ≡ bit u a && not (bit u b)
less_is zero a b =
    rw (bit_zero (less_mask a b), bit_zero a, bit_zero b, less_low)
    (low_bit (a % 2) (b % 2) (omega arith) (omega arith))
less_is (suc u) a b = rw (bit_suc u (less_mask a b), bit_suc u a, bit_suc u b, less_half) (less_is u (a / 2) (b / 2))

pub less_bit : (u a b : ℕ) → bit u (less_mask a b) ≡ true → (bit u a ≡ true) × (bit u b ≡ false)
less_bit u a b h =
    let both : bit u a && not (bit u b) ≡ true = sym (less_is u a b) ∙ h in
    (and_left (bit u a) (not (bit u b)) both, not-true (bit u b) (and_right (bit u a) (not (bit u b)) both))

-- a mask of moves below u stays one
pub less_ok : (u a b : ℕ) → mask_ok u a ≡ true → mask_ok u (less_mask a b) ≡ true
unfolding mask_ok less_mask
less_ok u a b h = lt-ltb (a - bit_and a b) (2 ^ u) (omega (arith, ltb-true a (2 ^ u) h))

-- less no moves it is as it was
pub less_none : (a : ℕ) → less_mask a 0 ≡ a
unfolding less_mask
less_none a = omega (arith, and_zero_r a)

-- less one mask and then less another it is less both joined
pub less_both : (a b c : ℕ) → less_mask (less_mask a b) c ≡ less_mask a (bit_or b c)
less_both a b c =
    all_bits (less_mask (less_mask a b) c) (less_mask a (bit_or b c))
    (λ u.
    rw (less_is u (less_mask a b) c, less_is u a b, less_is u a (bit_or b c), or_bit u b c)
    (neither (bit u a) (bit u b) (bit u c)))
  where
    neither : (r s t : Bool) → ((r && not s) && not t) ≡ (r && not (s || t))
    neither true true t = refl
    neither true false t = refl
    neither false s t = refl

-- two masks joined have moves below u alone just when both have
pub or_ok : (u a b : ℕ) → mask_ok u (bit_or a b) ≡ (mask_ok u a && mask_ok u b)
unfolding mask_ok
or_ok u a b =
    let sum = or_add_and a b in
    same_test (mask_ok u (bit_or a b)) (mask_ok u a && mask_ok u b)
    (λ h.
    let below = ltb-true (bit_or a b) (2 ^ u) h in
    and_true (lt-ltb a (2 ^ u) (omega (arith, and_le_r a b))) (lt-ltb b (2 ^ u) (omega (arith, and_le_l a b))))
    (λ h.
    lt-ltb (bit_or a b) (2 ^ u)
    (or_lt u a b (ltb-true a (2 ^ u) (and_left (mask_ok u a) (mask_ok u b) h))
    (ltb-true b (2 ^ u) (and_right (mask_ok u a) (mask_ok u b) h))))

-- one that is less another and then joined with it is joined with it
pub less_or : (a b : ℕ) → bit_or (less_mask a b) b ≡ bit_or a b
less_or a b =
    all_bits (bit_or (less_mask a b) b) (bit_or a b)
    (λ u. rw (or_bit u (less_mask a b) b, less_is u a b, or_bit u a b) (either (bit u a) (bit u b)))
  where
    either : (s t : Bool) → ((s && not t) || t) ≡ (s || t)
    either true true = refl
    either true false = refl
    either false t = refl

-- two masks joined name a move just when one of them does
pub or_names : (a b u : ℕ) → (bit u (bit_or a b) ≡ true) ↔ ((bit u a ≡ true) ⊎ (bit u b ≡ true))
or_names a b u = (
  λ h. or_cases (bit u a) (bit u b) (sym (or_bit u a b) ∙ h),
  λ h.
      or_bit u a b
      ∙ elim h [
        | inl e ↦ or_left (bit u a) (bit u b) e
        | inr e ↦ or_right (bit u a) (bit u b) e
      ],
)

-- a mask of no moves has
none_ok : (u : ℕ) → mask_ok u 0 ≡ true
unfolding mask_ok
none_ok u = lt-ltb 0 (2 ^ u) (pow_pos u)

-- all masks of a list joined, just when each has
pub union_ok : (u : ℕ) (masks : List ℕ) → mask_ok u (union_of masks) ≡ each_ok u masks
unfolding union_of each_ok
union_ok u [] = none_ok u
union_ok u (gone ∷ more) = or_ok u gone (union_of more) ∙ ap (λ (t : Bool). mask_ok u gone && t) (union_ok u more)

-- they name a move just when one of them does
pub union_names : (masks : List ℕ) (u : ℕ) →
    (bit u (union_of masks) ≡ true) ↔ ((gone : ℕ) × (is_in gone masks ≡ true) × (bit u gone ≡ true))
unfolding union_of is_in
union_names [] u = (λ h. absurd (true≢false (sym h ∙ bit_none u)), λ h. absurd (is_in_none h.0 h.1))
union_names (first ∷ more) u = (
  λ h.
      elim (or_cases (bit u first) (bit u (union_of more)) (sym (or_bit u first (union_of more)) ∙ h)) [
        | inl e ↦ (first, or_left (eqb first first) _ (eq-eqb first first refl), e)
        | inr e ↦ let r = (union_names more u).0 e in (r.0, or_right (eqb r.0 first) _ r.1, r.2)
      ],
  λ h.
      or_bit u first (union_of more)
      ∙ elim (or_cases (eqb h.0 first) (is_in h.0 more) h.1) [
        | inl e ↦ or_left (bit u first) _ (rw (eqb-true h.0 first e) at h.2)
        | inr e ↦ or_right (bit u first) _ ((union_names more u).1 (h.0, e, h.2))
      ],
)
