-- When the numbers of a book fit its bytes: the sizes, mask, kept states, waits and moves are in their ranges.
-- Assumes nothing.
use mathlib.Core.Path.{◌≡◌}
use mathlib.Core.Bool.{true}
use mathlib.Core.List.{List}
use Prim.Native.Nat.{ℕ, ◌^◌, ◌≤◌, ◌<◌}
use native.Mathlib.Omega.{arith}
use native.Mathlib.Nat.{pow-le-pow_right}
use lib.ListN.{length}
use borrow.Author.Tests.{ltb-true}
use Rattle.statements.specs.Sets.{bit, is_in, numbers}
use Rattle.statements.specs.Plants.{Plant}
use Rattle.statements.specs.Kept.{stage_of, wait_of, listed_move}
use Rattle.statements.specs.Books.{mask_ok}
use Rattle.sets.proofs.Members.{Sifted, sifted_member, numbers_holds, filter_length, length_numbers}
use Rattle.decoding.proofs.Sizes.{Sizes}

pub record Fits (p : Plant) (mask : ℕ) (kept : List ℕ) : Type 0 where
  pub sizes : Sizes p.states p.moves p.goals
  pub mask_ok_lem : mask_ok p.moves mask ≡ true
  pub kept_set : Sifted (numbers p.states 0) kept
  pub stages : p.settles ≡ true → (x : ℕ) → is_in x kept ≡ true
      → (1 ≤ stage_of p mask kept x) × (stage_of p mask kept x ≤ p.states)
  pub waits : (x i : ℕ) → is_in x kept ≡ true → i < p.goals → wait_of p mask kept i x ≤ 1023
  pub moves_ok : (x i : ℕ) → is_in x kept ≡ true → i < p.goals
      → (listed_move p mask kept i x < p.moves) × (bit (listed_move p mask kept i x) mask ≡ true)

module _ (p : Plant) (mask : ℕ) (kept : List ℕ) (fits : Fits p mask kept) where
  pub kept_below : (x : ℕ) → is_in x kept ≡ true → x < p.states
  kept_below x h =
      omega (arith, numbers_holds p.states 0 x (sifted_member (numbers p.states 0) kept fits.kept_set x h))

  pub kept_count : length kept ≤ p.states
  kept_count =
      let all = numbers p.states 0 in
      rw fits.kept_set (omega (arith, filter_length (λ x. is_in x kept) all, length_numbers p.states 0))

  pub mask_below : mask < 2 ^ 32
  unfolding mask_ok
  mask_below =
      let power : 2 ^ p.moves ≤ 2 ^ 32 = pow-le-pow_right (omega arith) fits.sizes.moves_most in
      omega (arith, ltb-true mask (2 ^ p.moves) fits.mask_ok_lem)
