-- The masks of a list joined, one for each turn of the loop: what is joined so far and the masks still to come are
-- together all of them. Assumes nothing.
use mathlib.Core.Path.{◌≡◌, refl, sym, ◌∙◌}
use mathlib.Core.Logic.{inl, inr}
use mathlib.Core.List.{List, ◌++◌}
use Prim.Native.Nat.{ℕ, suc, ◌-◌, ◌/◌, ◌<◌}
use native.Mathlib.Omega.{arith}
use lib.Dec.{eqb}
use lib.ListN.{length, take, drop, length-append, length-drop, get_or-append}
use lib.Seq.{take-length}
use lib.Bits.{bit_or, or_zero_r}
use borrow.Author.Tests.{eqb-true}
use Rattle.std.proofs.lemmas.List.{drop_at}
use Rattle.statements.specs.Plants.{word}
use Rattle.statements.specs.Books.{mask_at, masks_in, masks_of, union_of}
use Rattle.sets.proofs.Tests.{decided}
use Rattle.sets.proofs.Bits.{or_assoc}

-- the part of a list from a place on
pub rest_is : (m : List ℕ) (at : ℕ) → take (length m - at) (drop at m) ≡ drop at m
rest_is m at = rw (← length-drop) (take-length (drop at m))

-- the first mask of a list is that of its first four bytes
mask_front : (x rest : List ℕ) → length x ≡ 4 → mask_at (x ++ rest) 0 ≡ mask_at x 0
unfolding mask_at word
mask_front x rest four =
    let byte = λ (k : ℕ) (h : k < 4). get_or-append x rest 0 k (omega arith) in
    rw (byte 0 (omega arith), byte 1 (omega arith), byte 2 (omega arith), byte 3 (omega arith)) refl

-- what is joined so far and the masks of a part are together all of a list's
abbrev pub Joined : List ℕ → ℕ → List ℕ → Type 0
Joined m all part = bit_or all (union_of (masks_in (length part / 4) part)) ≡ union_of (masks_in (length m / 4) m)

-- before the first
pub joined_start : (m : List ℕ) → Joined m 0 m
joined_start m = refl

-- one more, the first of the part
pub joined_more : (m : List ℕ) (all : ℕ) (part x rest : List ℕ) → Joined m all part → part ≡ x ++ rest → length x ≡ 4
    → Joined m (bit_or all (mask_at x 0)) rest
unfolding masks_in union_of
joined_more m all part x rest j split four =
    let count : length (x ++ rest) / 4 ≡ suc (length rest / 4) = omega (arith, length-append x rest) in
    or_assoc all (mask_at x 0) (union_of (masks_in (length rest / 4) rest))
    ∙ (rw (split, count, mask_front x rest four, drop_at x rest 4 four) at j)

-- an empty list and one mask of 0 name the same moves, none
pub union_is : (m : List ℕ) → union_of (masks_in (length m / 4) m) ≡ union_of (masks_of m)
unfolding masks_of masks_in union_of
union_is m =
    elim (decided (eqb (length m) 0)) [
      | inl e ↦ rw (e, eqb-true (length m) 0 e)
      | inr e ↦ rw e
    ]

-- after the last
pub joined_end : (m : List ℕ) (all : ℕ) (part : List ℕ) → Joined m all part → length part < 4
    → all ≡ union_of (masks_of m)
unfolding masks_in union_of
joined_end m all part j left =
    let none : length part / 4 ≡ 0 = omega arith in
    sym (or_zero_r all) ∙ (rw none at j) ∙ union_is m
