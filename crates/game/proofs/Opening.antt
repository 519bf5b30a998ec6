-- The loop before the first round, turn by turn: the nodes with a group are marked. Assumes nothing.
use mathlib.Core.Path.{◌≡◌, ap, sym, ◌∙◌}
use mathlib.Core.List.{List}
use Prim.Native.Nat.{ℕ, ◌+◌, ◌<◌, ◌≤◌}
use native.Mathlib.Omega.{arith}
use borrow.Author.Count.{below_more}
use borrow.Author.Tests.{lt-ltb, le-ltb}
use lib.Dec.{ltb}
use lib.ListN.{length, get_or, set}
use lib.Seq.{get_or-set_same, get_or-set_other}
use Rattle.sort.specs.Steps.{Holds}

-- the nodes below x are marked where they have a group, and the others up to n are not marked yet
pub record Opening (live member : List ℕ) (n x : ℕ) : Type 0 where
  pub marked : (y : ℕ) → y < x → ltb (get_or member y 0) 1 ≡ ltb 0 (get_or live y 0)
  pub later : (y : ℕ) → x ≤ y → y < n → get_or member y 0 ≡ 65535

pub open_none : (live member : List ℕ) (n : ℕ) → Holds n (λ x. 65535) member → Opening live member n 0
open_none live member n h = record { marked = λ y l. absurd (omega arith); later = λ y l k. h y k }

module _ (live member : List ℕ) (n x : ℕ) (o : Opening live member n x) (low : x < n) where
  pub open_no : get_or live x 0 ≡ 0 → Opening live member n (x + 1)
  open_no e =
      record {
        marked =
            below_more (λ (y : ℕ). ltb (get_or member y 0) 1 ≡ ltb 0 (get_or live y 0)) x o.marked
            (le-ltb (get_or member x 0) 1 (omega (arith, o.later x (omega arith) low))
            ∙ sym (le-ltb 0 (get_or live x 0) (omega arith)));
        later = λ y l k. o.later y (omega arith) k;
      }

  pub open_yes : (get_or live x 0 ≡ 0 → ⊥) → x < length member → Opening live (set member x 0) n (x + 1)
  open_yes d room =
      record {
        marked =
            below_more (λ (y : ℕ). ltb (get_or (set member x 0) y 0) 1 ≡ ltb 0 (get_or live y 0)) x
            (λ y l.
            ap (λ (v : ℕ). ltb v 1) (get_or-set_other member x y 0 0 (λ q. omega arith)) ∙ o.marked y l)
            (ap (λ (v : ℕ). ltb v 1) (get_or-set_same member x 0 0 room)
            ∙ sym (lt-ltb 0 (get_or live x 0) (omega (arith, d))));
        later = λ y l k. get_or-set_other member x y 0 0 (λ q. omega arith) ∙ o.later y (omega arith) k;
      }
