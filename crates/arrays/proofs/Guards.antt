-- The guards of the loops: a list that fits over another, and a product of small numbers. Assumes nothing.
use mathlib.Core.Path.{◌≡◌, refl}
use mathlib.Core.List.{List}
use Prim.Native.Nat.{ℕ, ◌*◌, ◌≤◌, ◌<◌}
use native.Mathlib.Nat.{mul-le-mul}
use lib.ListN.{length}
use borrow.Author.Tests.{le-leb, lt-leb}
use Rattle.statements.specs.Sets.{over}
use Rattle.arrays.specs.Lists.{fitting}

-- a list that fits, and one that is too long
pub fitting_yes : (xs old : List ℕ) → length xs ≤ length old → fitting xs old ≡ xs
unfolding fitting
fitting_yes xs old h = rw (le-leb (length xs) (length old) h)

pub fitting_no : (xs old : List ℕ) → length old < length xs → old ≡ over (fitting xs old) old
unfolding fitting over
fitting_no xs old h = rw (lt-leb (length xs) (length old) h) refl

-- a product of two numbers of 17 bits
pub small_product : (a b : ℕ) → a ≤ 65536 → b ≤ 65536 → a * b ≤ 65536 * 65536
small_product a b h g = mul-le-mul h g
