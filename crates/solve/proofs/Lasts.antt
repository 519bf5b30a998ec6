-- Members of a list with one more at its end, and of the first of a list. Assumes nothing.
use mathlib.Core.Path.{◌≡◌, refl, ap}
use mathlib.Core.Logic.{⊎_elim}
use mathlib.Core.Bool.{Bool, true, ◌||◌}
use mathlib.Core.List.{List, [], ◌∷◌, ◌++◌}
use Prim.Native.Nat.{ℕ, zero, suc, ◌<◌}
use native.Mathlib.Omega.{arith}
use lib.Dec.{eqb}
use lib.ListN.{length, get_or, take}
use borrow.Author.Tests.{ne_eqb}
use Rattle.statements.specs.Sets.{is_in}
use Rattle.sets.proofs.Members.{is_in_here, is_in_there, is_in_cases, is_in_none}

-- a list with one member more at its end
pub last_here : (x : ℕ) (xs : List ℕ) → is_in x (xs ++ (x ∷ [])) ≡ true
last_here x [] = is_in_here x []
last_here x (z ∷ zs) = is_in_there x z (zs ++ (x ∷ [])) (last_here x zs)

pub last_other : (y x : ℕ) (xs : List ℕ) → (y ≡ x → ⊥) → is_in y (xs ++ (x ∷ [])) ≡ is_in y xs
unfolding is_in
last_other y x [] d = rw (ne_eqb y x d) refl
last_other y x (z ∷ zs) d = ap (λ (b : Bool). eqb y z || b) (last_other y x zs d)

-- what stands at a place of a list is a member
pub is_in_at : (xs : List ℕ) (k : ℕ) → k < length xs → is_in (get_or xs k 0) xs ≡ true
is_in_at [] k h = absurd (omega arith)
is_in_at (x ∷ xs) zero h = is_in_here x xs
is_in_at (x ∷ xs) (suc k) h = is_in_there (get_or xs k 0) x xs (is_in_at xs k (omega arith))

-- a member of the first states of a list is one of the list
pub is_in_take : (k : ℕ) (xs : List ℕ) (x : ℕ) → is_in x (take k xs) ≡ true → is_in x xs ≡ true
is_in_take zero xs x h = absurd (is_in_none x h)
is_in_take (suc k) [] x h = h
is_in_take (suc k) (y ∷ ys) x h =
    ⊎_elim (λ e. rw e (is_in_here y ys)) (λ m. is_in_there x y ys (is_in_take k ys x m)) (is_in_cases x y (take k ys) h)
