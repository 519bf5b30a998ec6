-- Zeros at listed places: what a turn adds, and what then stands at each place. Assumes nothing.
use mathlib.Core.Path.{◌≡◌, refl, sym, ◌∙◌}
use mathlib.Core.Logic.{⊎_elim}
use mathlib.Core.Bool.{true, false}
use mathlib.Core.List.{List, [], ◌∷◌, ◌++◌}
use Prim.Native.Nat.{ℕ, zero, suc, ◌+◌, ◌≤◌, ◌<◌}
use native.Mathlib.Numerals.{add-one}
use lib.Dec.{eqb}
use lib.ListN.{length, get_or, take, set, length-set}
use lib.Seq.{take-suc, set_out, get_or-set_same, get_or-set_other}
use borrow.Author.Tests.{eqb-false}
use Rattle.statements.specs.Sets.{is_in}
use Rattle.sets.proofs.Tests.{same_number, not_both, or_neither}
use Rattle.sets.proofs.Members.{is_in_cases}
use Rattle.arrays.specs.Lists.{zeroed}

-- one place more at the end
zeroed_last : (xs old : List ℕ) (x : ℕ) → zeroed (xs ++ (x ∷ [])) old ≡ set (zeroed xs old) x 0
unfolding zeroed
zeroed_last [] old x = refl
zeroed_last (y ∷ ys) old x = zeroed_last ys (set old y 0) x

-- a list with zeros is as long as it was
pub zeroed_length : (xs old : List ℕ) → length (zeroed xs old) ≡ length old
unfolding zeroed
zeroed_length [] old = refl
zeroed_length (x ∷ xs) old = zeroed_length xs (set old x 0) ∙ length-set old x 0

-- nothing is written yet
pub mark_none : (old : List ℕ) → old ≡ zeroed [] old
unfolding zeroed
mark_none old = refl

module _ (listed old new : List ℕ) (k : ℕ) (more : k < length listed) (so_far : new ≡ zeroed (take k listed) old) where
  -- the next place is written
  pub mark_yes : set new (get_or listed k 0) 0 ≡ zeroed (take (k + 1) listed) old
  mark_yes = rw (add-one, take-suc listed k 0 more, zeroed_last, so_far)

  -- the next place is beyond the end
  pub mark_no : length new ≤ get_or listed k 0 → new ≡ zeroed (take (k + 1) listed) old
  mark_no h = sym (set_out new (get_or listed k 0) 0 h) ∙ mark_yes

-- a place keeps its 0
zeroed_keeps : (xs old : List ℕ) (x : ℕ) → get_or old x 0 ≡ 0 → get_or (zeroed xs old) x 0 ≡ 0
unfolding zeroed
zeroed_keeps [] old x e = e
zeroed_keeps (y ∷ ys) old x e =
    zeroed_keeps ys (set old y 0) x
    (⊎_elim (λ q. rw q (zero_there old y)) (λ d. get_or-set_other old y x 0 0 d ∙ e) (same_number x y))
  where
    zero_there : (l : List ℕ) (i : ℕ) → get_or (set l i 0) i 0 ≡ 0
    zero_there [] i = refl
    zero_there (z ∷ zs) zero = refl
    zero_there (z ∷ zs) (suc i) = zero_there zs i

-- a listed place holds 0
pub zeroed_in : (xs old : List ℕ) (x : ℕ) → x < length old → is_in x xs ≡ true → get_or (zeroed xs old) x 0 ≡ 0
unfolding zeroed is_in
zeroed_in [] old x h m = absurd (not_both m refl)
zeroed_in (y ∷ ys) old x h m =
    ⊎_elim
    (λ q. zeroed_keeps ys (set old y 0) x (rw q (get_or-set_same old y 0 0 (rw q at h))))
    (λ n. zeroed_in ys (set old y 0) x (rw length-set h) n)
    (is_in_cases x y ys m)

-- any other is as it was
pub zeroed_out : (xs old : List ℕ) (x : ℕ) → is_in x xs ≡ false → get_or (zeroed xs old) x 0 ≡ get_or old x 0
unfolding zeroed is_in
zeroed_out [] old x m = refl
zeroed_out (y ∷ ys) old x m =
    let n = or_neither (eqb x y) (is_in x ys) m in
    zeroed_out ys (set old y 0) x n.1 ∙ get_or-set_other old y x 0 0 (eqb-false x y n.0)
