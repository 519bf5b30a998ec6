-- Numbers written over the first of a list, and stored one after another from a place on. Assumes nothing.
use mathlib.Core.Path.{◌≡◌, refl, sym, ap, ◌∙◌}
use mathlib.Core.List.{List, [], ◌∷◌, ◌++◌}
use Prim.Native.Nat.{ℕ, suc, ◌+◌, ◌-◌, ◌≤◌, ◌<◌}
use native.Mathlib.Nat.{add-zero, zero-add}
use native.Mathlib.Numerals.{add-one}
use native.Mathlib.Omega.{arith}
use lib.ListN.{length, get_or, take, drop, set, length-append, length-drop, get_or-append}
use lib.Seq.{sets, sets-eq, set_at, set_comm, take-append_seam, drop-append-add, drop-drop, drop-cons, append_snoc}
use lib.Seq.{get_or-append-add, get_or-drop, take-suc, length-take-le}
use Rattle.statements.specs.Sets.{over}

-- nothing is written yet
pub over_none : (old : List ℕ) → old ≡ over [] old
unfolding over
over_none old = refl

-- the list is as long as it was
pub over_length : (xs old : List ℕ) → length xs ≤ length old → length (over xs old) ≡ length old
unfolding over
over_length xs old h = simp (length-append, length-drop) (omega arith)

-- what is written is read back
pub over_back : (xs old : List ℕ) (n : ℕ) → n ≡ length xs → take n (over xs old) ≡ xs
unfolding over
over_back xs old n e = rw e (take-append_seam xs (drop (length xs) old))

-- one by one
pub over_first : (xs old : List ℕ) (k : ℕ) → k < length xs → get_or (over xs old) k 0 ≡ get_or xs k 0
unfolding over
over_first xs old k h = get_or-append xs (drop (length xs) old) 0 k h

-- past it the list is as it was
pub over_at_lem : (xs old : List ℕ) (k : ℕ) → length xs ≤ k → get_or (over xs old) k 0 ≡ get_or old k 0
unfolding over
over_at_lem xs old k h =
    let e : k ≡ length xs + (k - length xs) = omega arith in
    ap (λ (j : ℕ). get_or (xs ++ drop (length xs) old) j 0) e
    ∙ get_or-append-add xs (drop (length xs) old) (k - length xs) 0
    ∙ get_or-drop (length xs) old (k - length xs) 0
    ∙ ap (λ (j : ℕ). get_or old j 0) (sym e)

-- one number more is written
pub over_one : (xs old : List ℕ) (x : ℕ) → length xs < length old
    → set (over xs old) (length xs) x ≡ over (xs ++ (x ∷ [])) old
unfolding over
over_one xs old x h =
    let n : length (xs ++ (x ∷ [])) ≡ suc (length xs) = length-append xs (x ∷ []) ∙ add-one (length xs) in
    rw (n, drop-cons old (length xs) 0, set_at xs _ _ x (length xs) refl, append_snoc)

-- several numbers more
pub over_more : (xs ys old : List ℕ) → length xs + length ys ≤ length old
    → sets (over xs old) (length xs) ys ≡ over (xs ++ ys) old
unfolding over
over_more xs ys old h =
    let short : length xs ≤ length old = omega arith in
    let fits : length xs + length ys ≤ length (over xs old) = rw over_length h in
    sets-eq ys (over xs old) (length xs) fits
    ∙ rw (take-append_seam xs, drop-append-add xs, drop-drop, length-append)

-- a list copied to the front of another, number by number: one more
pub copy_more : (from old new : List ℕ) (k : ℕ) → k < length from → length from ≤ length old
    → new ≡ over (take k from) old → set new k (get_or from k 0) ≡ over (take (k + 1) from) old
copy_more from old new k h room e =
    let n : length (take k from) ≡ k = length-take-le k from (omega arith) in
    let more = over_one (take k from) old (get_or from k 0) (omega arith) in
    rw (e, add-one, take-suc from k 0 h) (rw n at more)

-- stored after others
pub sets_append : (l : List ℕ) (at : ℕ) (xs ys : List ℕ)
    → sets (sets l at xs) (at + length xs) ys ≡ sets l at (xs ++ ys)
sets_append l at [] ys = rw add-zero
sets_append l at (x ∷ xs) ys =
    let there : at + length (x ∷ xs) ≡ suc at + length xs = omega arith in
    rw there (sets_append (set l at x) (suc at) xs ys)

-- a number stored before them
pub sets_before : (l : List ℕ) (at : ℕ) (xs : List ℕ) (i v : ℕ) → i < at
    → set (sets l at xs) i v ≡ sets (set l i v) at xs
sets_before l at [] i v h = refl
sets_before l at (x ∷ xs) i v h =
    sets_before (set l at x) (suc at) xs i v (omega arith)
    ∙ ap (λ (k : List ℕ). sets k (suc at) xs) (set_comm l at i x v (λ e. omega arith))

-- stored from the first place on
pub sets_over : (xs l : List ℕ) → length xs ≤ length l → sets l 0 xs ≡ over xs l
unfolding over
sets_over xs l h =
    let fits : 0 + length xs ≤ length l = omega arith in
    rw zero-add at (sets-eq xs l 0 fits)
