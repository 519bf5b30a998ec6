-- Laws of `joined`, lists put one after the other: lists of one size, where most are empty or the same, and the first
-- ones. Assumes nothing.
use mathlib.Core.Path.{◌≡◌, refl, ap, ap₂, ◌∙◌}
use mathlib.Core.Logic.{⊎_elim}
use mathlib.Core.List.{List, [], ◌∷◌, ◌++◌, append_assoc, append-nil}
use Prim.Native.Nat.{ℕ, zero, suc, ◌+◌, ◌-◌, ◌*◌, ◌≤◌, ◌<◌}
use native.Mathlib.Omega.{arith}
use native.Mathlib.Nat.{zero-mul, add-zero, zero-add, suc-add, suc-sub-suc, sub-zero}
use lib.ListN.{length, get_or, drop, length-append}
use lib.Seq.{drop-append-add}
use Rattle.statements.specs.Sets.{joined}
use Rattle.sets.proofs.Tests.{same_number}

module _ (part : ℕ → List ℕ) (size : ℕ) (sized : (k : ℕ) → length (part k) ≡ size) where
  pub joined_length : (n x : ℕ) → length (joined n x part) ≡ n * size
  unfolding joined
  joined_length zero x = omega arith
  joined_length (suc n) x = simp (length-append, sized, joined_length n (suc x)) (omega arith)

  -- from the multiple j of the size on stand the parts from number x + j on
  pub joined_drop : (n x j : ℕ) → j < n
      → drop (j * size) (joined n x part) ≡ part (x + j) ++ joined (n - suc j) (suc (x + j)) part
  unfolding joined
  joined_drop zero x j h = absurd (omega arith)
  joined_drop (suc n) x zero h = rw (zero-mul, add-zero, suc-sub-suc, sub-zero)
  joined_drop (suc n) x (suc j) h =
      let past : suc j * size ≡ length (part x) + j * size = omega (arith, sized x) in
      let there : x + suc j ≡ suc x + j = omega arith in
      rw (past, drop-append-add, joined_drop n (suc x) j (omega arith), there, suc-sub-suc)

pub append_bytes : (xs ys : List ℕ) → ((k : ℕ) → get_or xs k 0 < 256) → ((k : ℕ) → get_or ys k 0 < 256) → (k : ℕ)
    → get_or (xs ++ ys) k 0 < 256
append_bytes [] ys hx hy k = hy k
append_bytes (x ∷ xs) ys hx hy zero = hx 0
append_bytes (x ∷ xs) ys hx hy (suc k) = append_bytes xs ys (λ j. hx (suc j)) hy k

-- every byte fits where the bytes of the parts in range do
pub joined_bytes : (part : ℕ → List ℕ) (n x : ℕ)
    → ((k : ℕ) → x ≤ k → k < x + n → (j : ℕ) → get_or (part k) j 0 < 256) → (j : ℕ)
    → get_or (joined n x part) j 0 < 256
unfolding joined
joined_bytes part zero x small j = omega arith
joined_bytes part (suc n) x small j =
    append_bytes (part x) (joined n (suc x) part) (small x (omega arith) (omega arith))
    (joined_bytes part n (suc x) (λ k low high. small k (omega arith) (omega arith))) j

-- the same lists joined
pub joined_same : (f g : ℕ → List ℕ) (n x : ℕ) → ((k : ℕ) → x ≤ k → k < x + n → f k ≡ g k)
    → joined n x f ≡ joined n x g
unfolding joined
joined_same f g zero x same = refl
joined_same f g (suc n) x same =
    ap₂ (λ (xs ys : List ℕ). xs ++ ys) (same x (omega arith) (omega arith))
    (joined_same f g n (suc x) (λ k low high. same k (omega arith) (omega arith)))

-- empty lists joined
pub joined_none : (f : ℕ → List ℕ) (n x : ℕ) → ((k : ℕ) → x ≤ k → k < x + n → f k ≡ []) → joined n x f ≡ []
unfolding joined
joined_none f zero x none = refl
joined_none f (suc n) x none =
    rw (none x (omega arith) (omega arith)) (joined_none f n (suc x) (λ k low high. none k (omega arith) (omega arith)))

-- the first list that is not empty comes first
pub joined_first : (f g : ℕ → List ℕ) (v n x : ℕ) → x ≤ v → v < x + n → ((k : ℕ) → k < v → f k ≡ [])
    → ((k : ℕ) → k < v → g k ≡ []) → g v ≡ [] → ((k : ℕ) → v < k → k < x + n → f k ≡ g k)
    → joined n x f ≡ f v ++ joined n x g
unfolding joined
joined_first f g v zero x low high before before' none after = absurd (omega arith)
joined_first f g v (suc n) x low high before before' none after =
    ⊎_elim
    (λ e.
    let here : g x ≡ [] = rw e none in
    let others = joined_same f g n (suc x) (λ k l h. after k (omega arith) (omega arith)) in
    rw here (ap₂ (λ (xs ys : List ℕ). xs ++ ys) (ap f e) others))
    (λ d.
    rw (before x (omega arith), before' x (omega arith))
    (joined_first f g v n (suc x) (omega arith) (omega arith) before before' none
    (λ k l h. after k l (omega arith))))
    (same_number x v)

-- a list that is longer makes the whole no longer than by as much
pub joined_longer : (f g : ℕ → List ℕ) (v d : ℕ) → ((k : ℕ) → (k ≡ v → ⊥) → f k ≡ g k)
    → length (f v) ≤ length (g v) + d → (n x : ℕ) → length (joined n x f) ≤ length (joined n x g) + d
unfolding joined
joined_longer f g v d same longer zero x = omega arith
joined_longer f g v d same longer (suc n) x =
    rw (length-append (f x) (joined n (suc x) f), length-append (g x) (joined n (suc x) g))
    (⊎_elim
    (λ e.
    let others = ap length (joined_same f g n (suc x) (λ k low high. same k (omega arith))) in
    let here : length (f x) ≤ length (g x) + d = rw e longer in
    omega arith)
    (λ e.
    let others = joined_longer f g v d same longer n (suc x) in
    let here = ap length (same x e) in
    omega arith)
    (same_number x v))

-- one that is longer by one makes the whole longer by one
pub joined_one_more : (f g : ℕ → List ℕ) (v : ℕ) → ((k : ℕ) → (k ≡ v → ⊥) → f k ≡ g k)
    → length (f v) ≡ suc (length (g v)) → (n x : ℕ) → x ≤ v → v < x + n
    → length (joined n x f) ≡ suc (length (joined n x g))
unfolding joined
joined_one_more f g v same longer zero x low high = absurd (omega arith)
joined_one_more f g v same longer (suc n) x low high =
    rw (length-append (f x) (joined n (suc x) f), length-append (g x) (joined n (suc x) g))
    (⊎_elim
    (λ e.
    let others = ap length (joined_same f g n (suc x) (λ k low high. same k (omega arith))) in
    let here : length (f x) ≡ suc (length (g x)) = rw e longer in
    omega arith)
    (λ e.
    let others = joined_one_more f g v same longer n (suc x) (omega arith) (omega arith) in
    let here = ap length (same x e) in
    omega arith)
    (same_number x v))

-- the first n lists, and the rest
pub joined_split : (f : ℕ → List ℕ) (n m x : ℕ) → joined (n + m) x f ≡ joined n x f ++ joined m (x + n) f
unfolding joined
joined_split f zero m x = rw (zero-add, add-zero)
joined_split f (suc n) m x =
    let there : suc x + n ≡ x + suc n = omega arith in
    rw (suc-add, append_assoc) (ap (λ (ys : List ℕ). f x ++ ys) (rw there at (joined_split f n m (suc x))))

-- one list more
pub joined_more : (f : ℕ → List ℕ) (n x : ℕ) → joined (suc n) x f ≡ joined n x f ++ f (x + n)
unfolding joined
joined_more f zero x = rw (add-zero, append-nil)
joined_more f (suc n) x =
    let there : suc x + n ≡ x + suc n = omega arith in
    rw append_assoc (ap (λ (ys : List ℕ). f x ++ ys) (rw there at (joined_more f n (suc x))))

-- lists of one number each
pub joined_at : (f : ℕ → ℕ) (n x j : ℕ) → j < n → get_or (joined n x (λ k. f k ∷ [])) j 0 ≡ f (x + j)
unfolding joined
joined_at f zero x j h = absurd (omega arith)
joined_at f (suc n) x zero h = rw add-zero
joined_at f (suc n) x (suc j) h =
    let there : suc x + j ≡ x + suc j = omega arith in
    joined_at f n (suc x) j (omega arith) ∙ ap f there
