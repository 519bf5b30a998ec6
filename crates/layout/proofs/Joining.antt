-- Laws of lists joined, as the layout's are: up to the last that is not empty, with one that differs, and how long they
-- are. Assumes nothing.
use mathlib.Core.Path.{◌≡◌, refl, sym, ap, ap₂, ◌∙◌}
use mathlib.Core.List.{List, [], ◌∷◌, ◌++◌, append-nil}
use Prim.Native.Nat.{ℕ, zero, suc, ◌+◌, ◌-◌, ◌≤◌, ◌<◌}
use native.Mathlib.Nat.{zero-add, add-zero}
use native.Mathlib.Omega.{arith}
use lib.ListN.{length, set, replicate, length-append}
use Rattle.statements.specs.Sets.{joined}
use Rattle.sets.proofs.Joined.{joined_same, joined_none, joined_split, joined_more}
use Rattle.layout.specs.Layout.{total}
use Rattle.layout.proofs.Lengths.{total_append}

-- no list past number v: the lists up to it are all
pub joined_upto : (f : ℕ → List ℕ) (v n : ℕ) → v < n → ((k : ℕ) → v < k → f k ≡ []) → joined n 0 f ≡ joined v 0 f ++ f v
joined_upto f v n h none =
    let all : suc v + (n - suc v) ≡ n = omega arith in
    let past : joined (n - suc v) (0 + suc v) f ≡ [] =
    joined_none f (n - suc v) (0 + suc v) (λ k low high. none k (omega arith)) in
    rw all at (joined_split f (suc v) (n - suc v) 0)
    ∙ ap (λ (l : List ℕ). joined (suc v) 0 f ++ l) past
    ∙ append-nil (joined (suc v) 0 f)
    ∙ rw zero-add at (joined_more f v 0)

-- lists of one number each, of which one differs
pub joined_set : (c d : ℕ → ℕ) (n x v : ℕ) → v < n → ((k : ℕ) → (k ≡ x + v → ⊥) → d k ≡ c k)
    → joined n x (λ k. d k ∷ []) ≡ set (joined n x (λ k. c k ∷ [])) v (d (x + v))
unfolding joined
joined_set c d zero x v h same = absurd (omega arith)
joined_set c d (suc n) x zero h same =
    rw add-zero
    (ap (λ (l : List ℕ). d x ∷ l)
    (joined_same (λ k. d k ∷ []) (λ k. c k ∷ []) n (suc x)
    (λ k low high. ap (λ (m : ℕ). m ∷ []) (same k (λ e. omega arith)))))
joined_set c d (suc n) x (suc v) h same =
    let there : suc x + v ≡ x + suc v = omega arith in
    ap₂ (λ (m : ℕ) (l : List ℕ). m ∷ l) (same x (λ e. omega arith))
    (rw there at (joined_set c d n (suc x) v (omega arith) (λ k e. same k (λ f. e (f ∙ sym there)))))

-- zeros
pub joined_zeros : (n x : ℕ) → joined n x (λ k. 0 ∷ []) ≡ replicate n 0
unfolding joined
joined_zeros zero x = refl
joined_zeros (suc n) x = ap (λ (l : List ℕ). 0 ∷ l) (joined_zeros n (suc x))

-- each list is at most as long as all
pub joined_most : (f : ℕ → List ℕ) (n x v : ℕ) → v < n → length (f (x + v)) ≤ length (joined n x f)
unfolding joined
joined_most f zero x v h = absurd (omega arith)
joined_most f (suc n) x zero h = rw add-zero (omega (arith, length-append (f x) (joined n (suc x) f)))
joined_most f (suc n) x (suc v) h =
    let there : suc x + v ≡ x + suc v = omega arith in
    let rest = rw there at (joined_most f n (suc x) v (omega arith)) in
    omega (arith, length-append (f x) (joined n (suc x) f))

-- lists joined, when the numbers of some are the lengths of others
pub joined_total : (f g : ℕ → List ℕ) → ((k : ℕ) → total (f k) ≡ length (g k)) → (n x : ℕ)
    → total (joined n x f) ≡ length (joined n x g)
unfolding joined total
joined_total f g same zero x = refl
joined_total f g same (suc n) x =
    total_append (f x) (joined n (suc x) f)
    ∙ ap₂ (λ (i j : ℕ). i + j) (same x) (joined_total f g same n (suc x))
    ∙ sym (length-append (g x) (joined n (suc x) g))

-- and when they are as long
pub joined_long : (f g : ℕ → List ℕ) → ((k : ℕ) → length (f k) ≡ length (g k)) → (n x : ℕ)
    → length (joined n x f) ≡ length (joined n x g)
unfolding joined
joined_long f g same zero x = refl
joined_long f g same (suc n) x =
    length-append (f x) (joined n (suc x) f)
    ∙ ap₂ (λ (i j : ℕ). i + j) (same x) (joined_long f g same n (suc x))
    ∙ sym (length-append (g x) (joined n (suc x) g))
