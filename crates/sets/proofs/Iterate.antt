-- A function on sets applied again and again: growing within a finite set, or shrinking, it stands still after as many
-- steps as that set has members. Assumes nothing.
use mathlib.Core.Path.{◌≡◌, sym, ◌∙◌, ap}
use mathlib.Core.Logic.{◌⊎◌, inl, inr, ⊎_elim}
use mathlib.Core.Bool.{true}
use mathlib.Core.List.{List}
use Prim.Native.Nat.{ℕ, zero, suc, ◌+◌, ◌≤◌, ◌<◌}
use native.Mathlib.Omega.{arith}
use lib.ListN.{length}
use Rattle.statements.specs.Sets.{numbers, iterate, is_in}
use Rattle.sets.proofs.Tests.{same_number}
use Rattle.sets.proofs.Members.{Sifted, filter_longer, filter_as_long, filter_length}
use Rattle.sets.proofs.Members.{sifted_member, length_numbers, numbers_holds}

-- once a step changes nothing no later one does
pub iterate_still : (n m : ℕ) (f : List ℕ → List ℕ) (xs : List ℕ) → f (iterate n f xs) ≡ iterate n f xs → n ≤ m →
    iterate m f xs ≡ iterate n f xs
unfolding iterate
iterate_still n zero f xs e l = ap (λ k. iterate k f xs) (let q : 0 ≡ n = omega arith in q)
iterate_still n (suc m) f xs e l =
    ⊎_elim
    (λ q. ap (λ k. iterate k f xs) (sym q))
    (λ d. ap f (iterate_still n m f xs e (omega arith)) ∙ e)
    (same_number n (suc m))

-- an invariant of the steps
pub iterate_keeps : (P : List ℕ → Type 0) (f : List ℕ → List ℕ) (xs : List ℕ) → P xs →
    ((ys : List ℕ) → P ys → P (f ys)) → (n : ℕ) → P (iterate n f xs)
unfolding iterate
iterate_keeps P f xs b s zero = b
iterate_keeps P f xs b s (suc n) = s (iterate n f xs) (iterate_keeps P f xs b s n)

-- of two lists sifted from one, that with more members is as long or longer, and equal if it is as long
pub sifted_longer : (all ys zs : List ℕ) → Sifted all ys → Sifted all zs →
    ((x : ℕ) → is_in x ys ≡ true → is_in x zs ≡ true) → length ys ≤ length zs
sifted_longer all ys zs s t h =
    let l = filter_longer (λ x. is_in x ys) (λ x. is_in x zs) all (λ x m. h x) in
    omega (arith, ap length s, ap length t)

pub sifted_as_long : (all ys zs : List ℕ) → Sifted all ys → Sifted all zs →
    ((x : ℕ) → is_in x ys ≡ true → is_in x zs ≡ true) → length ys ≡ length zs → ys ≡ zs
sifted_as_long all ys zs s t h l =
    s ∙ filter_as_long (λ x. is_in x ys) (λ x. is_in x zs) all (λ x m. h x) (sym (ap length s) ∙ l ∙ ap length t) ∙
    sym t

pub sifted_length : (all ys : List ℕ) → Sifted all ys → length ys ≤ length all
sifted_length all ys s = omega (arith, ap length s, filter_length (λ x. is_in x ys) all)

-- a set of numbers below n has at most n members, and each is below n
pub sifted_few : (n : ℕ) (ys : List ℕ) → Sifted (numbers n 0) ys → length ys ≤ n
sifted_few n ys s = omega (arith, sifted_length (numbers n 0) ys s, length_numbers n 0)

pub sifted_below : (n : ℕ) (ys : List ℕ) → Sifted (numbers n 0) ys → (x : ℕ) → is_in x ys ≡ true → x < n
sifted_below n ys s x m = omega (arith, numbers_holds n 0 x (sifted_member (numbers n 0) ys s x m))

module _ (all start : List ℕ) (f : List ℕ → List ℕ) (begins : Sifted all start)
    (sifts : (ys : List ℕ) → Sifted all ys → Sifted all (f ys)) where
  pub iterate_sifted : (n : ℕ) → Sifted all (iterate n f start)
  iterate_sifted n = iterate_keeps (Sifted all) f start begins sifts n

  module _ (grows : (n x : ℕ) → is_in x (iterate n f start) ≡ true → is_in x (f (iterate n f start)) ≡ true) where
    grown_same : (n : ℕ) → length (f (iterate n f start)) ≡ length (iterate n f start) →
        f (iterate n f start) ≡ iterate n f start
    grown_same n l =
        let s = iterate_sifted n in
        sym (sifted_as_long all (iterate n f start) (f (iterate n f start)) s (sifts (iterate n f start) s)
        (grows n) (sym l))

    grown_longer : (n : ℕ) → length (iterate n f start) ≤ length (f (iterate n f start))
    grown_longer n =
        let s = iterate_sifted n in
        sifted_longer all (iterate n f start) (f (iterate n f start)) s (sifts (iterate n f start) s)
        (grows n)

    -- each step adds a member until one changes nothing
    growing : (n : ℕ) → (f (iterate n f start) ≡ iterate n f start) ⊎ (n + length start ≤ length (iterate n f start))
    unfolding iterate
    growing zero = inr (omega arith)
    growing (suc n) =
        ⊎_elim
        (λ e. inl (ap f e))
        (λ l. ⊎_elim (λ e. inl (ap f (grown_same n e))) (λ d. inr (omega (arith, grown_longer n)))
        (same_number (length (f (iterate n f start))) (length (iterate n f start))))
        (growing n)

    pub grown_full : (n : ℕ) → length all ≤ n + length start → f (iterate n f start) ≡ iterate n f start
    grown_full n h =
        ⊎_elim
        (λ e. e)
        (λ l. let s = iterate_sifted n in
        let t = sifted_length all (f (iterate n f start)) (sifts (iterate n f start) s) in
        grown_same n (omega (arith, grown_longer n)))
        (growing n)

  module _ (shrinks : (ys : List ℕ) → (x : ℕ) → is_in x (f ys) ≡ true → is_in x ys ≡ true) where
    shrunk_same : (n : ℕ) → length (f (iterate n f start)) ≡ length (iterate n f start) →
        f (iterate n f start) ≡ iterate n f start
    shrunk_same n l =
        let s = iterate_sifted n in
        sifted_as_long all (f (iterate n f start)) (iterate n f start) (sifts (iterate n f start) s) s
        (shrinks (iterate n f start)) l

    shrunk_shorter : (n : ℕ) → length (f (iterate n f start)) ≤ length (iterate n f start)
    shrunk_shorter n =
        let s = iterate_sifted n in
        sifted_longer all (f (iterate n f start)) (iterate n f start) (sifts (iterate n f start) s) s
        (shrinks (iterate n f start))

    -- each step takes a member away until one changes nothing
    shrinking : (n : ℕ) →
        (f (iterate n f start) ≡ iterate n f start) ⊎ (n + length (iterate n f start) ≤ length start)
    unfolding iterate
    shrinking zero = inr (omega arith)
    shrinking (suc n) =
        ⊎_elim
        (λ e. inl (ap f e))
        (λ l. ⊎_elim (λ e. inl (ap f (shrunk_same n e))) (λ d. inr (omega (arith, shrunk_shorter n)))
        (same_number (length (f (iterate n f start))) (length (iterate n f start))))
        (shrinking n)

    pub shrunk_full : (n : ℕ) → length start ≤ n → f (iterate n f start) ≡ iterate n f start
    shrunk_full n h =
        ⊎_elim
        (λ e. e)
        (λ l. shrunk_same n (omega (arith, shrunk_shorter n)))
        (shrinking n)
