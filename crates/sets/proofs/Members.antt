-- Members of lists, of filters and of runs of numbers; two filters of one list with the same members are equal.
-- Assumes nothing.
use mathlib.Core.Path.{◌≡◌, refl, sym, ◌∙◌, ap}
use mathlib.Core.Logic.{◌⊎◌, inl, inr, ⊎_elim}
use mathlib.Core.Bool.{Bool, true, false, ◌&&◌, not}
use mathlib.Core.List.{List, [], ◌∷◌, ◌++◌}
use Prim.Native.Nat.{ℕ, zero, suc, ◌+◌, ◌≤◌, ◌<◌}
use native.Mathlib.Nat.{add-zero, zero-add}
use native.Mathlib.Numerals.{add-one}
use native.Mathlib.Omega.{arith}
use lib.Dec.{eqb}
use lib.ListN.{length}
use borrow.Author.Tests.{eqb-true, eq-eqb}
use Rattle.statements.specs.Sets.{numbers, is_in, all_in, cons_if, filter}
use Rattle.sets.proofs.Tests.{decided, same_number, not_both, and_true, and_left, and_right, and_false}
use Rattle.sets.proofs.Tests.{or_left, or_right, or_cases, same_test}

-- a member of a list, and of its rest
pub is_in_here : (x : ℕ) (xs : List ℕ) → is_in x (x ∷ xs) ≡ true
unfolding is_in
is_in_here x xs = or_left (eqb x x) (is_in x xs) (eq-eqb x x refl)

pub is_in_there : (x y : ℕ) (xs : List ℕ) → is_in x xs ≡ true → is_in x (y ∷ xs) ≡ true
unfolding is_in
is_in_there x y xs h = or_right (eqb x y) (is_in x xs) h

pub is_in_cases : (x y : ℕ) (xs : List ℕ) → is_in x (y ∷ xs) ≡ true → (x ≡ y) ⊎ (is_in x xs ≡ true)
unfolding is_in
is_in_cases x y xs h = ⊎_elim (λ e. inl (eqb-true x y e)) (λ e. inr e) (or_cases (eqb x y) (is_in x xs) h)

pub is_in_none : (x : ℕ) → is_in x [] ≡ true → ⊥
unfolding is_in
is_in_none x h = not_both h refl

-- inclusion, member by member
pub all_in_at : (xs ys : List ℕ) → all_in xs ys ≡ true → (x : ℕ) → is_in x xs ≡ true → is_in x ys ≡ true
unfolding all_in
all_in_at [] ys h x m = absurd (is_in_none x m)
all_in_at (z ∷ xs) ys h x m =
    ⊎_elim (λ e. rw e (and_left (is_in z ys) (all_in xs ys) h))
    (λ n. all_in_at xs ys (and_right (is_in z ys) (all_in xs ys) h) x n)
    (is_in_cases x z xs m)

pub all_in_all : (xs ys : List ℕ) → ((x : ℕ) → is_in x xs ≡ true → is_in x ys ≡ true) → all_in xs ys ≡ true
unfolding all_in
all_in_all [] ys f = refl
all_in_all (z ∷ xs) ys f =
    and_true (f z (is_in_here z xs)) (all_in_all xs ys (λ x m. f x (is_in_there x z xs m)))

-- where inclusion fails, a member of the one that the other lacks
pub all_in_fails : (xs ys : List ℕ) → all_in xs ys ≡ false → (x : ℕ) × (is_in x xs ≡ true) × (is_in x ys ≡ false)
unfolding all_in
all_in_fails [] ys h = absurd (not_both refl h)
all_in_fails (z ∷ xs) ys h =
    ⊎_elim
    (λ e. let r = all_in_fails xs ys (and_false (is_in z ys) (all_in xs ys) h e) in
    (r.0, is_in_there r.0 z xs r.1, r.2))
    (λ e. (z, is_in_here z xs, e))
    (decided (is_in z ys))

-- a member of a filter is a member at which the test holds
pub is_in_cons_if : (b : Bool) (y x : ℕ) (xs : List ℕ) → is_in y (cons_if b x xs) ≡ true →
    ((y ≡ x) × (b ≡ true)) ⊎ (is_in y xs ≡ true)
is_in_cons_if true y x xs h = ⊎_elim (λ e. inl (e, refl)) (λ m. inr m) (is_in_cases y x xs h)
is_in_cons_if false y x xs h = inr h

cons_if_here : (b : Bool) (x : ℕ) (xs : List ℕ) → b ≡ true → is_in x (cons_if b x xs) ≡ true
cons_if_here true x xs h = is_in_here x xs
cons_if_here false x xs h = absurd (not_both h refl)

cons_if_there : (b : Bool) (y x : ℕ) (xs : List ℕ) → is_in y xs ≡ true → is_in y (cons_if b x xs) ≡ true
cons_if_there true y x xs h = is_in_there y x xs h
cons_if_there false y x xs h = h

pub filter_holds : (f : ℕ → Bool) (xs : List ℕ) (y : ℕ) → is_in y (filter f xs) ≡ true →
    (is_in y xs ≡ true) × (f y ≡ true)
unfolding filter
filter_holds f [] y h = absurd (is_in_none y h)
filter_holds f (x ∷ xs) y h =
    ⊎_elim
    (λ e. (rw e.0 (is_in_here x xs), rw e.0 e.1))
    (λ m. let r = filter_holds f xs y m in (is_in_there y x xs r.0, r.1))
    (is_in_cons_if (f x) y x (filter f xs) h)

pub filter_in : (f : ℕ → Bool) (xs : List ℕ) (y : ℕ) → is_in y xs ≡ true → f y ≡ true → is_in y (filter f xs) ≡ true
unfolding filter
filter_in f [] y h t = absurd (is_in_none y h)
filter_in f (x ∷ xs) y h t =
    ⊎_elim
    (λ e. rw e (cons_if_here (f x) x (filter f xs) (rw e at t)))
    (λ m. cons_if_there (f x) y x (filter f xs) (filter_in f xs y m t))
    (is_in_cases y x xs h)

-- of a member of the list, membership of the filter is the test
pub filter_test : (f : ℕ → Bool) (xs : List ℕ) (y : ℕ) → is_in y xs ≡ true → is_in y (filter f xs) ≡ f y
filter_test f xs y h =
    same_test (is_in y (filter f xs)) (f y) (λ m. (filter_holds f xs y m).1) (λ t. filter_in f xs y h t)

-- tests that agree on the members give one filter
pub filter_same : (f g : ℕ → Bool) (xs : List ℕ) → ((x : ℕ) → is_in x xs ≡ true → f x ≡ g x) →
    filter f xs ≡ filter g xs
unfolding filter
filter_same f g [] h = refl
filter_same f g (x ∷ xs) h =
    rw (h x (is_in_here x xs), filter_same f g xs (λ y m. h y (is_in_there y x xs m))) refl

-- a filter of a filter
cons_if_filter : (b : Bool) (f : ℕ → Bool) (x : ℕ) (ys zs : List ℕ) → filter f ys ≡ zs →
    filter f (cons_if b x ys) ≡ cons_if (b && f x) x zs
unfolding filter
cons_if_filter true f x ys zs h = rw h refl
cons_if_filter false f x ys zs h = h

pub filter_filter : (f g : ℕ → Bool) (xs : List ℕ) → filter f (filter g xs) ≡ filter (λ x. g x && f x) xs
unfolding filter
filter_filter f g [] = refl
filter_filter f g (x ∷ xs) =
    cons_if_filter (g x) f x (filter g xs) (filter (λ y. g y && f y) xs) (filter_filter f g xs)

-- a list that is a filter of another, so that its members determine it
abbrev pub Sifted : List ℕ → List ℕ → Type 0
Sifted all ys = ys ≡ filter (λ x. is_in x ys) all

pub sifted_filter : (f : ℕ → Bool) (all : List ℕ) → Sifted all (filter f all)
sifted_filter f all = filter_same f (λ x. is_in x (filter f all)) all (λ x m. sym (filter_test f all x m))

pub sifted_member : (all ys : List ℕ) → Sifted all ys → (x : ℕ) → is_in x ys ≡ true → is_in x all ≡ true
sifted_member all ys s x m = (filter_holds (λ y. is_in y ys) all x (rw s at m)).0

pub sifted_same : (all ys zs : List ℕ) → Sifted all ys → Sifted all zs →
    ((x : ℕ) → is_in x ys ≡ true → is_in x zs ≡ true) → ((x : ℕ) → is_in x zs ≡ true → is_in x ys ≡ true) → ys ≡ zs
sifted_same all ys zs s t f g =
    s ∙ filter_same (λ x. is_in x ys) (λ x. is_in x zs) all (λ x m. same_test (is_in x ys) (is_in x zs) (f x) (g x)) ∙
    sym t

-- a filter of a sifted list is sifted
pub sifted_sub : (f : ℕ → Bool) (all ys : List ℕ) → Sifted all ys → Sifted all (filter f ys)
sifted_sub f all ys s =
    let e : filter f ys ≡ filter (λ x. is_in x ys && f x) all =
    ap (filter f) s ∙ filter_filter f (λ x. is_in x ys) all in
    let k = sifted_filter (λ x. is_in x ys && f x) all in
    e ∙ k ∙ filter_same (λ x. is_in x (filter (λ y. is_in y ys && f y) all)) (λ x. is_in x (filter f ys)) all
    (λ x m. ap (is_in x) (sym e))

-- a filter with more members is as long or longer, and equal if it is as long
cons_if_longer : (a b : Bool) (x : ℕ) (ys zs : List ℕ) → (a ≡ true → b ≡ true) → length ys ≤ length zs →
    length (cons_if a x ys) ≤ length (cons_if b x zs)
cons_if_longer true true x ys zs h l = omega arith
cons_if_longer true false x ys zs h l = absurd (not_both (h refl) refl)
cons_if_longer false true x ys zs h l = omega arith
cons_if_longer false false x ys zs h l = l

pub filter_longer : (f g : ℕ → Bool) (xs : List ℕ) → ((x : ℕ) → is_in x xs ≡ true → f x ≡ true → g x ≡ true) →
    length (filter f xs) ≤ length (filter g xs)
unfolding filter
filter_longer f g [] h = omega arith
filter_longer f g (x ∷ xs) h =
    cons_if_longer (f x) (g x) x (filter f xs) (filter g xs) (h x (is_in_here x xs))
    (filter_longer f g xs (λ y m. h y (is_in_there y x xs m)))

pub filter_length : (f : ℕ → Bool) (xs : List ℕ) → length (filter f xs) ≤ length xs
unfolding filter
filter_length f [] = omega arith
filter_length f (x ∷ xs) = shorter (f x) (filter_length f xs)
  where
    shorter : (b : Bool) → length (filter f xs) ≤ length xs → length (cons_if b x (filter f xs)) ≤ length (x ∷ xs)
    shorter true l = omega arith
    shorter false l = omega arith

-- those at which a test holds and those at which it fails are together all
pub filter_parts : (f : ℕ → Bool) (xs : List ℕ)
    → length (filter f xs) + length (filter (λ x. not (f x)) xs) ≡ length xs
unfolding filter
filter_parts f [] = refl
filter_parts f (x ∷ xs) =
    elim (decided (f x)) [
      | inl h ↦ rw h (omega (arith, filter_parts f xs))
      | inr h ↦ rw h (omega (arith, filter_parts f xs))
    ]

cons_if_as_long : (a b : Bool) (x : ℕ) (ys zs : List ℕ) → (a ≡ true → b ≡ true) → length ys ≤ length zs →
    (length ys ≡ length zs → ys ≡ zs) → length (cons_if a x ys) ≡ length (cons_if b x zs) →
    cons_if a x ys ≡ cons_if b x zs
cons_if_as_long true true x ys zs k l rec e =
    let d : length ys ≡ length zs = omega arith in
    ap (λ ws. x ∷ ws) (rec d)
cons_if_as_long true false x ys zs k l rec e = absurd (not_both (k refl) refl)
cons_if_as_long false true x ys zs k l rec e = absurd (omega arith)
cons_if_as_long false false x ys zs k l rec e = rec e

pub filter_as_long : (f g : ℕ → Bool) (xs : List ℕ) → ((x : ℕ) → is_in x xs ≡ true → f x ≡ true → g x ≡ true) →
    length (filter f xs) ≡ length (filter g xs) → filter f xs ≡ filter g xs
unfolding filter
filter_as_long f g [] h l = refl
filter_as_long f g (x ∷ xs) h l =
    let rest : (y : ℕ) → is_in y xs ≡ true → f y ≡ true → g y ≡ true = λ y m. h y (is_in_there y x xs m) in
    cons_if_as_long (f x) (g x) x (filter f xs) (filter g xs) (h x (is_in_here x xs)) (filter_longer f g xs rest)
    (filter_as_long f g xs rest) l

-- runs of numbers
pub length_numbers : (n x : ℕ) → length (numbers n x) ≡ n
unfolding numbers
length_numbers zero x = refl
length_numbers (suc n) x = ap suc (length_numbers n (suc x))

pub numbers_holds : (n x k : ℕ) → is_in k (numbers n x) ≡ true → (x ≤ k) × (k < x + n)
unfolding numbers
numbers_holds zero x k h = absurd (is_in_none k h)
numbers_holds (suc n) x k h =
    ⊎_elim (λ e. omega arith) (λ m. let r = numbers_holds n (suc x) k m in omega arith)
    (is_in_cases k x (numbers n (suc x)) h)

pub numbers_in_lem : (n x k : ℕ) → x ≤ k → k < x + n → is_in k (numbers n x) ≡ true
unfolding numbers
numbers_in_lem zero x k l h = absurd (omega arith)
numbers_in_lem (suc n) x k l h =
    ⊎_elim
    (λ e. rw e (is_in_here x (numbers n (suc x))))
    (λ d. is_in_there k x (numbers n (suc x)) (numbers_in_lem n (suc x) k (omega arith) (omega arith)))
    (same_number k x)

-- the numbers of a range with one more, and the same as a loop counts
pub numbers_snoc : (n x : ℕ) → numbers (suc n) x ≡ numbers n x ++ ((x + n) ∷ [])
unfolding numbers
numbers_snoc zero x = rw add-zero
numbers_snoc (suc n) x =
    let next : suc x + n ≡ x + suc n = omega arith in
    ap (λ (ys : List ℕ). x ∷ ys) (numbers_snoc n (suc x) ∙ rw next)

pub numbers_more : (n : ℕ) → numbers (n + 1) 0 ≡ numbers n 0 ++ (n ∷ [])
numbers_more n = rw (add-one n, numbers_snoc n 0, zero-add)

-- a filter of two lists, one after the other, and of a list with one number more
cons_if_append : (b : Bool) (x : ℕ) (xs ys : List ℕ) → cons_if b x (xs ++ ys) ≡ cons_if b x xs ++ ys
cons_if_append true x xs ys = refl
cons_if_append false x xs ys = refl

filter_append : (f : ℕ → Bool) (xs ys : List ℕ) → filter f (xs ++ ys) ≡ filter f xs ++ filter f ys
unfolding filter
filter_append f [] ys = refl
filter_append f (x ∷ xs) ys =
    ap (cons_if (f x) x) (filter_append f xs ys) ∙ cons_if_append (f x) x (filter f xs) (filter f ys)

pub filter_snoc : (f : ℕ → Bool) (xs : List ℕ) (x : ℕ) → filter f (xs ++ (x ∷ [])) ≡ filter f xs ++ cons_if (f x) x []
unfolding filter
filter_snoc f xs x = filter_append f xs (x ∷ [])
