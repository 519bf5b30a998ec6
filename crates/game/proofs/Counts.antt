-- How many numbers of a run pass a test, and where a test of all of them fails. Assumes nothing.
use mathlib.Core.Path.{◌≡◌, refl, ap, sym, ◌∙◌}
use mathlib.Core.Bool.{Bool, true, false, ◌||◌, ◌&&◌, not}
use mathlib.Core.List.{List, [], ◌∷◌, ◌++◌}
use mathlib.Core.Logic.{⊎_elim, ◌⊎◌, inl, inr}
use Prim.Native.Nat.{ℕ, zero, suc, ◌+◌, ◌<◌, ◌≤◌}
use native.Mathlib.Omega.{arith}
use native.Mathlib.Nat.{eq-or-lt_of_le}
use borrow.Author.Tests.{eq-eqb, ne_eqb, eqb-true, ltb-true, ltb-false}
use lib.Dec.{eqb, ltb}
use lib.ListN.{length, get_or, take}
use Rattle.statements.specs.Sets.{numbers, is_in, filter, cons_if}
use Rattle.sets.proofs.Tests.{decided, same_number, not_both, or_right, or_cases, or_left}
use Rattle.sets.proofs.Members.{filter_same, filter_length, length_numbers, numbers_holds}

-- tests taken apart
pub lt_or_le : (a b : ℕ) → (a < b) ⊎ (b ≤ a)
lt_or_le a b = ⊎_elim (λ e. inl (ltb-true a b e)) (λ e. inr (ltb-false a b e)) (decided (ltb a b))

pub or_false : (a : Bool) → (a || false) ≡ a
or_false true = refl
or_false false = refl

pub or_true : (a : Bool) → (a || true) ≡ true
or_true true = refl
or_true false = refl

pub and_off : (a : Bool) → (a && false) ≡ false
and_off true = refl
and_off false = refl

pub and_on : (a : Bool) → (a && true) ≡ a
and_on true = refl
and_on false = refl

-- tests that agree on the run
pub count_same : (n : ℕ) (f g : ℕ → Bool) → ((y : ℕ) → y < n → f y ≡ g y)
    → filter f (numbers n 0) ≡ filter g (numbers n 0)
count_same n f g h = filter_same f g (numbers n 0) (λ y m. h y (let r = numbers_holds n 0 y m in omega arith))

-- no more than the run has
pub count_most : (n : ℕ) (f : ℕ → Bool) → length (filter f (numbers n 0)) ≤ n
count_most n f = omega (arith, filter_length f (numbers n 0), length_numbers n 0)

-- a test that holds at one number more
flip_from : (n x y : ℕ) (f g : ℕ → Bool) → x ≤ y → y < x + n → f y ≡ true → g y ≡ false
    → ((z : ℕ) → x ≤ z → z < x + n → (z ≡ y → ⊥) → g z ≡ f z)
    → length (filter f (numbers n x)) ≡ suc (length (filter g (numbers n x)))
unfolding filter numbers
flip_from zero x y f g l h t u e = absurd (omega arith)
flip_from (suc n) x y f g l h t u e =
    ⊎_elim
    (λ q.
    let yes : f x ≡ true = ap f q ∙ t in
    let no : g x ≡ false = ap g q ∙ u in
    let same =
    filter_same g f (numbers n (suc x))
    (λ z m. let r = numbers_holds n (suc x) z m in e z (omega arith) (omega arith) (λ d. omega arith)) in
    rw (yes, no) (ap suc (ap length (sym same))))
    (λ q.
    let rest = flip_from n (suc x) y f g q (omega arith) t u (λ z i j. e z (omega arith) (omega arith)) in
    rw (e x (omega arith) (omega arith) (λ d. omega arith)) (longer (f x) rest))
    (eq-or-lt_of_le l)
  where
    longer : (b : Bool) → length (filter f (numbers n (suc x))) ≡ suc (length (filter g (numbers n (suc x))))
        → length (cons_if b x (filter f (numbers n (suc x)))) ≡ suc (length (cons_if b x (filter g (numbers n (suc x)))))
    longer true h = ap suc h
    longer false h = h

pub count_flip : (n y : ℕ) (f g : ℕ → Bool) → y < n → f y ≡ true → g y ≡ false
    → ((z : ℕ) → z < n → (z ≡ y → ⊥) → g z ≡ f z)
    → length (filter f (numbers n 0)) ≡ suc (length (filter g (numbers n 0)))
count_flip n y f g h t u e = flip_from n 0 y f g (omega arith) (omega arith) t u (λ z l k. e z (omega arith))

-- a number at which the test fails leaves room
pub count_short : (n y : ℕ) (f : ℕ → Bool) → y < n → f y ≡ false → length (filter f (numbers n 0)) < n
count_short n y f h e =
    let more =
    count_flip n y (λ (z : ℕ). f z || eqb z y) f h (or_right (f y) (eqb y y) (eq-eqb y y refl)) e
    (λ z i d. sym (ap (λ (b : Bool). f z || b) (ne_eqb z y d) ∙ or_false (f z))) in
    omega (arith, more, count_most n (λ (z : ℕ). f z || eqb z y))

-- where none passes the test fails at each
pub count_zero : (n : ℕ) (f : ℕ → Bool) → length (filter f (numbers n 0)) ≡ 0 → (y : ℕ) → y < n → f y ≡ false
count_zero n f e y h =
    ⊎_elim
    (λ t.
    let others =
    count_flip n y f (λ (z : ℕ). f z && not (eqb z y)) h t
    (ap (λ (b : Bool). f y && not b) (eq-eqb y y refl) ∙ and_off (f y))
    (λ z i d. ap (λ (b : Bool). f z && not b) (ne_eqb z y d) ∙ and_on (f z)) in
    absurd (omega arith))
    (λ t. t)
    (decided (f y))

pub count_none : (n : ℕ) (f : ℕ → Bool) → ((y : ℕ) → y < n → f y ≡ false) → length (filter f (numbers n 0)) ≡ 0
unfolding filter
count_none n f h = ap length (count_same n f (λ (y : ℕ). false) h ∙ nothing (numbers n 0))
  where
    nothing : (xs : List ℕ) → filter (λ (y : ℕ). false) xs ≡ []
    nothing [] = refl
    nothing (x ∷ xs) = nothing xs

-- a test holds at all numbers below r, or fails at one
pub search_all : (r : ℕ) (test : ℕ → Bool)
    → ((j : ℕ) → j < r → test j ≡ true) ⊎ ((j : ℕ) × ((j < r) × (test j ≡ false)))
search_all zero test = inl (λ j h. absurd (omega arith))
search_all (suc r) test =
    ⊎_elim
    (λ f.
    ⊎_elim
    (λ e. inl (λ j h. ⊎_elim (λ q. rw q e) (λ q. f j (omega (arith, q))) (same_number j r)))
    (λ e. inr (r, (omega arith, e)))
    (decided (test r)))
    (λ o. inr (o.0, (omega (arith, o.1.0), o.1.1)))
    (search_all r test)

-- membership of the first of a list, by place
pub in_take : (t : ℕ) (q : List ℕ) (y : ℕ) → is_in y (take t q) ≡ true → (i : ℕ) × ((i < t) × (get_or q i 0 ≡ y))
unfolding is_in
in_take zero q y e = absurd (not_both e refl)
in_take (suc t) [] y e = absurd (not_both e refl)
in_take (suc t) (x ∷ q) y e =
    ⊎_elim
    (λ l. (0, (omega arith, sym (eqb-true y x l))))
    (λ r. let o = in_take t q y r in (suc o.0, (omega (arith, o.1.0), o.1.1)))
    (or_cases (eqb y x) (is_in y (take t q)) e)

pub take_in : (h i : ℕ) (xs : List ℕ) → i < h → h ≤ length xs → is_in (get_or xs i 0) (take h xs) ≡ true
unfolding is_in
take_in zero i xs l k = absurd (omega arith)
take_in (suc h) i [] l k = absurd (omega arith)
take_in (suc h) zero (x ∷ xs) l k = or_left (eqb x x) (is_in x (take h xs)) (eq-eqb x x refl)
take_in (suc h) (suc i) (x ∷ xs) l k =
    or_right (eqb (get_or xs i 0) x) (is_in (get_or xs i 0) (take h xs)) (take_in h i xs (omega arith) (omega arith))

-- membership of two lists, one after the other
pub is_in_append : (y : ℕ) (xs zs : List ℕ) → is_in y (xs ++ zs) ≡ (is_in y xs || is_in y zs)
unfolding is_in
is_in_append y [] zs = refl
is_in_append y (x ∷ xs) zs = rw (is_in_append y xs zs) (grouped (eqb y x) (is_in y xs) (is_in y zs))
  where
    grouped : (a b c : Bool) → (a || (b || c)) ≡ ((a || b) || c)
    grouped true b c = refl
    grouped false b c = refl
