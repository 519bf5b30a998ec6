-- Numbers, bits and finite sets: the small vocabulary of the other files. Assumes nothing.
use Rattle.std.specs.Prelude.{Bool, true, false, ◌&&◌, ◌||◌, List, [], ◌∷◌, ◌++◌, ℕ, zero, suc, ◌+◌, ◌*◌, ◌/◌, ◌%◌, ◌^◌, eqb, length, drop}

-- if the test holds the one, otherwise the other
abbrev pub pick : {A : Type 0} → Bool → A → A → A
pick true a b = a
pick false a b = b

-- bit i of a number
unfoldable pub bit : ℕ → ℕ → Bool
bit i v = eqb (v / 2 ^ i % 2) 1

-- the n numbers from x on, rising
unfoldable pub numbers : ℕ → ℕ → List ℕ
numbers zero x = []
numbers (suc n) x = x ∷ numbers n (suc x)

-- the test holds at each of the n numbers from x on
unfoldable pub every : ℕ → ℕ → (ℕ → Bool) → Bool
every zero x test = true
every (suc n) x test = test x && every n (suc x) test

-- the first of the n numbers from x on at which the test holds; x + n if there is none
unfoldable pub first : ℕ → ℕ → (ℕ → Bool) → ℕ
first zero x test = x
first (suc n) x test = elim (test x) [ true ↦ x | false ↦ first n (suc x) test ]

-- the mask of the n numbers from x on at which the test holds: its bit i is for number x + i
unfoldable pub bits : ℕ → ℕ → (ℕ → Bool) → ℕ
bits zero x test = 0
bits (suc n) x test = pick (test x) 1 0 + 2 * bits n (suc x) test

-- the lowest number below n in a mask; n if there is none
unfoldable pub lowest : ℕ → ℕ → ℕ
lowest n mask = first n 0 (λ i. bit i mask)

-- the lists that a function gives at the n numbers from x on, one after the other
unfoldable pub joined : ℕ → ℕ → (ℕ → List ℕ) → List ℕ
joined zero x part = []
joined (suc n) x part = part x ++ joined n (suc x) part

-- numbers written over the first of a list; those past them stay
unfoldable pub over : List ℕ → List ℕ → List ℕ
over new old = new ++ drop (length new) old

-- a function applied n times
unfoldable pub iterate : ℕ → (List ℕ → List ℕ) → List ℕ → List ℕ
iterate zero f xs = xs
iterate (suc n) f xs = f (iterate n f xs)

-- sets of states are rising lists of numbers
-- membership
unfoldable pub is_in : ℕ → List ℕ → Bool
is_in x [] = false
is_in x (y ∷ ys) = eqb x y || is_in x ys

-- inclusion
unfoldable pub all_in : List ℕ → List ℕ → Bool
all_in [] ys = true
all_in (x ∷ xs) ys = is_in x ys && all_in xs ys

abbrev pub cons_if : Bool → ℕ → List ℕ → List ℕ
cons_if true x xs = x ∷ xs
cons_if false x xs = xs

-- the members at which the test holds
unfoldable pub filter : (ℕ → Bool) → List ℕ → List ℕ
filter test [] = []
filter test (x ∷ xs) = cons_if (test x) x (filter test xs)
