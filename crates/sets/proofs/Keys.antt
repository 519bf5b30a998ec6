-- Lists whose keys strictly rise: two lists that rise by one key, one with no other members than the other and as long,
-- are the same. Assumes nothing.
use mathlib.Core.Path.{◌≡◌, refl, ap₂}
use mathlib.Core.Logic.{inl, inr}
use mathlib.Core.Bool.{true}
use mathlib.Core.List.{List, [], ◌∷◌, ◌++◌}
use Prim.Native.Nat.{ℕ, zero, suc, ◌≤◌, ◌<◌}
use native.Mathlib.Omega.{arith}
use lib.ListN.{length, get_or}
use Rattle.statements.specs.Sets.{is_in}
use Rattle.sets.proofs.Members.{is_in_none, is_in_here, is_in_there, is_in_cases}

-- keys strictly rise from at least one given
abbrev pub KeyFrom : (ℕ → ℕ) → ℕ → List ℕ → Type 0
KeyFrom key low [] = Unit {0}
KeyFrom key low (e ∷ es) = (low ≤ key e) × KeyFrom key (suc (key e)) es

module _ (key : ℕ → ℕ) where
  -- from a lower one too
  pub key_less : (low high : ℕ) (es : List ℕ) → low ≤ high → KeyFrom key high es → KeyFrom key low es
  key_less low high [] l h = tt
  key_less low high (e ∷ es) l h = (omega (arith, h.0), h.1)

  -- one list after another with keys above its own
  pub key_then : (low mid : ℕ) (xs ys : List ℕ) → KeyFrom key low xs → ((e : ℕ) → is_in e xs ≡ true → key e < mid)
      → low ≤ mid → KeyFrom key mid ys → KeyFrom key low (xs ++ ys)
  key_then low mid [] ys h under l k = key_less low mid ys l k
  key_then low mid (e ∷ xs) ys h under l k = (
    h.0,
    key_then (suc (key e)) mid xs ys h.1 (λ v i. under v (is_in_there v e xs i)) (under e (is_in_here e xs)) k,
  )

  key_at : (low : ℕ) (es : List ℕ) → KeyFrom key low es → (k : ℕ) → k < length es → low ≤ key (get_or es k 0)
  key_at low [] h k l = absurd (omega arith)
  key_at low (e ∷ es) h zero l = h.0
  key_at low (e ∷ es) h (suc k) l =
      let r = key_at (suc (key e)) es h.1 k (omega arith) in omega (arith, h.0)

  -- of two places the later one has the higher key
  pub key_rises : (low : ℕ) (es : List ℕ) → KeyFrom key low es → (j k : ℕ) → j < k → k < length es
      → key (get_or es j 0) < key (get_or es k 0)
  key_rises low [] h j k l m = absurd (omega arith)
  key_rises low (e ∷ es) h zero zero l m = absurd (omega arith)
  key_rises low (e ∷ es) h zero (suc k) l m = key_at (suc (key e)) es h.1 k (omega arith)
  key_rises low (e ∷ es) h (suc j) zero l m = absurd (omega arith)
  key_rises low (e ∷ es) h (suc j) (suc k) l m = key_rises (suc (key e)) es h.1 j k (omega arith) (omega arith)

  -- every member has at least the least key
  key_in_lem : (low : ℕ) (es : List ℕ) → KeyFrom key low es → (e : ℕ) → is_in e es ≡ true → low ≤ key e
  key_in_lem low [] h e i = absurd (is_in_none e i)
  key_in_lem low (x ∷ es) h e i =
      elim (is_in_cases e x es i) [
        | inl q ↦ rw q h.0
        | inr m ↦ let r = key_in_lem (suc (key x)) es h.1 e m in omega (arith, h.0)
      ]

  -- a member above the first of a list is among the others
  past_first : (y : ℕ) (ys : List ℕ) (e : ℕ) → is_in e (y ∷ ys) ≡ true → key y < key e → is_in e ys ≡ true
  past_first y ys e i l =
      elim (is_in_cases e y ys i) [
        | inl q ↦ absurd (let same : key e ≡ key y = rw q refl in omega arith)
        | inr m ↦ m
      ]

  -- a list that rises has no more members than the one that has them all
  key_few : (low least : ℕ) (xs ys : List ℕ) → KeyFrom key low xs → KeyFrom key least ys
      → ((e : ℕ) → is_in e xs ≡ true → is_in e ys ≡ true) → length xs ≤ length ys
  key_few low least [] ys h k sub = omega arith
  key_few low least (x ∷ xs) [] h k sub = absurd (is_in_none x (sub x (is_in_here x xs)))
  key_few low least (x ∷ xs) (y ∷ ys) h k sub =
      let above : (e : ℕ) → is_in e xs ≡ true → key x < key e = key_in_lem (suc (key x)) xs h.1 in
      elim (is_in_cases x y ys (sub x (is_in_here x xs))) [
        | inl q ↦
            let same : key x ≡ key y = rw q refl in
            let r = key_few (suc (key x)) (suc (key y)) xs ys h.1 k.1
            (λ e i. past_first y ys e (sub e (is_in_there e x xs i)) (let a = above e i in omega arith)) in
            omega (arith, r)
        | inr m ↦
            let over : key y < key x = key_in_lem (suc (key y)) ys k.1 x m in
            let r = key_few low (suc (key y)) (x ∷ xs) ys h k.1
            (λ e i. elim (is_in_cases e x xs i) [
              | inl q ↦ rw q m
              | inr n ↦ past_first y ys e (sub e i) (let a = above e n in omega arith)
            ]) in
            omega (arith, r)
      ]

  -- and where it has as many it is that list
  pub key_same : (low least : ℕ) (xs ys : List ℕ) → KeyFrom key low xs → KeyFrom key least ys
      → ((e : ℕ) → is_in e xs ≡ true → is_in e ys ≡ true) → length xs ≡ length ys → xs ≡ ys
  key_same low least [] [] h k sub long = refl
  key_same low least [] (y ∷ ys) h k sub long = absurd (omega arith)
  key_same low least (x ∷ xs) [] h k sub long = absurd (omega arith)
  key_same low least (x ∷ xs) (y ∷ ys) h k sub long =
      let above : (e : ℕ) → is_in e xs ≡ true → key x < key e = key_in_lem (suc (key x)) xs h.1 in
      elim (is_in_cases x y ys (sub x (is_in_here x xs))) [
        | inl q ↦
            let same : key x ≡ key y = rw q refl in
            ap₂ (λ (v : ℕ) (vs : List ℕ). v ∷ vs) q
            (key_same (suc (key x)) (suc (key y)) xs ys h.1 k.1
            (λ e i. past_first y ys e (sub e (is_in_there e x xs i)) (let a = above e i in omega arith)) (omega arith))
        | inr m ↦
            let over : key y < key x = key_in_lem (suc (key y)) ys k.1 x m in
            let r = key_few low (suc (key y)) (x ∷ xs) ys h k.1
            (λ e i. elim (is_in_cases e x xs i) [
              | inl q ↦ rw q m
              | inr n ↦ past_first y ys e (sub e i) (let a = above e n in omega arith)
            ]) in
            absurd (omega (arith, r))
      ]
