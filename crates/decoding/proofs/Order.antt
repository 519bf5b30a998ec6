-- The index of an accepted plant is in document 02's order: every arrow number once, by end state, then by number.
-- Assumes nothing.
use mathlib.Core.Path.{◌≡◌, refl, sym, ◌∙◌, ap}
use mathlib.Core.Logic.{◌↔◌, ◌⊎◌, inl, inr, ⊎_elim}
use mathlib.Core.Bool.{Bool, true, false}
use mathlib.Core.List.{List, [], ◌∷◌, ◌++◌}
use Prim.Native.Nat.{ℕ, zero, suc, ◌+◌, ◌*◌, ◌≤◌, ◌<◌}
use native.Mathlib.Omega.{arith}
use lib.Dec.{eqb, ltb, leb}
use lib.ListN.{length, get_or, drop}
use borrow.Author.Tests.{eqb-true, eq-eqb, ne_eqb, ltb-true}
use Rattle.statements.specs.Sets.{cons_if, joined, is_in}
use Rattle.statements.specs.Plants.{word, Arrow, Plant, arrows_from, plant_of, head_ok, rank, arrows_ok, plant_fault}
use Rattle.statements.specs.Index.{arrows_to, by_end, end_of, Ordered}
use Rattle.sets.proofs.Tests.{same_number, and_left, and_right, and_iff, leb_iff, eqb_iff}
use Rattle.sets.proofs.Members.{is_in_none, is_in_cons_if, is_in_here, is_in_there, is_in_cases}
use Rattle.sets.proofs.Joined.{joined_none, joined_one_more}
use Rattle.sets.proofs.Keys.{KeyFrom, key_less, key_then, key_rises}
use Rattle.decoding.proofs.Faults.{plant_tests}

-- as many arrows as asked for
length_from : (n : ℕ) (s : List ℕ) → length (arrows_from n s) ≡ n
unfolding arrows_from
length_from zero s = refl
length_from (suc n) s = ap suc (length_from n (drop 6 s))

-- a plant has as many as its header says
pub arrows_length : (s : List ℕ) → length (plant_of s).arrows ≡ word 3 s
unfolding plant_of
arrows_length s = length_from (word 3 s) (drop (16 + 2 * word 0 s) s)

-- the state in which arrow e of a list ends
abbrev pub to_of : List Arrow → ℕ → ℕ
to_of rs e = (get_or rs e (record { from = 0; move = 0; to = 0 })).to

-- the arrows that end in y: numbers from k on, and those of the list
to_holds : (rs : List Arrow) (k y e : ℕ) → is_in e (arrows_to rs k y) ≡ true →
    (j : ℕ) × (j < length rs) × (e ≡ k + j) × (to_of rs j ≡ y)
unfolding arrows_to
to_holds [] k y e h = absurd (is_in_none e h)
to_holds (a ∷ rest) k y e h =
    elim (is_in_cons_if (eqb a.to y) e k (arrows_to rest (suc k) y) h) [
      | inl p ↦ (0, omega arith, omega (arith, p.0), eqb-true a.to y p.1)
      | inr p ↦ let r = to_holds rest (suc k) y e p in (suc r.0, omega (arith, r.1), omega (arith, r.2), r.3)
    ]

to_in : (rs : List Arrow) (k y j : ℕ) → j < length rs → to_of rs j ≡ y → is_in (k + j) (arrows_to rs k y) ≡ true
unfolding arrows_to
to_in [] k y j l e = absurd (omega arith)
to_in (a ∷ rest) k y zero l e =
    let z : k + 0 ≡ k = omega arith in
    rw (eq-eqb a.to y e, z) (is_in_here k (arrows_to rest (suc k) y))
to_in (a ∷ rest) k y (suc j) l e =
    let z : k + suc j ≡ suc k + j = omega arith in
    rw z (more (eqb a.to y) (to_in rest (suc k) y j (omega arith) e))
  where
    more : (b : Bool) → is_in (suc k + j) (arrows_to rest (suc k) y) ≡ true →
        is_in (suc k + j) (cons_if b k (arrows_to rest (suc k) y)) ≡ true
    more true h = is_in_there (suc k + j) k (arrows_to rest (suc k) y) h
    more false h = h

-- members of lists joined
joined_holds : (f : ℕ → List ℕ) (n x e : ℕ) → is_in e (joined n x f) ≡ true →
    (y : ℕ) × (x ≤ y) × (y < x + n) × (is_in e (f y) ≡ true)
unfolding joined
joined_holds f zero x e h = absurd (is_in_none e h)
joined_holds f (suc n) x e h =
    elim (parts (f x) (joined n (suc x) f) h) [
      | inl p ↦ (x, omega arith, omega arith, p)
      | inr p ↦ let r = joined_holds f n (suc x) e p in (r.0, omega (arith, r.1), omega (arith, r.2), r.3)
    ]
  where
    parts : (xs ys : List ℕ) → is_in e (xs ++ ys) ≡ true → (is_in e xs ≡ true) ⊎ (is_in e ys ≡ true)
    parts [] ys h = inr h
    parts (v ∷ xs) ys h =
        elim (is_in_cases e v (xs ++ ys) h) [
          | inl q ↦ inl (rw q (is_in_here v xs))
          | inr q ↦ ⊎_elim (λ i. inl (is_in_there e v xs i)) (λ i. inr i) (parts xs ys q)
        ]

joined_in : (f : ℕ → List ℕ) (n x y e : ℕ) → x ≤ y → y < x + n → is_in e (f y) ≡ true → is_in e (joined n x f) ≡ true
unfolding joined
joined_in f zero x y e l h i = absurd (omega arith)
joined_in f (suc n) x y e l h i =
    ⊎_elim
    (λ q. left (f x) (joined n (suc x) f) (rw q i))
    (λ d. right (f x) (joined n (suc x) f) (joined_in f n (suc x) y e (omega arith) (omega arith) i))
    (same_number x y)
  where
    left : (xs ys : List ℕ) → is_in e xs ≡ true → is_in e (xs ++ ys) ≡ true
    left [] ys h = absurd (is_in_none e h)
    left (v ∷ xs) ys h =
        elim (is_in_cases e v xs h) [
          | inl q ↦ rw q (is_in_here v (xs ++ ys))
          | inr q ↦ is_in_there e v (xs ++ ys) (left xs ys q)
        ]

    right : (xs ys : List ℕ) → is_in e ys ≡ true → is_in e (xs ++ ys) ≡ true
    right [] ys h = h
    right (v ∷ xs) ys h = is_in_there e v (xs ++ ys) (right xs ys h)

-- as many as there are arrows that end in a state
to_long : (rs : List Arrow) (k n : ℕ) → ((e : ℕ) → e < length rs → to_of rs e < n) →
    length (joined n 0 (arrows_to rs k)) ≡ length rs
unfolding arrows_to
to_long [] k n low = ap length (joined_none (arrows_to [] k) n 0 (λ y l h. refl))
to_long (a ∷ rest) k n low =
    joined_one_more (arrows_to (a ∷ rest) k) (arrows_to rest (suc k)) a.to
    (λ y d. rw (ne_eqb a.to y (λ e. d (sym e)))) (rw (eq-eqb a.to a.to refl)) n 0 (omega arith)
    (omega (arith, low 0 (omega arith)))
    ∙ ap suc (to_long rest (suc k) n (λ e l. low (suc e) (omega arith)))

-- the arrows that end in y rise from k on
to_rises : (key : ℕ → ℕ) (rs : List Arrow) (k y : ℕ) →
    ((j : ℕ) → j < length rs → to_of rs j ≡ y → key (k + j) ≡ 65536 * y + (k + j)) →
    KeyFrom key (65536 * y + k) (arrows_to rs k y)
unfolding arrows_to
to_rises key [] k y h = tt
to_rises key (a ∷ rest) k y h =
    let later : KeyFrom key (65536 * y + suc k) (arrows_to rest (suc k) y) =
    to_rises key rest (suc k) y
    (λ j l e. let z : suc k + j ≡ k + suc j = omega arith in rw z (h (suc j) (omega arith) e)) in
    ⊎_elim
    (λ e. let q = h 0 (omega arith) e in let z : k + 0 ≡ k = omega arith in let w = rw z at q in
    rw (eq-eqb a.to y e)
    (omega arith, key_less key (suc (key k)) (65536 * y + suc k) (arrows_to rest (suc k) y) (omega arith) later))
    (λ d. rw (ne_eqb a.to y d)
    (key_less key (65536 * y + k) (65536 * y + suc k) (arrows_to rest (suc k) y) (omega arith) later))
    (same_number a.to y)

joined_rises : (key : ℕ → ℕ) (f : ℕ → List ℕ) (n x : ℕ) → ((y : ℕ) → KeyFrom key (65536 * y) (f y)) →
    ((y e : ℕ) → is_in e (f y) ≡ true → key e < 65536 * suc y) → KeyFrom key (65536 * x) (joined n x f)
unfolding joined
joined_rises key f zero x h under = tt
joined_rises key f (suc n) x h under =
    key_then key (65536 * x) (65536 * suc x) (f x) (joined n (suc x) f) (h x) (under x) (omega arith)
    (joined_rises key f n (suc x) h under)

-- arrows that pass the check end in a state
to_low : (rs : List Arrow) (s u least : ℕ) → arrows_ok s u least rs ≡ true → (e : ℕ) → e < length rs → to_of rs e < s
unfolding arrows_ok
to_low [] s u least ok e l = absurd (omega arith)
to_low (a ∷ rest) s u least ok zero l =
    let after_move = and_right (ltb a.move u) _ (and_right (ltb a.from s) _ ok) in
    ltb-true a.to s (and_left (ltb a.to s) _ after_move)
to_low (a ∷ rest) s u least ok (suc e) l =
    let after_move = and_right (ltb a.move u) _ (and_right (ltb a.from s) _ ok) in
    let later = and_right (leb least (rank a)) _ (and_right (ltb a.to s) _ after_move) in
    to_low rest s u (suc (rank a)) later e (omega arith)

-- what an accepted plant gives: few arrows, and every one ends in a state
module _ (s : List ℕ) (fine : plant_fault s ≡ 0) where
  pub ends_low : (e : ℕ) → e < length (plant_of s).arrows → end_of (plant_of s) e < (plant_of s).states
  ends_low = to_low (plant_of s).arrows (plant_of s).states (plant_of s).moves 0 (plant_tests s fine).2

  pub count_few : word 3 s ≤ 8192
  unfolding head_ok
  count_few = let head = simp (and_iff, leb_iff, eqb_iff) at (plant_tests s fine).0 in omega arith

  pub arrows_few : length (plant_of s).arrows ≤ 8192
  arrows_few = rw arrows_length count_few

-- there are as many numbers as arrows
pub by_long : (p : Plant) → ((e : ℕ) → e < length p.arrows → end_of p e < p.states) →
    length (by_end p) ≡ length p.arrows
unfolding by_end
by_long p low = to_long p.arrows 0 p.states low

-- the number by which arrows are ordered: by end state, then by number
abbrev pub end_key : Plant → ℕ → ℕ
end_key p n = 65536 * end_of p n + n

-- every arrow number stands in the index, and nothing else, and their keys rise
module _ (p : Plant) (low : (e : ℕ) → e < length p.arrows → end_of p e < p.states)
    (few : length p.arrows ≤ 8192) where
  pub each : (e : ℕ) → (is_in e (by_end p) ≡ true) ↔ (e < length p.arrows)
  unfolding by_end
  each e = (
    λ h.
        let r = joined_holds (arrows_to p.arrows 0) p.states 0 e h in
        let t = to_holds p.arrows 0 r.0 e r.3 in
        omega (arith, t.1, t.2),
    λ l.
        let i = to_in p.arrows 0 (end_of p e) e l refl in
        let z : 0 + e ≡ e = omega arith in
        joined_in (arrows_to p.arrows 0) p.states 0 (end_of p e) e (omega arith) (omega (arith, low e l))
        (rw z at i),
  )

  pub all_rise : KeyFrom (end_key p) 0 (by_end p)
  unfolding by_end
  all_rise =
      joined_rises (end_key p) (arrows_to p.arrows 0) p.states 0
      (λ y. key_less (end_key p) (65536 * y) (65536 * y + 0) (arrows_to p.arrows 0 y) (omega arith)
      (to_rises (end_key p) p.arrows 0 y (λ j l e. let z : 0 + j ≡ j = omega arith in rw (z, e) refl)))
      (λ y e i.
      let t = to_holds p.arrows 0 y e i in
      let z : e ≡ t.0 = omega (arith, t.2) in
      let q : end_of p e ≡ y = ap (end_of p) z ∙ t.3 in
      omega (arith, t.1))

  ordered : Ordered p
  ordered = record { each = each; rises = λ j k l m. key_rises (end_key p) 0 (by_end p) all_rise j k l m }

-- so the index of an accepted plant is in order
pub plant_ordered : (s : List ℕ) → plant_fault s ≡ 0 → Ordered (plant_of s)
plant_ordered s fine = ordered (plant_of s) (ends_low s fine) (arrows_few s fine)
