-- Refusal 10, which is 0 exactly where the bytes are the plant's index, and what the calls by an index answer. Assumes
-- nothing.
use mathlib.Core.Path.{◌≡◌, refl, sym, ap₂, ◌∙◌}
use mathlib.Core.Logic.{◌↔◌, inl, inr}
use mathlib.Core.Bool.{Bool, true, false, ◌&&◌, not, true≢false}
use mathlib.Core.List.{List, [], ◌∷◌}
use Prim.Native.Nat.{ℕ, zero, suc, ◌≤◌}
use native.Mathlib.Omega.{arith}
use lib.Dec.{eqb}
use lib.ListN.{length}
use borrow.Author.Tests.{eqb-true, eq-eqb}
use Rattle.statements.specs.Plants.{Plant, plant_of, head_ok, labels_ok, arrows_ok, first_of, when, plant_fault}
use Rattle.statements.specs.Books.{two, mask_ok, book_head_ok, rows_ok, book_fault}
use Rattle.statements.specs.Index.{by_end, index_long, index_bytes, same_bytes, index_fault}
use Rattle.statements.specs.Calls.{mask_fault, book_room, drop_room, room_fault, make_fault, alike, lent_fault}
use Rattle.statements.specs.Calls.{withdraw_fault, by_index, makes_by, withdraws_by, told_of}
use Rattle.sets.proofs.Tests.{decided, same_number, and_true, and_left, and_right}
use Rattle.decoding.proofs.Sizes.{bytes_length}
use Rattle.decoding.proofs.Faults.{first_iff, first_given, when_iff}
use Rattle.decoding.proofs.Order.{ends_low, by_long}

same_to : (xs ys : List ℕ) → same_bytes xs ys ≡ true → xs ≡ ys
unfolding same_bytes
same_to [] [] h = refl
same_to [] (y ∷ ys) h = absurd (true≢false (sym h))
same_to (x ∷ xs) [] h = absurd (true≢false (sym h))
same_to (x ∷ xs) (y ∷ ys) h =
    ap₂ (λ (v : ℕ) (vs : List ℕ). v ∷ vs) (eqb-true x y (and_left (eqb x y) _ h))
    (same_to xs ys (and_right (eqb x y) _ h))

same_own : (xs : List ℕ) → same_bytes xs xs ≡ true
unfolding same_bytes
same_own [] = refl
same_own (x ∷ xs) = and_true (eq-eqb x x refl) (same_own xs)

-- the test of two lists of bytes
pub same_iff : (xs ys : List ℕ) → (same_bytes xs ys ≡ true) ↔ (xs ≡ ys)
same_iff xs ys = (same_to xs ys, λ e. rw e (same_own ys))

-- no refusal exactly where the bytes are the plant's index
pub index_exact : (p : Plant) (index : List ℕ) → (index_fault p index ≡ 0) ↔ (index ≡ index_bytes p)
unfolding index_fault
index_exact p index =
    let test = same_bytes index (index_bytes p) in (
      λ h. same_to index (index_bytes p) ((when_iff test 9).0 h),
      λ e. (when_iff test 9).1 ((same_iff index (index_bytes p)).1 e),
    )

-- otherwise it is 10
pub index_otherwise : (p : Plant) (index : List ℕ) → (index ≡ index_bytes p → ⊥) → index_fault p index ≡ 10
unfolding index_fault
index_otherwise p index other =
    elim (decided (same_bytes index (index_bytes p))) [
      | inl e ↦ absurd (other (same_to index (index_bytes p) e))
      | inr e ↦ rw e
    ]

-- the index of an accepted plant is as long as its header says
pub index_size : (s : List ℕ) → plant_fault s ≡ 0 →
    length (index_bytes (plant_of s)) ≡ index_long (length (plant_of s).arrows)
unfolding index_bytes index_long two
index_size s fine =
    let p = plant_of s in
    let many = by_long p (ends_low s fine) in
    omega (arith, bytes_length (by_end p), many)

-- no answer of the plain calls is above 7
first_most : (a b : ℕ) → a ≤ 7 → b ≤ 7 → first_of a b ≤ 7
first_most zero b la lb = lb
first_most (suc a) b la lb = la

when_most : (t : Bool) (m : ℕ) → m ≤ 7 → when t m ≤ 7
when_most true m l = l
when_most false m l = omega arith

plant_low : (s : List ℕ) → plant_fault s ≤ 7
unfolding plant_fault
plant_low s =
    let p = plant_of s in
    let head = when_most (not (head_ok s)) 1 (omega arith) in
    let labels = when_most (not (labels_ok p.settles p.goals p.labels)) 2 (omega arith) in
    let arrows = when_most (not (arrows_ok p.states p.moves 0 p.arrows)) 3 (omega arith) in
    first_most _ _ head (first_most _ _ labels arrows)

mask_low : (p : Plant) (mask : ℕ) → mask_fault p mask ≤ 7
unfolding mask_fault
mask_low p mask = when_most (not (mask_ok p.moves mask)) 6 (omega arith)

pub make_low : (s : List ℕ) (mask room : ℕ) → make_fault s mask room ≤ 7
unfolding make_fault
make_low s mask room =
    let p = plant_of s in
    first_most _ _ (plant_low s)
    (first_most _ _ (mask_low p mask) (when_most (not (book_room p room)) 7 (omega arith)))

lent_low : (s b : List ℕ) → lent_fault s b ≤ 7
unfolding lent_fault book_fault
lent_low s b =
    let alike_low = when_most (not (book_head_ok b && alike (plant_of s) b)) 4 (omega arith) in
    let head = when_most (not (book_head_ok b)) 4 (omega arith) in
    let rows = when_most (not (rows_ok b)) 5 (omega arith) in
    first_most _ _ (plant_low s) (first_most _ _ alike_low (first_most _ _ head rows))

pub withdraw_low : (s b : List ℕ) (gone room drops : ℕ) → withdraw_fault s b gone room drops ≤ 7
unfolding withdraw_fault room_fault
withdraw_low s b gone room drops =
    let p = plant_of s in
    let rooms = when_most (not (book_room p room && drop_room p drops)) 7 (omega arith) in
    first_most _ _ (lent_low s b) (first_most _ _ (mask_low p gone) rooms)

-- what a call by an index answers
module _ (s : List ℕ) where
  -- accepted, the plant, the index and the plain call are
  pub by_parts : (index : List ℕ) (plain : ℕ) → by_index s index plain ≡ 0 →
      (plant_fault s ≡ 0) × (index ≡ index_bytes (plant_of s)) × (plain ≡ 0)
  unfolding by_index
  by_parts index plain h =
      let all = (first_iff (plant_fault s) _).0 h in
      let later = (first_iff (index_fault (plant_of s) index) _).0 all.1 in
      (all.0, (index_exact (plant_of s) index).0 later.0, later.1)

  -- for a refused plant its number
  pub by_refused : (index : List ℕ) (plain : ℕ) → (plant_fault s ≡ 0 → ⊥) → by_index s index plain ≡ plant_fault s
  unfolding by_index
  by_refused index plain h = first_given (plant_fault s) _ h

  -- by bytes that are not the index of an accepted plant 10
  pub by_other : (index : List ℕ) (plain : ℕ) → plant_fault s ≡ 0 → (index ≡ index_bytes (plant_of s) → ⊥) →
      by_index s index plain ≡ 10
  unfolding by_index
  by_other index plain fine other = rw (fine, index_otherwise (plant_of s) index other)

  -- by the index what the plain call answers, which looks at the plant first too
  pub by_own : (plain : ℕ) → ((plant_fault s ≡ 0 → ⊥) → plain ≡ plant_fault s) →
      by_index s (index_bytes (plant_of s)) plain ≡ plain
  unfolding by_index
  by_own plain first =
      elim (same_number (plant_fault s) 0) [
        | inl e ↦ rw (e, (index_exact (plant_of s) (index_bytes (plant_of s))).1 refl)
        | inr h ↦ first_given (plant_fault s) _ h ∙ sym (first h)
      ]

  pub make_own : (mask room : ℕ) → by_index s (index_bytes (plant_of s)) (make_fault s mask room) ≡ make_fault s mask room
  unfolding make_fault
  make_own mask room = by_own (make_fault s mask room) (first_given (plant_fault s) _)

  pub withdraw_own : (b : List ℕ) (gone room drops : ℕ) →
      by_index s (index_bytes (plant_of s)) (withdraw_fault s b gone room drops) ≡ withdraw_fault s b gone room drops
  unfolding withdraw_fault lent_fault
  withdraw_own b gone room drops =
      by_own (withdraw_fault s b gone room drops)
      (λ h.
      let lent : lent_fault s b ≡ plant_fault s = first_given (plant_fault s) _ h in
      first_given (lent_fault s b) _ (λ z. h (sym lent ∙ z)) ∙ lent)

  -- 10 exactly where the plant is accepted and the bytes are not its index
  pub by_ten : (index : List ℕ) (plain : ℕ) → plain ≤ 7 →
      (by_index s index plain ≡ 10) ↔ ((plant_fault s ≡ 0) × (index ≡ index_bytes (plant_of s) → ⊥))
  unfolding by_index
  by_ten index plain low = (
    λ h.
        elim (same_number (plant_fault s) 0) [
          | inl fine ↦ (
            fine,
            λ e.
                let past = (index_exact (plant_of s) index).1 e in
                let is : by_index s index plain ≡ plain = rw (fine, past) in
                omega (arith, h, is, low),
          )
          | inr out ↦ absurd (omega (arith, h, by_refused index plain out, plant_low s))
        ],
    λ h. by_other index plain h.0 h.1,
  )

  -- once plant and book are accepted it answers as told from the call alone
  pub make_by_told : (index : List ℕ) (mask room drops : ℕ) → plant_fault s ≡ 0 →
      by_index s index (make_fault s mask room) ≡ (told_of (plant_of s) (makes_by index mask)).number room drops
  unfolding by_index make_fault told_of
  make_by_told index mask room drops fine = rw fine

  pub withdraw_by_told : (b index : List ℕ) (gone room drops : ℕ) → plant_fault s ≡ 0 → lent_fault s b ≡ 0 →
      by_index s index (withdraw_fault s b gone room drops) ≡
      (told_of (plant_of s) (withdraws_by index gone)).number room drops
  unfolding by_index withdraw_fault told_of
  withdraw_by_told b index gone room drops fine lent = rw (fine, lent)
