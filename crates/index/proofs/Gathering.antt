-- The pass that gathers: the values of the numbers passed are listed, and those left decide. Assumes nothing.
use mathlib.Core.Path.{◌≡◌, refl, sym, ap, ap₂, ◌∙◌}
use mathlib.Core.Bool.{Bool, true, false, ◌&&◌}
use mathlib.Core.List.{List, [], ◌∷◌, ◌++◌, map-append, append-nil, append_assoc}
use Prim.Native.Nat.{ℕ, suc, ◌+◌, ◌-◌, ◌*◌, ◌≤◌, ◌<◌}
use native.Mathlib.Numerals.{add-one}
use native.Mathlib.Omega.{arith}
use lib.Dec.{leb}
use lib.ListN.{length, get_or, take, drop, set, length-map}
use lib.Seq.{take-suc, length-take-le}
use borrow.Author.Tests.{leb-true}
use Rattle.statements.specs.Sets.{pick, over}
use Rattle.statements.specs.Plants.{word, words, plant_of}
use Rattle.sets.proofs.Tests.{and_left, and_right}
use Rattle.sets.proofs.Over.{over_none, over_length, over_one}
use Rattle.decoding.proofs.Faults.{words_length}
use Rattle.decoding.proofs.Order.{arrows_length}
use Rattle.format.proofs.Header.{plant_states}
use Rattle.format.proofs.Parts.{label_at}
use Rattle.index.specs.Checked.{key_of, numbers_in}
use Rattle.index.specs.Gathered.{climbed, taken, ready, gathers}
use Rattle.index.specs.Steps.{least_next}
use Rattle.index.proofs.Passing.{Climbs, told_yes, told_no, Next, next_number, All, Opens, Passed, pass_start}
use Rattle.index.proofs.Passing.{left, number_is, next_is, pass_next, pass_fail, pass_end}

-- the value of one number more
taken_more : (by ns : List ℕ) (n : ℕ) → taken by (ns ++ (n ∷ [])) ≡ taken by ns ++ (get_or by n 0 ∷ [])
unfolding taken
taken_more by ns n = map-append (λ a. get_or by a 0) ns (n ∷ [])

-- nothing is picked where a test fails
nothing : (b : Bool) (xs : List ℕ) → b ≡ false → pick b xs [] ≡ []
nothing b xs e = rw e refl

module _ (s index : List ℕ) where
  -- the first k numbers, and those from there on
  abbrev Front : ℕ → List ℕ
  Front k = take k (numbers_in (plant_of s) index)

  abbrev Rest : ℕ → List ℕ
  Rest k = words (word 3 s - k) (drop (8 + 2 * k) index)

  front_more : (k : ℕ) → k < word 3 s → Front (k + 1) ≡ Front k ++ (word 0 (drop (8 + 2 * k) index) ∷ [])
  front_more k more =
      let e = length (plant_of s).arrows in
      let low : k < e = omega (arith, arrows_length s) in
      ap Front (add-one k)
      ∙ take-suc (numbers_in (plant_of s) index) k 0 (omega (arith, words_length e (drop 8 index)))
      ∙ ap (λ (n : ℕ). Front k ++ (n ∷ [])) (label_at index 8 e k low)

  -- as many values as numbers
  front_long : (by : List ℕ) (k : ℕ) → k ≤ word 3 s → length (taken by (Front k)) ≡ k
  unfolding taken
  front_long by k h =
      let e = length (plant_of s).arrows in
      length-map (Front k) (λ n. get_or by n 0)
      ∙ length-take-le k (numbers_in (plant_of s) index) (omega (arith, words_length e (drop 8 index), arrows_length s))

-- a loop over the numbers: k of count are passed, and their values are listed
pub record Listed (s index by old new : List ℕ) (count ends k least : ℕ) : Type 0 where
  pub passed : Passed s index count ends k least
  pub by_room : count ≤ length by
  pub room : count ≤ length old
  pub list : new ≡ over (taken by (Front s index k)) old
  pub good : ready s index by old ≡ true
  pub whole : climbed (plant_of s) 0 (numbers_in (plant_of s) index)
      ≡ Front s index k ++ climbed (plant_of s) least (Rest s index k)

-- what is left in the list
abbrev After : List ℕ → List ℕ → List ℕ → List ℕ → List ℕ
After s index by old =
    pick (ready s index by old) (over (taken by (climbed (plant_of s) 0 (numbers_in (plant_of s) index))) old) old

module _ (s index by old : List ℕ) (count : ℕ) (many : count ≡ word 3 s) (opened : Bool)
    (is_opened : opened ≡ Opens s index) where
  -- the test before the loop
  abbrev Test : Bool
  Test = opened && (leb count (length by) && leb count (length old))

  test_is : ready s index by old ≡ Test
  unfolding ready
  test_is =
      let back = sym many in
      rw (is_opened, plant_states, arrows_length, back) refl

  -- where it fails nothing is written, and where it holds none is passed yet
  pub gather_not : Test ≡ false → (false ≡ gathers s index by old) × (old ≡ After s index by old)
  unfolding gathers
  gather_not h =
      let no = test_is ∙ h in
      (sym (rw no refl), sym (rw no refl))

  pub gather_start : Test ≡ true → (states : ℕ) → states ≡ word 0 s
      → Listed s index by old old count (20 + 2 * states) 0 0
  unfolding taken
  gather_start h states es =
      let rooms = and_right opened _ h in
      record {
        passed = pass_start s index count states many es (sym is_opened ∙ and_left opened _ h);
        by_room = leb-true count (length by) (and_left (leb count (length by)) _ rooms);
        room = leb-true count (length old) (and_right (leb count (length by)) _ rooms);
        list = over_none old;
        good = test_is ∙ h;
        whole =
            let all : length (plant_of s).arrows ≡ word 3 s - 0 = omega (arith, arrows_length s) in
            ap (λ (n : ℕ). climbed (plant_of s) 0 (words n (drop 8 index))) all;
      }

-- one turn of the loop: the next number passes and its value is listed, or it fails
module _ {s index by old new : List ℕ} {count ends k least n next : ℕ}
    (l : Listed s index by old new count ends k least) (more : k < count)
    (read : n ≡ get_or index (8 + 2 * k) 0 + 256 * get_or index (8 + 2 * k + 1) 0)
    (told : next ≡ least_next s count least n) where
  -- the next number, and what is told of it
  low : k < word 3 s
  low = left l.passed more read told

  abbrev m : ℕ
  m = Next s index k low

  is_next : next ≡ least_next s (word 3 s) least m
  is_next = next_is l.passed more read told

  -- what climbs from it on, and its value behind those listed
  next_climbed : climbed (plant_of s) least (Rest s index k)
      ≡ pick (Climbs s least m) (m ∷ climbed (plant_of s) (suc (key_of (plant_of s) m)) (Rest s index (k + 1))) []
  unfolding climbed
  next_climbed = ap (climbed (plant_of s) least) (next_number s index k low)

  value_more : taken by (Front s index (k + 1)) ≡ taken by (Front s index k) ++ (get_or by n 0 ∷ [])
  value_more =
      ap (taken by) (front_more s index k low)
      ∙ taken_more by (Front s index k) m
      ∙ ap (λ (a : ℕ). taken by (Front s index k) ++ (get_or by a 0 ∷ [])) (sym (number_is l.passed more read told))

  -- it passes
  pub gather_turn : (next ≡ 0 → ⊥) → Listed s index by old (set new k (get_or by n 0)) count ends (k + 1) next
  gather_turn climbs_on =
      let v = get_or by n 0 in
      let xs = taken by (Front s index k) in
      let long : length xs ≡ k = front_long s index by k (omega arith) in
      let there = told_yes s least m is_next climbs_on in
      let later : ℕ → List ℕ = λ a. climbed (plant_of s) a (Rest s index (k + 1)) in
      record {
        passed = pass_next l.passed more read told climbs_on;
        by_room = l.by_room;
        room = l.room;
        list =
            ap₂ (λ (ys : List ℕ) (a : ℕ). set ys a v) l.list (sym long)
            ∙ over_one xs old v (omega (arith, l.room))
            ∙ ap (λ (ys : List ℕ). over ys old) (sym value_more);
        good = l.good;
        whole =
            l.whole
            ∙ ap (λ (ys : List ℕ). Front s index k ++ ys)
            (next_climbed ∙ ap (λ (b : Bool). pick b (m ∷ later (suc (key_of (plant_of s) m))) []) there.0)
            ∙ sym (append_assoc (Front s index k) (m ∷ []) (later (suc (key_of (plant_of s) m))))
            ∙ ap₂ (λ (ys zs : List ℕ). ys ++ zs) (sym (front_more s index k low)) (ap later (sym there.1));
      }

  -- it fails
  pub gather_fail : next ≡ 0 → (false ≡ gathers s index by old) × (new ≡ After s index by old)
  unfolding gathers
  gather_fail bad =
      let no : All s index ≡ false = pass_fail l.passed more read told bad in
      let all : climbed (plant_of s) 0 (numbers_in (plant_of s) index) ≡ Front s index k =
      l.whole
      ∙ ap (λ (ys : List ℕ). Front s index k ++ ys) (next_climbed ∙ nothing _ _ (told_no s least m is_next bad))
      ∙ append-nil (Front s index k) in (
        sym (rw (l.good, no) refl),
        l.list ∙ sym (rw (l.good, all) refl),
      )

-- at last all are passed
module _ {s index by old new : List ℕ} {count ends k least : ℕ}
    (l : Listed s index by old new count ends k least) where
  pub gather_end : count ≤ k → (true ≡ gathers s index by old) × (new ≡ After s index by old)
  unfolding gathers climbed words
  gather_end h =
      let numbers = numbers_in (plant_of s) index in
      let over_all : word 3 s - k ≡ 0 = omega (arith, l.passed.many) in
      let all : climbed (plant_of s) 0 numbers ≡ Front s index k =
      l.whole
      ∙ ap (λ (a : ℕ). Front s index k ++ climbed (plant_of s) least (words a (drop (8 + 2 * k) index))) over_all
      ∙ append-nil (Front s index k) in (
        sym (rw (l.good, pass_end l.passed h) refl),
        l.list ∙ sym (rw (l.good, all) refl),
      )
