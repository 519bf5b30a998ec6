-- The pass over the numbers of an index: what a loop has left from one of them on. Assumes nothing.
use mathlib.Core.Path.{◌≡◌, refl, sym, ap, ap₂, ◌∙◌}
use mathlib.Core.Logic.{inl, inr}
use mathlib.Core.Bool.{Bool, true, false, ◌&&◌, and_assoc}
use mathlib.Core.List.{List, ◌∷◌}
use Prim.Native.Nat.{ℕ, suc, ◌+◌, ◌-◌, ◌*◌, ◌≤◌, ◌<◌}
use native.Mathlib.Numerals.{add-one}
use native.Mathlib.Omega.{arith}
use lib.Dec.{eqb, ltb, leb}
use lib.ListN.{length, get_or, drop}
use lib.Seq.{get_or-drop}
use borrow.Author.Tests.{ltb-true, lt-ltb, le-ltb, eqb-true, le-leb, lt-leb}
use Rattle.statements.specs.Sets.{pick}
use Rattle.statements.specs.Plants.{word, words, Arrow, plant_of, head_ok}
use Rattle.statements.specs.Index.{end_of, index_long}
use Rattle.sets.proofs.Tests.{decided, and_left, and_right}
use Rattle.decoding.proofs.Order.{arrows_length}
use Rattle.format.specs.Arrows.{arrow_in, arrows_left}
use Rattle.format.proofs.Header.{plant_states, plant_head}
use Rattle.format.proofs.Parts.{labels_more}
use Rattle.format.proofs.Stored.{left_more}
use Rattle.format.proofs.Words.{word_here}
use Rattle.index.specs.Checked.{key_of, climbs, opens_well, numbers_in, ascends}
use Rattle.index.specs.Steps.{key_in, least_next}

-- the end of an arrow as it is read
pub end_read : (s : List ℕ) (n : ℕ) → n < word 3 s → (arrow_in s n).to ≡ end_of (plant_of s) n
unfolding arrows_left
end_read s n h =
    let none : Arrow = record { from = 0; move = 0; to = 0 } in
    let first = ap (λ (rs : List Arrow). (get_or rs 0 none).to) (left_more s n h) in
    let here : n + 0 ≡ n = omega arith in
    sym first ∙ ap (λ (a : Arrow). a.to) (get_or-drop n (plant_of s).arrows 0 none)
    ∙ ap (end_of (plant_of s)) here

key_read : (s : List ℕ) (n : ℕ) → n < word 3 s → key_in s n ≡ key_of (plant_of s) n
unfolding key_in key_of
key_read s n h = ap (λ (y : ℕ). 65536 * y + n) (end_read s n h)

-- what is told of the next number: whether it climbs, and then the least key after it
module _ (s : List ℕ) (least n : ℕ) where
  abbrev pub Climbs : Bool
  Climbs = ltb n (length (plant_of s).arrows) && leb least (key_of (plant_of s) n)

  next_told : least_next s (word 3 s) least n ≡ pick Climbs (suc (key_of (plant_of s) n)) 0
  unfolding least_next
  next_told =
      elim (decided (ltb n (word 3 s))) [
        | inl h ↦
            let key = key_read s n (ltb-true n (word 3 s) h) in
            let next : key_in s n + 1 ≡ suc (key_of (plant_of s) n) = add-one (key_in s n) ∙ ap suc key in
            rw (arrows_length, next, key) refl
        | inr h ↦ rw (arrows_length, h) refl
      ]

  module _ {next : ℕ} (told : next ≡ least_next s (word 3 s) least n) where
    pub told_yes : (next ≡ 0 → ⊥) → (Climbs ≡ true) × (next ≡ suc (key_of (plant_of s) n))
    told_yes good = by Climbs (told ∙ next_told)
      where
        by : (b : Bool) → next ≡ pick b (suc (key_of (plant_of s) n)) 0
            → (b ≡ true) × (next ≡ suc (key_of (plant_of s) n))
        by true e = (refl, e)
        by false e = absurd (good e)

    pub told_no : next ≡ 0 → Climbs ≡ false
    told_no bad = by Climbs (told ∙ next_told)
      where
        by : (b : Bool) → next ≡ pick b (suc (key_of (plant_of s) n)) 0 → b ≡ false
        by true e = absurd (omega arith)
        by false e = refl

-- where the end of an arrow stands, read as two bytes
pub end_bytes : (s : List ℕ) (n ends : ℕ) → ends ≡ 20 + 2 * word 0 s
    → get_or s (ends + 6 * n) 0 + 256 * get_or s (ends + 6 * n + 1) 0 ≡ (arrow_in s n).to
unfolding arrow_in
end_bytes s n ends e =
    let at : ends + 6 * n ≡ 16 + 2 * word 0 s + 6 * n + 4 = omega arith in
    sym (word_here s (ends + 6 * n)) ∙ ap (λ (m : ℕ). word 0 (drop m s)) at

-- what is told of a number that no arrow has, and of one whose arrow ends in y where it is too low and where it passes
module _ (s : List ℕ) (count least n : ℕ) where
  pub least_none : count ≤ n → 0 ≡ least_next s count least n
  unfolding least_next
  least_none h = sym (rw (le-ltb n count h) refl)

  module _ (y : ℕ) (end : y ≡ (arrow_in s n).to) (low : n < count) where
    pub least_low : 65536 * y + n < least → 0 ≡ least_next s count least n
    unfolding least_next key_in
    least_low h = let back = sym end in sym (rw (lt-ltb n count low, back, lt-leb least (65536 * y + n) h) refl)

    pub least_passed : least ≤ 65536 * y + n → 65536 * y + n + 1 ≡ least_next s count least n
    unfolding least_next key_in
    least_passed h = let back = sym end in sym (rw (lt-ltb n count low, back, le-leb least (65536 * y + n) h) refl)

module _ (s index : List ℕ) where
  -- what is left to pass from number k of the index on
  abbrev pub Left : ℕ → ℕ → Bool
  Left k least = climbs (plant_of s) least (words (word 3 s - k) (drop (8 + 2 * k) index))

  -- before the first all of them, and after the last none
  left_start : climbs (plant_of s) 0 (words (length (plant_of s).arrows) (drop 8 index)) ≡ Left 0 0
  left_start =
      let all : length (plant_of s).arrows ≡ word 3 s - 0 = omega (arith, arrows_length s) in
      ap (λ (n : ℕ). climbs (plant_of s) 0 (words n (drop 8 index))) all

  left_end : (k least : ℕ) → word 3 s ≤ k → Left k least ≡ true
  unfolding climbs words
  left_end k least h = let e : word 3 s - k ≡ 0 = omega arith in rw e

  module _ (k : ℕ) (more : k < word 3 s) where
    -- the next number, and those after it
    abbrev pub Next : ℕ
    Next = word 0 (drop (8 + 2 * k) index)

    pub next_number : words (word 3 s - k) (drop (8 + 2 * k) index)
        ≡ Next ∷ words (word 3 s - (k + 1)) (drop (8 + 2 * (k + 1)) index)
    next_number =
        let e : word 3 s - k ≡ suc (word 3 s - (k + 1)) = omega arith in
        let at : 8 + 2 * k + 2 ≡ 8 + 2 * (k + 1) = omega arith in
        rw e
        (labels_more index (8 + 2 * k) (word 3 s - (k + 1))
        ∙ ap (λ (m : ℕ). Next ∷ words (word 3 s - (k + 1)) (drop m index)) at)

    module _ (least : ℕ) {next : ℕ} (told : next ≡ least_next s (word 3 s) least Next) where
      turn : Left k least ≡ Climbs s least Next && Left (k + 1) (suc (key_of (plant_of s) Next))
      unfolding climbs
      turn = ap (climbs (plant_of s) least) next_number

      -- the next number passes, or fails
      left_pass : (next ≡ 0 → ⊥) → Left k least ≡ Left (k + 1) next
      left_pass good =
          let yes = told_yes s least Next told good in
          turn
          ∙ ap (λ (b : Bool). b && Left (k + 1) (suc (key_of (plant_of s) Next))) yes.0
          ∙ sym (ap (Left (k + 1)) yes.1)

      left_fail : next ≡ 0 → Left k least ≡ false
      left_fail bad =
          turn
          ∙ ap (λ (b : Bool). b && Left (k + 1) (suc (key_of (plant_of s) Next))) (told_no s least Next told bad)

module _ (s index : List ℕ) where
  -- whether all numbers climb, what the headers say, and what the check tells
  abbrev pub All : Bool
  All = climbs (plant_of s) 0 (numbers_in (plant_of s) index)

  abbrev pub Opens : Bool
  Opens = head_ok s && opens_well (word 0 s) (word 3 s) index

  abbrev Checked : Bool
  Checked = head_ok s && ascends (plant_of s) index

  pub no_head : head_ok s ≡ false → false ≡ Opens
  no_head h = sym (ap (λ (b : Bool). b && opens_well (word 0 s) (word 3 s) index) h)

  pub past_head : head_ok s ≡ true → (states count : ℕ) → states ≡ word 0 s → count ≡ word 3 s
      → opens_well states count index ≡ Opens
  past_head h states count es ec =
      ap₂ (λ (x e : ℕ). opens_well x e index) es ec
      ∙ sym (ap (λ (b : Bool). b && opens_well (word 0 s) (word 3 s) index) h)

  -- the headers decide first, and then the numbers
  check_is : Checked ≡ (Opens && All)
  unfolding ascends
  check_is =
      ap (λ (b : Bool). head_ok s && (b && All))
      (ap₂ (λ (x e : ℕ). opens_well x e index) (plant_states s) (arrows_length s))
      ∙ sym (and_assoc (head_ok s) (opens_well (word 0 s) (word 3 s) index) All)

  pub no_opening : Opens ≡ false → false ≡ Checked
  no_opening h = sym (check_is ∙ ap (λ (b : Bool). b && All) h)

  -- behind good headers the numbers decide
  pub checked : Opens ≡ true → (b : Bool) → All ≡ b → b ≡ Checked
  checked h b e = sym (check_is ∙ ap (λ (c : Bool). c && All) h ∙ e)

-- a loop over the numbers: k of count are passed, and those left decide; plant and index are as long as they have to
-- be, and the end of the first arrow has its place
pub record Passed (s index : List ℕ) (count ends k least : ℕ) : Type 0 where
  pub within : k ≤ count
  pub many : count ≡ word 3 s
  pub place : ends ≡ 20 + 2 * word 0 s
  pub plant_long : 16 + 2 * word 0 s + 6 * count ≤ length s
  pub index_long_lem : length index ≡ 8 + 2 * count
  pub opened : Opens s index ≡ true
  pub rest : All s index ≡ Left s index k least

-- good headers say how long both are, and at first none is passed
pub pass_start : (s index : List ℕ) (count states : ℕ) → count ≡ word 3 s → states ≡ word 0 s → Opens s index ≡ true
    → Passed s index count (20 + 2 * states) 0 0
unfolding opens_well index_long
pass_start s index count states ec es h =
    let head = plant_head s (and_left (head_ok s) _ h) in
    let long = eqb-true (length index) (8 + 2 * word 3 s)
    (and_left (eqb (length index) (8 + 2 * word 3 s)) _ (and_right (head_ok s) _ h)) in
    record {
      within = omega arith;
      many = ec;
      place = omega arith;
      plant_long = omega (arith, head.long);
      index_long_lem = omega (arith, long);
      opened = h;
      rest = left_start s index;
    }

-- one turn of the loop: number k is read, and the least key after it is told
module _ {s index : List ℕ} {count ends k least n next : ℕ} (passed : Passed s index count ends k least)
    (more : k < count) (read : n ≡ get_or index (8 + 2 * k) 0 + 256 * get_or index (8 + 2 * k + 1) 0)
    (told : next ≡ least_next s count least n) where
  -- there is a number left, it is the next one, and what is told is told of it
  pub left : k < word 3 s
  left = omega (arith, passed.many)

  pub number_is : n ≡ Next s index k left
  number_is = read ∙ sym (word_here index (8 + 2 * k))

  pub next_is : next ≡ least_next s (word 3 s) least (Next s index k left)
  next_is = told ∙ ap₂ (λ (e m : ℕ). least_next s e least m) passed.many number_is

  -- it passes, or it fails
  pub pass_next : (next ≡ 0 → ⊥) → Passed s index count ends (k + 1) next
  pass_next good =
      record {
        within = omega arith;
        many = passed.many;
        place = passed.place;
        plant_long = passed.plant_long;
        index_long_lem = passed.index_long_lem;
        opened = passed.opened;
        rest = passed.rest ∙ left_pass s index k left least next_is good;
      }

  pub pass_fail : next ≡ 0 → All s index ≡ false
  pass_fail bad = passed.rest ∙ left_fail s index k left least next_is bad

  -- it is the number of an arrow
  pub number_low : (next ≡ 0 → ⊥) → n < count
  number_low good =
      let m = Next s index k left in
      let climbs_on = (told_yes s least m next_is good).0 in
      let low = ltb-true m (length (plant_of s).arrows) (and_left (ltb m (length (plant_of s).arrows)) _ climbs_on) in
      omega (arith, low, number_is, passed.many, arrows_length s)

-- all are passed
pub pass_end : {s index : List ℕ} {count ends k least : ℕ} → Passed s index count ends k least → count ≤ k
    → All s index ≡ true
pass_end {s} {index} {count} {ends} {k} {least} passed h =
    passed.rest ∙ left_end s index k least (omega (arith, passed.many))
