-- The loops that fill lists: ends and numbers of the arrows, the numbers of the index, and their bytes.
-- Assumes nothing.
use mathlib.Core.Path.{◌≡◌, refl, sym, ap, ap₂, ◌∙◌}
use mathlib.Core.Logic.{⊎_elim}
use mathlib.Core.Bool.{Bool, true, false, ◌&&◌}
use mathlib.Core.List.{List, [], ◌∷◌, ◌++◌, append_assoc}
use Prim.Native.Nat.{ℕ, ◌+◌, ◌*◌, ◌≤◌, ◌<◌}
use native.Mathlib.Omega.{arith}
use lib.Dec.{eqb, leb}
use borrow.Author.Tests.{eq-eqb, ne_eqb, le-leb, lt-leb}
use lib.ListN.{length, take, drop, set, length-set, length-append}
use lib.Seq.{take_at, get_or-set_same, get_or-set_other}
use Rattle.statements.specs.Sets.{pick, over}
use Rattle.statements.specs.Plants.{word, plant_of, plant_fault}
use Rattle.statements.specs.Books.{bytes_of}
use Rattle.statements.specs.Index.{by_end, index_long, index_bytes}
use Rattle.sets.proofs.Tests.{same_number, and_true, and_none}
use Rattle.decoding.proofs.Order.{arrows_length, ends_low, by_long}
use Rattle.format.specs.Arrows.{arrow_in}
use Rattle.format.proofs.Header.{plant_states}
use Rattle.sort.specs.Steps.{Holds}
use Rattle.index.specs.Steps.{index_numbers}
use Rattle.index.proofs.Bytes.{index_bytes_lem}

-- one number more is stored
holds_more : (f : ℕ → ℕ) (xs : List ℕ) (n v : ℕ) → Holds n f xs → n < length xs → v ≡ f n → Holds (n + 1) f (set xs n v)
holds_more f xs n v h room e t l =
    ⊎_elim
    (λ q. rw q (get_or-set_same xs n v 0 room ∙ e))
    (λ d. get_or-set_other xs n t v 0 d ∙ h t (omega arith))
    (same_number t n)

-- the loop over the arrows: the ends and the numbers of n of them are listed
pub record Listed (s : List ℕ) (count : ℕ) (ends numbers : List ℕ) (n : ℕ) : Type 0 where
  pub within : n ≤ count
  pub ends_room : count ≤ length ends
  pub numbers_room : count ≤ length numbers
  pub ends_are : Holds n (λ j. (arrow_in s j).to) ends
  pub numbers_are : Holds n (λ j. j) numbers

pub list_start : (s : List ℕ) (count : ℕ) (ends numbers : List ℕ) → count ≤ length ends → count ≤ length numbers
    → Listed s count ends numbers 0
list_start s count ends numbers e f =
    record {
      within = omega arith;
      ends_room = e;
      numbers_room = f;
      ends_are = λ t l. absurd (omega arith);
      numbers_are = λ t l. absurd (omega arith);
    }

pub list_next : {s : List ℕ} {count : ℕ} {ends numbers : List ℕ} {n : ℕ} (v : ℕ) → Listed s count ends numbers n
    → n < count → v ≡ (arrow_in s n).to → Listed s count (set ends n v) (set numbers n n) (n + 1)
list_next {s} {count} {ends} {numbers} {n} v l more e =
    record {
      within = omega arith;
      ends_room = rw length-set l.ends_room;
      numbers_room = rw length-set l.numbers_room;
      ends_are = holds_more (λ j. (arrow_in s j).to) ends n v l.ends_are (omega (arith, l.ends_room)) e;
      numbers_are = holds_more (λ j. j) numbers n n l.numbers_are (omega (arith, l.numbers_room)) refl;
    }

-- four numbers stored at the front
pub four : (l : List ℕ) (a b c d : ℕ) → 4 ≤ length l
    → take 4 (set (set (set (set l 0 a) 1 b) 2 c) 3 d) ≡ a ∷ (b ∷ (c ∷ (d ∷ [])))
four [] a b c d h = absurd (omega arith)
four (_ ∷ []) a b c d h = absurd (omega arith)
four (_ ∷ (_ ∷ [])) a b c d h = absurd (omega arith)
four (_ ∷ (_ ∷ (_ ∷ []))) a b c d h = absurd (omega arith)
four (_ ∷ (_ ∷ (_ ∷ (_ ∷ l)))) a b c d h = refl

-- the header's numbers, and the order written after them
pub filled : (s front part mid post : List ℕ) (states count : ℕ) → plant_fault s ≡ 0 → states ≡ word 0 s
    → count ≡ word 3 s → front ≡ states ∷ (count ∷ (8 ∷ (index_long count ∷ []))) → part ≡ over (by_end (plant_of s)) mid
    → take (4 + word 3 s) (front ++ (part ++ post)) ≡ index_numbers (plant_of s)
unfolding index_numbers over
filled s front part mid post states count fine es ec ef e =
    let by = by_end (plant_of s) in
    let rest = drop (length by) mid ++ post in
    let many = length (plant_of s).arrows in
    let start : front ≡ (plant_of s).states ∷ (many ∷ (8 ∷ (index_long many ∷ []))) =
    ef
    ∙ ap₂ (λ (x n : ℕ). x ∷ (n ∷ (8 ∷ (index_long n ∷ [])))) (es ∙ sym (plant_states s)) (ec ∙ sym (arrows_length s)) in
    let long : length (front ++ by) ≡ 4 + word 3 s =
    length-append front by
    ∙ ap₂ (λ (m n : ℕ). m + n) (ap length start) (by_long (plant_of s) (ends_low s fine) ∙ arrows_length s) in
    let whole : front ++ (part ++ post) ≡ (front ++ by) ++ rest =
    ap (λ (ys : List ℕ). front ++ (ys ++ post)) e
    ∙ ap (λ (ys : List ℕ). front ++ ys) (append_assoc by (drop (length by) mid) post)
    ∙ sym (append_assoc front by rest) in
    ap (take (4 + word 3 s)) whole
    ∙ take_at (front ++ by) rest (4 + word 3 s) long
    ∙ ap (λ (ys : List ℕ). ys ++ by) start

-- whether the index is written, and what is then answered and left in the buffer
module _ (s out : List ℕ) where
  abbrev Writes : Bool
  Writes = eqb (plant_fault s) 0 && leb (index_long (length (plant_of s).arrows)) (length out)

  abbrev Left : List ℕ
  Left = pick Writes (over (index_bytes (plant_of s)) out) out

  refused : Writes ≡ false → (false ≡ Writes) × (out ≡ Left)
  refused e = (sym e, sym (ap (λ (b : Bool). pick b (over (index_bytes (plant_of s)) out) out) e))

  -- the plant is refused, or there is no room
  pub no_plant : (plant_fault s ≡ 0 → ⊥) → (false ≡ Writes) × (out ≡ Left)
  no_plant h =
      refused
      (ap (λ (b : Bool). b && leb (index_long (length (plant_of s).arrows)) (length out)) (ne_eqb (plant_fault s) 0 h))

  pub no_room : (count : ℕ) → count ≡ word 3 s → length out < 2 * (4 + count) → (false ≡ Writes) × (out ≡ Left)
  unfolding index_long
  no_room count e h =
      refused
      (and_none (eqb (plant_fault s) 0) _
      (lt-leb (8 + 2 * length (plant_of s).arrows) (length out) (omega (arith, arrows_length s))))

  -- the bytes of the index's numbers are written
  pub written : (count : ℕ) (numbers new : List ℕ) → plant_fault s ≡ 0 → count ≡ word 3 s → 2 * (4 + count) ≤ length out
      → take (4 + word 3 s) numbers ≡ index_numbers (plant_of s) → new ≡ over (bytes_of (take (4 + count) numbers)) out
      → (true ≡ Writes) × (new ≡ Left)
  unfolding index_long
  written count numbers new fine e h are w =
      let yes : Writes ≡ true =
      and_true (eq-eqb (plant_fault s) 0 fine)
      (le-leb (8 + 2 * length (plant_of s).arrows) (length out) (omega (arith, arrows_length s))) in
      let bytes : bytes_of (take (4 + count) numbers) ≡ index_bytes (plant_of s) =
      ap bytes_of (ap (λ (n : ℕ). take (4 + n) numbers) e ∙ are) ∙ sym (index_bytes_lem (plant_of s)) in (
        sym yes,
        w
            ∙ ap (λ (ys : List ℕ). over ys out) bytes
            ∙ sym (ap (λ (b : Bool). pick b (over (index_bytes (plant_of s)) out) out) yes),
      )
