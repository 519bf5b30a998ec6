-- The check of an index is exact: of an accepted plant some bytes pass it exactly where they are the plant's index.
-- Numbers whose keys strictly rise are each there once, so E numbers of arrows are all of them, in the one order.
-- Assumes nothing.
use mathlib.Core.Path.{◌≡◌, refl, sym, ap, ap₂, ◌∙◌}
use mathlib.Core.Logic.{inl, inr}
use mathlib.Core.Bool.{true, ◌&&◌}
use mathlib.Core.List.{List, [], ◌∷◌}
use Prim.Native.Nat.{ℕ, suc, ◌+◌, ◌*◌, ◌<◌}
use native.Mathlib.Omega.{arith}
use lib.Dec.{ltb, leb}
use lib.ListN.{length, get_or, drop}
use borrow.Author.Tests.{ltb-true, lt-ltb, leb-true, le-leb, eqb-true, eq-eqb}
use Rattle.statements.specs.Sets.{is_in}
use Rattle.statements.specs.Plants.{word, words, Plant, plant_of, head_ok, plant_fault}
use Rattle.statements.specs.Books.{bytes_of}
use Rattle.statements.specs.Index.{by_end, index_long, index_bytes, same_bytes}
use Rattle.sets.proofs.Tests.{same_test, and_true, and_left, and_right, and_iff}
use Rattle.sets.proofs.Members.{is_in_none, is_in_here, is_in_there, is_in_cases}
use Rattle.sets.proofs.Keys.{KeyFrom, key_same}
use Rattle.decoding.proofs.Faults.{words_length, plant_tests}
use Rattle.decoding.proofs.Sizes.{bytes_length}
use Rattle.decoding.proofs.Order.{ends_low, arrows_few, each, by_long, all_rise}
use Rattle.decoding.proofs.Indexed.{same_iff}
use Rattle.index.specs.Checked.{key_of, climbs, opens_well, numbers_in, ascends}
use Rattle.index.specs.Steps.{index_numbers}
use Rattle.index.proofs.Bytes.{words_back, bytes_back, four_words, index_bytes_lem}

-- numbers that climb are those of arrows, and their keys rise
climbs_low : (p : Plant) (least : ℕ) (ns : List ℕ) → climbs p least ns ≡ true
    → (e : ℕ) → is_in e ns ≡ true → e < length p.arrows
unfolding climbs
climbs_low p least [] h e i = absurd (is_in_none e i)
climbs_low p least (n ∷ ns) h e i =
    let here = and_left (ltb n (length p.arrows) && leb least (key_of p n)) _ h in
    let low = ltb-true n (length p.arrows) (and_left (ltb n (length p.arrows)) _ here) in
    elim (is_in_cases e n ns i) [
      | inl q ↦ rw q low
      | inr m ↦
          let later = and_right (ltb n (length p.arrows) && leb least (key_of p n)) _ h in
          climbs_low p (suc (key_of p n)) ns later e m
    ]

climbs_rise : (p : Plant) (least : ℕ) (ns : List ℕ) → climbs p least ns ≡ true → KeyFrom (key_of p) least ns
unfolding climbs
climbs_rise p least [] h = tt
climbs_rise p least (n ∷ ns) h =
    let here = and_left (ltb n (length p.arrows) && leb least (key_of p n)) _ h in (
      leb-true least (key_of p n) (and_right (ltb n (length p.arrows)) _ here),
      climbs_rise p (suc (key_of p n)) ns (and_right (ltb n (length p.arrows) && leb least (key_of p n)) _ h),
    )

-- and the other way round
rise_climbs : (p : Plant) (least : ℕ) (ns : List ℕ) → KeyFrom (key_of p) least ns
    → ((e : ℕ) → is_in e ns ≡ true → e < length p.arrows) → climbs p least ns ≡ true
unfolding climbs
rise_climbs p least [] h low = refl
rise_climbs p least (n ∷ ns) h low =
    and_true (and_true (lt-ltb n (length p.arrows) (low n (is_in_here n ns))) (le-leb least (key_of p n) h.0))
    (rise_climbs p (suc (key_of p n)) ns h.1 (λ e i. low e (is_in_there e n ns i)))

-- what the header of an index says
record Opened (states e : ℕ) (index : List ℕ) : Type 0 where
  long : length index ≡ 8 + 2 * e
  first : word 0 index ≡ states
  second : word 1 index ≡ e
  third : word 2 index ≡ 8
  fourth : word 3 index ≡ index_long e

opened : (states e : ℕ) (index : List ℕ) → opens_well states e index ≡ true → Opened states e index
unfolding opens_well index_long
opened states e index h =
    let t = simp and_iff at h in
    record {
      long = eqb-true _ _ t.0;
      first = eqb-true _ _ t.1.0;
      second = eqb-true _ _ t.1.1.0;
      third = eqb-true _ _ t.1.1.1.0;
      fourth = eqb-true _ _ t.1.1.1.1;
    }

opens : (states e : ℕ) (index : List ℕ) → Opened states e index → opens_well states e index ≡ true
unfolding opens_well index_long
opens states e index o =
    and_true (eq-eqb _ _ o.long)
    (and_true (eq-eqb _ _ o.first)
    (and_true (eq-eqb _ _ o.second) (and_true (eq-eqb _ _ o.third) (eq-eqb _ _ o.fourth))))

module _ (s : List ℕ) (fine : plant_fault s ≡ 0) (index : List ℕ) where
  abbrev p : Plant
  p = plant_of s

  abbrev E : ℕ
  E = length p.arrows

  long : length (by_end p) ≡ E
  long = by_long p (ends_low s fine)

  -- their keys rise
  rises : KeyFrom (key_of p) 0 (by_end p)
  unfolding key_of
  rises = all_rise p (ends_low s fine) (arrows_few s fine)

  -- numbers that climb, as many as there are arrows, are those of the index
  only_order : (ns : List ℕ) → length ns ≡ E → climbs p 0 ns ≡ true → ns ≡ by_end p
  only_order ns many h =
      key_same (key_of p) 0 0 ns (by_end p) (climbs_rise p 0 ns h) rises
      (λ e i. (each p (ends_low s fine) (arrows_few s fine) e).1 (climbs_low p 0 ns h e i)) (many ∙ sym long)

  -- bytes that pass are the index's
  passes_same : ((k : ℕ) → get_or index k 0 < 256) → ascends p index ≡ true → index ≡ index_bytes p
  unfolding ascends index_numbers
  passes_same bytes h =
      let o = opened p.states E index (and_left (opens_well p.states E index) _ h) in
      let ns = words E (drop 8 index) in
      let order = only_order ns (words_length E (drop 8 index)) (and_right (opens_well p.states E index) _ h) in
      let numbers : words (suc (suc (suc (suc E)))) index ≡ index_numbers p =
      four_words E index ∙ rw (o.first, o.second, o.third, o.fourth, order) in
      sym (bytes_back (suc (suc (suc (suc E)))) index (o.long ∙ omega arith) bytes)
      ∙ ap bytes_of numbers
      ∙ sym (index_bytes_lem p)

  -- what is read from the index
  many : length (index_numbers p) ≡ suc (suc (suc (suc E)))
  unfolding index_numbers
  many = ap (λ (n : ℕ). suc (suc (suc (suc n)))) long

  read_back : index ≡ index_bytes p
      → word 0 index ∷ (word 1 index ∷ (word 2 index ∷ (word 3 index ∷ numbers_in p index)))
      ≡ p.states ∷ (E ∷ (8 ∷ (index_long E ∷ by_end p)))
  unfolding index_numbers
  read_back e =
      sym (four_words E index)
      ∙ ap₂ (λ (n : ℕ) (i : List ℕ). words n i) (sym many) (e ∙ index_bytes_lem p)
      ∙ words_back (index_numbers p)

  pub index_numbers_lem : index ≡ index_bytes p → numbers_in p index ≡ by_end p
  index_numbers_lem e = ap (drop 4) (read_back e)

  -- it passes
  pub same_passes : index ≡ index_bytes p → ascends p index ≡ true
  unfolding ascends
  same_passes e =
      let all = e ∙ index_bytes_lem p in
      let read = read_back e in
      let o : Opened p.states E index = record {
        long = ap length all ∙ bytes_length (index_numbers p) ∙ omega (arith, many);
        first = ap (λ (xs : List ℕ). get_or xs 0 0) read;
        second = ap (λ (xs : List ℕ). get_or xs 1 0) read;
        third = ap (λ (xs : List ℕ). get_or xs 2 0) read;
        fourth = ap (λ (xs : List ℕ). get_or xs 3 0) read;
      } in
      let numbers = index_numbers_lem e in
      and_true (opens p.states E index o)
      (rw numbers (rise_climbs p 0 (by_end p) rises
      (λ a i. (each p (ends_low s fine) (arrows_few s fine) a).0 i)))

  -- so the check is exact
  pub ascends_exactly : ((k : ℕ) → get_or index k 0 < 256) → ascends p index ≡ same_bytes index (index_bytes p)
  ascends_exactly bytes =
      same_test (ascends p index) (same_bytes index (index_bytes p))
      (λ h. (same_iff index (index_bytes p)).1 (passes_same bytes h))
      (λ h. same_passes ((same_iff index (index_bytes p)).0 h))

  -- with the plant's header too, which is good
  pub index_exactly : ((k : ℕ) → get_or index k 0 < 256)
      → (head_ok s && ascends p index) ≡ same_bytes index (index_bytes p)
  index_exactly bytes = rw (plant_tests s fine).0 (ascends_exactly bytes)
