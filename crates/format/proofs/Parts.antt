-- Labels and arrows of a plant one after another: what a loop has left from a place on. Assumes nothing.
use mathlib.Core.Path.{◌≡◌, refl, sym, ap, ◌∙◌}
use mathlib.Core.Bool.{Bool, true, false, ◌&&◌, and_assoc}
use mathlib.Core.Bool.{and-true as and_yes}
use mathlib.Core.List.{List, [], ◌∷◌}
use Prim.Native.Nat.{ℕ, zero, suc, ◌+◌, ◌-◌, ◌*◌, ◌^◌, ◌≤◌, ◌<◌}
use native.Mathlib.Nat.{le_refl, not-suc-le-zero, le_of_suc-le-suc, add-zero}
use native.Mathlib.Numerals.{add-one}
use native.Mathlib.Omega.{arith}
use lib.Dec.{ltb, leb}
use lib.ListN.{length, get_or, take, drop, set, get_or-eq_default}
use lib.Seq.{take_all, drop-drop}
use lib.Bits.{bit_and, bit_or}
use Rattle.statements.specs.Sets.{pick, over}
use Rattle.statements.specs.Plants.{word, Arrow, words, plant_of, arrows_from, labels_ok, rank, arrows_ok}
use Rattle.sets.proofs.Over.{copy_more}
use Rattle.decoding.proofs.Faults.{words_length}
use Rattle.format.specs.declared.arrows.Arrow.{Arrow as ReadArrow}
use Rattle.format.specs.Arrows.{arrow_from, plant_arrow}
use Rattle.format.specs.Checks.{least_after}
use Rattle.format.proofs.Words.{word_further}
use Rattle.format.proofs.Bits.{low_or, picked_or, low_none}

-- a number that is not 0 is one more than its predecessor
pub one_less : (n : ℕ) → 0 < n → n ≡ suc (n - 1)
one_less n h = omega arith

-- the arrow at a place
abbrev pub arrow_at : List ℕ → ℕ → Arrow
arrow_at s at =
    record { from = word 0 (drop at s); move = word 0 (drop (at + 2) s); to = word 0 (drop (at + 4) s) }

module _ (s : List ℕ) (at k : ℕ) where
  -- one label more from a place on
  pub labels_more : words (suc k) (drop at s) ≡ word 0 (drop at s) ∷ words k (drop (at + 2) s)
  unfolding words
  labels_more = rw drop-drop

  -- one arrow more from a place on
  pub arrows_more : arrows_from (suc k) (drop at s) ≡ arrow_at s at ∷ arrows_from k (drop (at + 6) s)
  unfolding arrows_from
  arrows_more = rw (drop-drop 6, word_further s at 1, word_further s at 2)

-- the label of a state
pub label_at : (s : List ℕ) (at n x : ℕ) → x < n → get_or (words n (drop at s)) x 0 ≡ word 0 (drop (at + 2 * x) s)
label_at s at zero x h = absurd (not-suc-le-zero h)
label_at s at (suc n) zero h = rw (labels_more, add-zero)
label_at s at (suc n) (suc x) h =
    let k : at + 2 + 2 * x ≡ at + 2 * suc x = omega arith in
    rw labels_more (label_at s (at + 2) n x (le_of_suc-le-suc h) ∙ ap (λ (m : ℕ). word 0 (drop m s)) k)

-- a number past the last state has label 0
pub label_past : (s : List ℕ) (at n x : ℕ) → n ≤ x → get_or (words n (drop at s)) x 0 ≡ 0
label_past s at n x h = get_or-eq_default (words n (drop at s)) 0 (rw words_length h)

-- the labels written one after another over the front of a list: one more
pub labels_put : (s old to : List ℕ) (n x v : ℕ) → x < n → n ≤ length old → to ≡ over (take x (words n (drop 16 s))) old
    → v ≡ word 0 (drop (16 + 2 * x) s) → set to x v ≡ over (take (x + 1) (words n (drop 16 s))) old
labels_put s old to n x v h room e is =
    let labels = words n (drop 16 s) in
    ap (set to x) (is ∙ sym (label_at s 16 n x h))
    ∙ copy_more labels old to x (rw words_length h) (rw words_length room) e

-- and the last
pub labels_done : (s old to : List ℕ) {n x : ℕ} → n ≡ word 0 s → x ≡ n → to ≡ over (take x (words n (drop 16 s))) old
    → to ≡ over (plant_of s).labels old
unfolding plant_of
labels_done s old to {n} {x} en ex e =
    let labels = words (word 0 s) (drop 16 s) in
    let long : length labels ≤ word 0 s = rw words_length (le_refl (word 0 s)) in
    rw (ex, en) at e ∙ ap (λ (ys : List ℕ). over ys old) (take_all (word 0 s) labels long)

-- a loop over labels: those joined so far and those from a place on stand for all
module _ (free : Bool) (goals : ℕ) where
  -- a label, or several joined, has no bit out of range
  abbrev pub Low : ℕ → Bool
  Low l = ltb (pick free (l - bit_and l 512) l) (2 ^ suc goals)

  -- two joined have none just when each has none
  low_joined : (a b : ℕ) → Low (bit_or a b) ≡ Low a && Low b
  low_joined a b = ap (λ (l : ℕ). ltb l (2 ^ suc goals)) (picked_or free a b) ∙ low_or (suc goals) _ _

  module _ (s : List ℕ) where
    -- the labels from the place on are in range
    abbrev pub Rest : ℕ → ℕ → Bool
    Rest at left = labels_ok free goals (words left (drop at s))

    -- the next one is joined
    labels_join : (all at left l : ℕ) → 0 < left → l ≡ word 0 (drop at s)
        → Low all && Rest at left ≡ Low (bit_or all l) && Rest (at + 2) (left - 1)
    unfolding labels_ok
    labels_join all at left l more is =
        ap (λ (n : ℕ). Low all && Rest at n) (one_less left more)
        ∙ ap (λ (ls : List ℕ). Low all && labels_ok free goals ls)
        (labels_more s at (left - 1) ∙ ap (λ (x : ℕ). x ∷ words (left - 1) (drop (at + 2) s)) (sym is))
        ∙ sym (and_assoc (Low all) (Low l) _)
        ∙ ap (λ (t : Bool). t && Rest (at + 2) (left - 1)) (sym (low_joined all l))

    module _ (count : ℕ) where
      -- the first k labels are joined
      abbrev pub Joined : ℕ → ℕ → Type 0
      Joined k all = Rest 16 count ≡ Low all && Rest (16 + 2 * k) (count - k)

      -- none is
      pub labels_start : Joined 0 0
      labels_start =
          let place : 16 + 2 * 0 ≡ 16 = omega arith in
          let left : count - 0 ≡ count = omega arith in
          rw (place, left) (sym (ap (λ (t : Bool). t && Rest 16 count) (low_none free (suc goals))))

      -- one more
      pub labels_next : (k all l : ℕ) → k < count → l ≡ word 0 (drop (16 + 2 * k) s) → Joined k all
          → Joined (k + 1) (bit_or all l)
      labels_next k all l more is j =
          let place : 16 + 2 * k + 2 ≡ 16 + 2 * (k + 1) = omega arith in
          let left : count - k - 1 ≡ count - (k + 1) = omega arith in
          rw (← place, ← left) (j ∙ labels_join all (16 + 2 * k) (count - k) l (omega arith) is)

      -- all are
      pub labels_end : (k all : ℕ) → count ≤ k → Joined k all → Low all ≡ Rest 16 count
      unfolding labels_ok words
      labels_end k all done j =
          let left : count - k ≡ 0 = omega arith in
          sym (rw left at j ∙ and_yes (Low all))

-- the least rank after an arrow, told from its own rank
pub least_is : (states moves least : ℕ) (a : ReadArrow) {r : ℕ}
    → r ≡ 65536 * (65536 * a.from) + (65536 * a.action + a.to)
    → least_after states moves least a
    ≡ pick (ltb a.from states && (ltb a.action moves && (ltb a.to states && leb least r))) (r + 1) 0
unfolding least_after
least_is states moves least a e = rw e refl

-- a number above 0 was picked by a test that holds
picked : (b : Bool) (r : ℕ) → (pick b (r + 1) 0 ≡ 0 → ⊥) → b ≡ true
picked true r h = refl
picked false r h = absurd (h refl)

-- 0 was picked by a test that does not
passed_by : (b : Bool) (r : ℕ) → pick b (r + 1) 0 ≡ 0 → b ≡ false
passed_by true r h = let z : ⊥ = omega (arith, h) in absurd z
passed_by false r h = refl

-- no arrow is left
pub none_left : (n : ℕ) (s : List ℕ) → n ≡ 0 → arrows_from n s ≡ []
unfolding arrows_from
none_left n s e = rw e refl

-- the arrow that starts at a place, and those after it
pub arrow_taken : (s : List ℕ) (at n : ℕ) → 0 < n
    → arrows_from n (drop at s) ≡ plant_arrow (arrow_from s at) ∷ arrows_from (n - 1) (drop (at + 6) s)
unfolding arrow_from
arrow_taken s at n more =
    ap (λ (m : ℕ). arrows_from m (drop at s)) (one_less n more) ∙ arrows_more s at (n - 1)

-- a loop over a plant's arrows: the next one is tested, and the rest stand for all
module _ (states moves : ℕ) where
  -- from no arrow on they ascend
  pub ascend_end : (least : ℕ) (left : List Arrow) → left ≡ [] → arrows_ok states moves least left ≡ true
  unfolding arrows_ok
  ascend_end least left none = rw none refl

  module _ (least : ℕ) (a : ReadArrow) (rest : List Arrow) where
    -- the rank of the next arrow
    abbrev Rank : ℕ
    Rank = 65536 * (65536 * a.from) + (65536 * a.action + a.to)

    -- it is in range and ascends
    abbrev First : Bool
    First = ltb a.from states && (ltb a.action moves && (ltb a.to states && leb least Rank))

    -- one turn: the next arrow, and those after it
    ascend_turn : arrows_ok states moves least (plant_arrow a ∷ rest) ≡ First && arrows_ok states moves (Rank + 1) rest
    unfolding arrows_ok rank
    ascend_turn = simp (and_assoc, add-one)

    -- the next arrow passes
    pub ascend_pass : (least_after states moves least a ≡ 0 → ⊥)
        → arrows_ok states moves least (plant_arrow a ∷ rest)
        ≡ arrows_ok states moves (least_after states moves least a) rest
    unfolding least_after
    ascend_pass good =
        let e = picked First Rank good in
        ascend_turn
        ∙ ap (λ (b : Bool). b && arrows_ok states moves (Rank + 1) rest) e
        ∙ sym (ap (λ (b : Bool). arrows_ok states moves (pick b (Rank + 1) 0) rest) e)

    -- it fails
    pub ascend_fail : least_after states moves least a ≡ 0
        → arrows_ok states moves least (plant_arrow a ∷ rest) ≡ false
    unfolding least_after
    ascend_fail bad =
        ascend_turn ∙ ap (λ (b : Bool). b && arrows_ok states moves (Rank + 1) rest) (passed_by First Rank bad)
