-- Lists packed one after the other into one list: what stands where a part is replaced, and what is kept before it.
-- Assumes nothing.
use mathlib.Core.Path.{◌≡◌, refl, sym, ap, ◌∙◌}
use mathlib.Core.Bool.{Bool, true}
use mathlib.Core.List.{List, ◌++◌, append_assoc}
use Prim.Native.Nat.{ℕ, ◌+◌, ◌-◌, ◌*◌, ◌≤◌}
use native.Mathlib.Omega.{arith}
use borrow.Author.Tests.{le-ltb}
use lib.ListN.{length, take, length-take, length-append}
use lib.Seq.{take-append-le, take_at, drop_at, take-take}
use Rattle.statements.specs.Sets.{pick, over}
use Rattle.statements.specs.Plants.{word, plant_of}
use Rattle.sets.proofs.Over.{over_back}
use Rattle.format.specs.Checks.{labels_fit}
use Rattle.layout.specs.Layout.{Front}
use Rattle.sort.specs.Sorted.{sorted_by, starts_of}
use Rattle.game.specs.Packed.{places_in}
use Rattle.graph.specs.Steps.{Alike, Linked}

-- fewer of the first numbers are the same too, also from a place on
alike_less : (a b : ℕ) (xs ys : List ℕ) → Alike a xs ys → b ≤ a → Alike b xs ys
alike_less a b xs ys e h = sym (take-take b a xs h) ∙ ap (take b) e ∙ take-take b a ys h

-- a list that begins another, by the first numbers of that one, and from a place on
pub front_fits : (vs ys : List ℕ) → Front vs ys → length vs ≤ length ys
front_fits vs ys e = omega (arith, ap length e, length-take (length vs) ys)

pub front_alike : (n : ℕ) (vs xs ys : List ℕ) → Alike n xs ys → length vs ≤ n → Front vs ys → Front vs xs
front_alike n vs xs ys e h f = alike_less n (length vs) xs ys e h ∙ f

-- a list written over the first numbers
pub over_front : (vs old : List ℕ) → Front vs (over vs old)
over_front vs old = over_back vs old (length vs) refl

-- a label for each state
pub front_labels : (s old new : List ℕ) → 16 + 2 * word 0 s ≤ length s → word 0 s ≤ length old
    → new ≡ pick (labels_fit s old) (over (plant_of s).labels old) old → Front (plant_of s).labels new
unfolding labels_fit
front_labels s old new long room e =
    let fit : labels_fit s old ≡ true = rw (le-ltb _ _ long, le-ltb _ _ room) in
    ap (take (length (plant_of s).labels)) (e ∙ ap (λ (b : Bool). pick b (over (plant_of s).labels old) old) fit)
    ∙ over_back (plant_of s).labels old (length (plant_of s).labels) refl

-- what is picked where a test holds
pub picked : {A : Type 0} (b : Bool) (z x y : A) → b ≡ true → z ≡ pick b x y → z ≡ x
picked b z x y e h = rw e at h

-- a list that begins the first of two
pub front_append : (vs xs rest : List ℕ) → Front vs xs → Front vs (xs ++ rest)
front_append vs xs rest f = take-append-le (length vs) xs rest (front_fits vs xs f) ∙ f

-- the sorted groups, the starts and the labels, put one past the other behind what is kept of a graph
module _ (plant ends owners g kept rev starts from labels : List ℕ) where
  abbrev Whole : List ℕ
  Whole = (kept ++ rev) ++ (starts ++ labels)

  pub linked : 2049 ≤ length g → kept ≡ take (places_in (length g)) g → length kept ≡ places_in (length g)
      → length (kept ++ rev) ≡ length g - 2049 → length starts ≡ 1025 → length labels ≡ 1024
      → Front (sorted_by (word 0 plant) ends owners) rev
      → starts ≡ over (starts_of (word 0 plant) ends) from
      → Front (plant_of plant).labels labels → Linked plant ends owners g Whole
  linked long kept_is kept_size rev_size starts_size labels_size sorted started labelled =
      let links = sorted_by (word 0 plant) ends owners in
      let at = starts_of (word 0 plant) ends in
      let tail = starts ++ labels in
      let size : length Whole ≡ length g =
      omega (arith, length-append (kept ++ rev) tail, length-append starts labels) in
      let grouped : Whole ≡ kept ++ (rev ++ tail) = simp append_assoc in
      let last : Whole ≡ ((kept ++ rev) ++ starts) ++ labels = simp append_assoc in
      let before : length ((kept ++ rev) ++ starts) ≡ length g - 1024 =
      omega (arith, length-append (kept ++ rev) starts) in
      record {
        kept = rw (size, grouped) (take_at kept (rev ++ tail) (places_in (length g)) kept_size ∙ kept_is);
        rev_in_lem =
            rw (size, grouped, drop_at kept (rev ++ tail) (places_in (length g)) kept_size)
            (front_append links rev tail sorted);
        starts_in_lem =
            rw (size, drop_at (kept ++ rev) tail (length g - 2049) rev_size)
            (front_append at starts labels (rw started (over_front at from)));
        labels_in_lem =
            rw (size, last, drop_at ((kept ++ rev) ++ starts) labels (length g - 1024) before) labelled;
      }
