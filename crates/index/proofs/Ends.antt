-- The numbers of the index are what a stable sort gives: the arrow numbers by the state in which each arrow ends.
-- Assumes nothing.
use mathlib.Core.Path.{◌≡◌, refl, sym, ap, ap₂, ◌∙◌}
use mathlib.Core.Bool.{Bool, true}
use mathlib.Core.List.{List, [], ◌∷◌, map, map-id}
use Prim.Native.Nat.{ℕ, suc, ◌+◌, ◌≤◌, ◌<◌}
use native.Mathlib.Omega.{arith}
use lib.Dec.{eqb}
use lib.ListN.{length, get_or, take}
use lib.Seq.{length-take-le, get_or-take}
use Rattle.statements.specs.Sets.{pick, numbers, over, is_in, cons_if, filter}
use Rattle.statements.specs.Plants.{word, Arrow, Plant, plant_of, plant_fault}
use Rattle.statements.specs.Index.{arrows_to, by_end, end_of}
use Rattle.sets.proofs.Joined.{joined_same}
use Rattle.sets.proofs.Members.{is_in_here, is_in_there}
use Rattle.decoding.proofs.Faults.{states_few}
use Rattle.decoding.proofs.Order.{arrows_length, to_of, each, ends_low, count_few, arrows_few}
use Rattle.format.specs.Arrows.{arrow_in}
use Rattle.format.proofs.Header.{plant_states}
use Rattle.sort.specs.Sorted.{places_of, order_of, sorted_by, sortable}
use Rattle.sort.specs.Steps.{Holds}
use Rattle.sort.proofs.Fitting.{sortable_yes}
use Rattle.index.proofs.Passing.{end_read}

-- the arrows that end in y, as the numbers at which a function gives y
to_filter : (rs : List Arrow) (k y : ℕ) (f : ℕ → ℕ) → ((j : ℕ) → j < length rs → f (k + j) ≡ to_of rs j)
    → arrows_to rs k y ≡ filter (λ a. eqb (f a) y) (numbers (length rs) k)
unfolding arrows_to filter numbers
to_filter [] k y f h = refl
to_filter (a ∷ rest) k y f h =
    let here : k + 0 ≡ k = omega arith in
    let first : f k ≡ a.to = ap f (sym here) ∙ h 0 (omega arith) in
    ap₂ (λ (b : Bool) (xs : List ℕ). cons_if b k xs) (ap (λ (v : ℕ). eqb v y) (sym first))
    (to_filter rest (suc k) y f
    (λ j l. let there : suc k + j ≡ k + suc j = omega arith in ap f there ∙ h (suc j) (omega arith)))

-- functions that give the same for each number of a list
map_same : (f g : ℕ → ℕ) (xs : List ℕ) → ((x : ℕ) → is_in x xs ≡ true → f x ≡ g x) → map f xs ≡ map g xs
map_same f g [] h = refl
map_same f g (x ∷ xs) h =
    ap₂ (λ (v : ℕ) (vs : List ℕ). v ∷ vs) (h x (is_in_here x xs)) (map_same f g xs (λ y i. h y (is_in_there y x xs i)))

-- with the ends of the arrows as keys
module _ (p : Plant) (keys : List ℕ) (long : length keys ≡ length p.arrows)
    (ends : Holds (length p.arrows) (end_of p) keys) where
  by_order : by_end p ≡ order_of p.states keys
  unfolding by_end order_of places_of
  by_order =
      joined_same (arrows_to p.arrows 0) (places_of keys (length keys)) p.states 0
      (λ y l h.
      to_filter p.arrows 0 y (λ a. get_or keys a 0)
      (λ j m. let z : 0 + j ≡ j = omega arith in rw z (ends j m))
      ∙ ap (λ (n : ℕ). filter (λ a. eqb (get_or keys a 0) y) (numbers n 0)) (sym long))

  -- so the sort by them gives what the arrows have, in the order of the index
  pub by_sorted : (vals : List ℕ) (f : ℕ → ℕ) → Holds (length p.arrows) f vals
      → ((e : ℕ) → e < length p.arrows → end_of p e < p.states) → length p.arrows ≤ 8192
      → map f (by_end p) ≡ sorted_by p.states keys vals
  unfolding sorted_by
  by_sorted vals f own low few =
      map_same f (λ a. get_or vals a 0) (by_end p) (λ a i. sym (own a ((each p low few a).0 i)))
      ∙ ap (map (λ a. get_or vals a 0)) by_order

-- so the sort of the ends and numbers listed gives the index's numbers
pub sorted_is : (s : List ℕ) → plant_fault s ≡ 0 → (ends numbers old new : List ℕ) (count states starts : ℕ)
    → count ≡ word 3 s → states ≡ word 0 s → count ≤ length ends → count ≤ length numbers → states < starts
    → count ≤ length old → Holds count (λ n. (arrow_in s n).to) ends → Holds count (λ n. n) numbers
    → new ≡ pick (sortable (length (take count ends)) (length numbers) states starts (length old))
    (over (sorted_by states (take count ends) numbers) old) old
    → new ≡ over (by_end (plant_of s)) old
sorted_is s fine ends numbers old new count states starts ec es long valued begun room are own e =
    let p = plant_of s in
    let many : length p.arrows ≡ count = arrows_length s ∙ sym ec in
    let keys = take count ends in
    let keys_long : length keys ≡ count = length-take-le count ends long in
    let few = count_few s fine in
    let fits : sortable (length keys) (length numbers) states starts (length old) ≡ true =
    sortable_yes (length keys) (length numbers) states starts (length old)
    (omega (arith, states_few s fine, plant_states s)) (omega arith) (omega arith) begun (omega arith) in
    let by : by_end p ≡ sorted_by p.states keys numbers =
    sym (map-id (by_end p))
    ∙ by_sorted p keys (keys_long ∙ sym many)
    (λ a h.
    get_or-take count ends a 0 (omega arith) ∙ are a (omega arith) ∙ end_read s a (omega (arith, arrows_length s)))
    numbers (λ a. a) (λ a h. own a (omega arith)) (ends_low s fine) (arrows_few s fine) in
    let here : p.states ≡ states = plant_states s ∙ sym es in
    e
    ∙ ap (λ (b : Bool). pick b (over (sorted_by states keys numbers) old) old) fits
    ∙ ap (λ (xs : List ℕ). over xs old) (sym (by ∙ ap (λ (n : ℕ). sorted_by n keys numbers) here))
