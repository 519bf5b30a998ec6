-- The loop over the nodes before the walk, turn by turn: the nodes that can have a wait are counted. Assumes nothing.
use mathlib.Core.Path.{◌≡◌, refl, ap, ◌∙◌}
use mathlib.Core.Bool.{Bool, true, false, ◌||◌}
use mathlib.Core.List.{List, []}
use Prim.Native.Nat.{ℕ, ◌+◌, ◌≤◌}
use native.Mathlib.Omega.{arith}
use lib.Dec.{ltb}
use lib.ListN.{length, get_or, length-append}
use Rattle.statements.specs.Sets.{numbers, filter, cons_if}
use Rattle.sets.proofs.Members.{numbers_more, filter_snoc}
use Rattle.game.specs.Steps.{possible}
use Rattle.game.proofs.Counts.{count_most}

-- a count of one number more
module _ (test : ℕ → Bool) (x : ℕ) where
  count_more : (b : Bool) → test x ≡ b
      → length (filter test (numbers (x + 1) 0)) ≡ length (filter test (numbers x 0)) + length (cons_if b x [])
  count_more b e =
      ap length (ap (filter test) (numbers_more x) ∙ filter_snoc test (numbers x 0) x)
      ∙ (length-append (filter test (numbers x 0)) (cons_if (test x) x [])
      ∙ ap (λ (c : Bool). length (filter test (numbers x 0)) + length (cons_if c x [])) e)

  count_yes : test x ≡ true → length (filter test (numbers (x + 1) 0)) ≡ length (filter test (numbers x 0)) + 1
  count_yes e = count_more true e

  count_no : test x ≡ false → length (filter test (numbers (x + 1) 0)) ≡ length (filter test (numbers x 0))
  count_no e = omega (arith, count_more false e)

-- the nodes that can have a wait
module _ (member w : List ℕ) where
  pub possible_none : length (possible 0 member w) ≡ 0
  unfolding possible filter numbers
  possible_none = refl

  pub possible_few : (n : ℕ) → length (possible n member w) ≤ n
  unfolding possible
  possible_few n = count_most n (λ y. ltb (get_or member y 0) 1 || ltb (get_or w y 0) 1)

  pub possible_yes : (x : ℕ) → (ltb (get_or member x 0) 1 || ltb (get_or w x 0) 1) ≡ true
      → length (possible (x + 1) member w) ≡ length (possible x member w) + 1
  unfolding possible
  possible_yes x e = count_yes (λ y. ltb (get_or member y 0) 1 || ltb (get_or w y 0) 1) x e

  pub possible_no : (x : ℕ) → (ltb (get_or member x 0) 1 || ltb (get_or w x 0) 1) ≡ false
      → length (possible (x + 1) member w) ≡ length (possible x member w)
  unfolding possible
  possible_no x e = count_no (λ y. ltb (get_or member y 0) 1 || ltb (get_or w y 0) 1) x e
