-- The checks of the arrays, and what they say. Assumes nothing.
use mathlib.Core.Path.{◌≡◌, refl, sym, ap, ◌∙◌}
use mathlib.Core.Bool.{Bool, true, false, ◌&&◌}
use mathlib.Core.List.{List}
use Prim.Native.Nat.{ℕ, ◌+◌, ◌*◌, ◌<◌, ◌≤◌}
use native.Mathlib.Omega.{arith}
use borrow.Author.Tests.{lt-ltb, le-leb, leb-true, ltb-true}
use lib.Dec.{eqb, ltb, leb}
use lib.ListN.{length, get_or}
use Rattle.sets.proofs.Tests.{and_iff}
use Rattle.sets.proofs.Numbers.{every_at, every_all}
use Rattle.arrays.proofs.Guards.{small_product}
use Rattle.game.specs.Walked.{nodes, ordered, all_below}
use Rattle.game.specs.Packed.{places_in, roomy_for}

-- a limit for each number
module _ (xs : List ℕ) (limit : ℕ) where
  pub below_yes : ((i : ℕ) → i < length xs → get_or xs i 0 < limit) → true ≡ all_below xs limit
  unfolding all_below
  below_yes h =
      sym (every_all (length xs) 0 (λ k. ltb (get_or xs k 0) limit)
      (λ k low high. lt-ltb (get_or xs k 0) limit (h k (omega arith))))

  pub below_at : all_below xs limit ≡ true → (i : ℕ) → i < length xs → get_or xs i 0 < limit
  unfolding all_below
  below_at e i h =
      ltb-true (get_or xs i 0) limit
      (every_at (length xs) 0 (λ k. ltb (get_or xs k 0) limit) e i (omega arith) (omega arith))

-- the starts
module _ (starts : List ℕ) (positions : ℕ) where
  pub ordered_ends : ((t : ℕ) → t < nodes starts → get_or starts t 0 ≤ get_or starts (t + 1) 0)
      → (eqb (get_or starts 0 0) 0 && eqb (get_or starts (nodes starts) 0) positions) ≡ ordered starts positions
  unfolding ordered
  ordered_ends h =
      let rises =
      every_all (nodes starts) 0 (λ k. leb (get_or starts k 0) (get_or starts (k + 1) 0))
      (λ k low high. le-leb (get_or starts k 0) (get_or starts (k + 1) 0) (h k (omega arith))) in
      rw rises

-- the figures of a packed game: those with a largest number
module _ (nodes groups positions goals graph places : ℕ) where
  abbrev pub small_figures : Bool
  small_figures =
      leb nodes 1024 && (leb 2049 graph && (leb places 8192 && (leb groups places && (leb positions places
      && (leb 1 goals && leb goals 8)))))

  -- their product fits a machine word
  pub figures_product : small_figures ≡ true → goals * nodes ≤ 65536 * 65536
  figures_product e =
      let tests = simp and_iff at e in
      small_product goals nodes (omega (arith, leb-true goals 8 tests.1.1.1.1.1.1))
      (omega (arith, leb-true nodes 1024 tests.0))

  -- and they are the first of what is tested
  pub figures_first : (waits : ℕ) {b : Bool} → places ≡ places_in graph → small_figures ≡ b
      → (b && leb (goals * nodes) waits) ≡ roomy_for nodes groups positions goals graph waits
  unfolding roomy_for
  figures_first waits k e =
      sym (ap (λ (t : Bool). t && leb (goals * nodes) waits) e)
      ∙ rw k (seven (leb nodes 1024) (leb 2049 graph) (leb (places_in graph) 8192) (leb groups (places_in graph))
      (leb positions (places_in graph)) (leb 1 goals) (leb goals 8) _)
    where
      seven : (a b c d e f g r : Bool) → ((a && (b && (c && (d && (e && (f && g)))))) && r)
          ≡ (a && (b && (c && (d && (e && (f && (g && r)))))))
      seven false b c d e f g r = refl
      seven true false c d e f g r = refl
      seven true true false d e f g r = refl
      seven true true true false e f g r = refl
      seven true true true true false f g r = refl
      seven true true true true true false g r = refl
      seven true true true true true true g r = refl

-- four tests
pub four_tests : {a b c d a' b' c' d' : Bool} → a ≡ a' → b ≡ b' → c ≡ c' → d ≡ d'
    → (a && (b && (c && d))) ≡ (a' && (b' && (c' && d')))
four_tests p q r t = rw (p, q, r, t)
