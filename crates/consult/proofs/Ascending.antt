-- The arrows of an accepted plant ascend, so bisection finds where those from a rank on begin, and those of one state
-- stand together.
-- Assumes nothing.
use mathlib.Core.Path.{◌≡◌, subst}
use mathlib.Core.Bool.{true}
use mathlib.Core.List.{List, ◌∷◌}
use Prim.Native.Nat.{ℕ, zero, suc, ◌+◌, ◌-◌, ◌*◌, ◌≤◌, ◌<◌}
use native.Mathlib.Omega.{arith}
use native.Mathlib.Nat.{add-zero}
use native.Mathlib.Numerals.{add-one}
use borrow.Author.Tests.{ltb-true, leb-true}
use Rattle.statements.specs.Plants.{word, Arrow, plant_of, rank, arrows_ok, plant_fault}
use Rattle.sets.proofs.Tests.{and_iff}
use Rattle.decoding.proofs.Faults.{plant_tests, plant_ok}
use Rattle.format.specs.Arrows.{arrow_in, arrows_left}
use Rattle.format.proofs.Stored.{as_arrow, left_more}
use Rattle.consult.specs.Checks.{rank_in, Reaches, Begins}

-- what is known of the next arrow, and of those after it
record Next (s u least : ℕ) (a : Arrow) (rest : List Arrow) : Type 0 where
  pub move_below : a.move < u
  pub to_below : a.to < s
  pub higher : least ≤ 65536 * (65536 * a.from) + (65536 * a.move + a.to)
  pub ascend : arrows_ok s u (suc (rank a)) rest ≡ true

next_of : {s u least : ℕ} {a : Arrow} {rest : List Arrow} → arrows_ok s u least (a ∷ rest) ≡ true → Next s u least a rest
unfolding arrows_ok rank
next_of h =
    let tests = simp and_iff at h in
    record {
      move_below = omega (arith, ltb-true);
      to_below = omega (arith, ltb-true);
      higher = omega (arith, leb-true);
      ascend = search;
    }

module _ (s : List ℕ) (fine : plant_fault s ≡ 0) where
  -- the arrows left from arrow k on ascend from some number
  left_ascend : (k : ℕ) → k ≤ word 3 s
      → (least : ℕ) × (arrows_ok (plant_of s).states (plant_of s).moves least (arrows_left s k) ≡ true)
  unfolding arrows_left
  left_ascend zero h = (0, (plant_tests s fine).2)
  left_ascend (suc k) h =
      let r = left_ascend k (omega arith) in
      let n : Next _ _ r.0 (as_arrow (arrow_in s k)) (arrows_left s (k + 1)) =
      next_of (rw (left_more s k (omega arith)) at r.1) in
      (suc (rank (as_arrow (arrow_in s k))), rw (add-one k) at n.ascend)

  -- what is known of arrow k
  next_at : (k : ℕ) → k < word 3 s
      → (least : ℕ) × Next (plant_of s).states (plant_of s).moves least (as_arrow (arrow_in s k)) (arrows_left s (k + 1))
  next_at k h =
      let r = left_ascend k (omega arith) in
      (r.0, next_of (rw (left_more s k h) at r.1))

  -- its move and its end are below 65,536
  pub arrow_low : (k : ℕ) → k < word 3 s → ((arrow_in s k).action < 65536) × ((arrow_in s k).to < 65536)
  arrow_low k h =
      let sizes = (plant_ok s fine).sizes in
      let a = (next_at k h).1 in
      (omega (arith, a.move_below, sizes.moves_most), omega (arith, a.to_below, sizes.states_most))

  -- so one is of a higher rank than the one before it, and than any before it
  rank_next : (k : ℕ) → suc k < word 3 s → rank_in s k < rank_in s (suc k)
  unfolding rank
  rank_next k h =
      let a = (next_at k (omega arith)).1 in
      let more : arrows_left s (k + 1) ≡ as_arrow (arrow_in s (suc k)) ∷ arrows_left s (suc k + 1) =
      rw (add-one k) (left_more s (suc k) h) in
      let b : Next _ _ _ (as_arrow (arrow_in s (suc k))) (arrows_left s (suc k + 1)) = next_of (rw more at a.ascend) in
      omega (arith, b.higher)

  rank_later : (j n : ℕ) → j + n < word 3 s → rank_in s j + n ≤ rank_in s (j + n)
  rank_later j zero h = rw (add-zero j) (omega arith)
  rank_later j (suc n) h =
      let there : suc (j + n) ≡ j + suc n = omega arith in
      subst (λ (m : ℕ). rank_in s j + suc n ≤ rank_in s m) there
      (omega (arith, rank_later j n (omega arith), rank_next (j + n) (omega arith)))

  pub ascends : (j k : ℕ) → j ≤ k → k < word 3 s → rank_in s j + (k - j) ≤ rank_in s k
  ascends j k h e =
      let there : j + (k - j) ≡ k = omega arith in
      subst (λ (m : ℕ). rank_in s j + (k - j) ≤ rank_in s m) there (rank_later j (k - j) (omega arith))

-- bisection: the arrows before arrow low are of a lower rank than x, and those from arrow high on are not
pub record Between (s : List ℕ) (x low high : ℕ) : Type 0 where
  pub order : low ≤ high
  pub within : high ≤ word 3 s
  pub before : (j : ℕ) → j < low → rank_in s j < x
  pub after : (j : ℕ) → high ≤ j → j < word 3 s → x ≤ rank_in s j

pub between_start : {s : List ℕ} {high : ℕ} (x : ℕ) → high ≡ word 3 s → Between s x 0 high
between_start x e =
    record {
      order = omega arith;
      within = omega (arith, e);
      before = λ j h. absurd (omega arith);
      after = λ j h l. absurd (omega (arith, e, h, l));
    }

module _ {s : List ℕ} {x low high : ℕ} (fine : plant_fault s ≡ 0) (b : Between s x low high) (mid : ℕ) (from : low ≤ mid)
    (below : mid < high) where
  -- the arrow in the middle is of a lower rank, or is not
  pub between_up : rank_in s mid < x → Between s x (mid + 1) high
  between_up h =
      record {
        order = omega arith;
        within = b.within;
        before = λ j e.
            let m = ascends s fine j mid (omega arith) (omega (arith, b.within)) in
            omega arith;
        after = b.after;
      }

  pub between_down : x ≤ rank_in s mid → Between s x low mid
  between_down h =
      record {
        order = from;
        within = omega (arith, b.within);
        before = b.before;
        after = λ j e l.
            let m = ascends s fine mid j e l in
            omega arith;
      }

-- nothing is between
pub between_end : {s : List ℕ} {x low high : ℕ} → Between s x low high → high ≤ low → Reaches s x low
between_end b h =
    record {
      within = omega (arith, b.order, b.within);
      before = b.before;
      after = λ j e l. b.after j (omega arith) l;
    }

-- the arrows of a state begin with its lowest rank
pub begins : {s : List ℕ} (x : ℕ) {k : ℕ} → plant_fault s ≡ 0 → Reaches s (4294967296 * x) k → Begins s x k
begins {s} x fine r =
    record {
      within = r.within;
      before = λ j h. omega (arith, r.before j h);
      after = λ j h l. omega (arith, r.after j h l, (arrow_low s fine j l).0, (arrow_low s fine j l).1);
    }
