-- The next group of a state: what is left of its groups from a move on decides which move goes into a set first.
-- Assumes nothing.
use mathlib.Core.Path.{◌≡◌, refl, sym, ◌∙◌}
use mathlib.Core.Logic.{⊎_elim}
use mathlib.Core.Bool.{true, false}
use mathlib.Core.List.{List}
use Prim.Native.Nat.{ℕ, zero, suc, ◌+◌, ◌<◌}
use native.Mathlib.Nat.{add-zero}
use native.Mathlib.Omega.{arith}
use lib.ListN.{length}
use Rattle.statements.specs.Sets.{joined, first, all_in}
use Rattle.statements.specs.Plants.{Plant, ends, available, goes_into}
use Rattle.sets.proofs.Tests.{decided}
use Rattle.sets.proofs.First.{first_no, first_none}
use Rattle.layout.specs.Layout.{part_of}
use Rattle.solve.proofs.Groups.{the_move, ahead, part_yes, part_no, no_group}

-- the groups of the n moves from u on
abbrev pub groups_left : Plant → ℕ → ℕ → ℕ → ℕ → ℕ
groups_left p mask x n u = length (joined n u (part_of p mask the_move x))

-- the first group of the moves left from move u on
pub record Group (p : Plant) (mask : ℕ) (ys : List ℕ) (x n u : ℕ) : Type 0 where
  pub move : ℕ
  pub left : ℕ
  pub all : move + suc left ≡ u + n
  pub is_available : available p mask x move ≡ true
  pub here : length (ahead p mask the_move x move) ≡ length (ahead p mask the_move x u)
  pub more : groups_left p mask x n u ≡ suc (groups_left p mask x left (suc move))
  pub same : first n u (goes_into p mask ys x) ≡ first (suc left) move (goes_into p mask ys x)

module _ (p : Plant) (mask : ℕ) (ys : List ℕ) (x : ℕ) where
  -- a move that is not available does not go into a set
  into_no : (u : ℕ) → available p mask x u ≡ false → goes_into p mask ys x u ≡ false
  unfolding goes_into
  into_no u e = rw e

  -- one that is does if its ends are in it
  pub into_yes : (u : ℕ) → available p mask x u ≡ true → goes_into p mask ys x u ≡ all_in (ends p x u) ys
  unfolding goes_into
  into_yes u e = rw e

  -- an available move has one of the groups left
  left_yes : (n u : ℕ) → available p mask x u ≡ true
      → groups_left p mask x (suc n) u ≡ suc (groups_left p mask x n (suc u))
  unfolding joined
  left_yes n u e = rw (part_yes p mask the_move x u e)

  -- any other has none
  left_no : (n u : ℕ) → available p mask x u ≡ false → groups_left p mask x (suc n) u ≡ groups_left p mask x n (suc u)
  unfolding joined
  left_no n u e = rw (part_no p mask the_move x u e)

  -- no group is left: no move goes into the set
  pub groups_none : (n u : ℕ) → groups_left p mask x n u ≡ 0 → first n u (goes_into p mask ys x) ≡ u + n
  groups_none zero u e = first_none u (goes_into p mask ys x) ∙ sym (add-zero u)
  groups_none (suc n) u e =
      ⊎_elim
      (λ h. absurd (omega (arith, left_yes n u h)))
      (λ h.
      let later = groups_none n (suc u) (sym (left_no n u h) ∙ e) in
      first_no n u (goes_into p mask ys x) (into_no u h) ∙ later ∙ omega arith)
      (decided (available p mask x u))

  -- otherwise the first is that of the lowest move available
  pub groups_some : (n u : ℕ) → 0 < groups_left p mask x n u → Group p mask ys x n u
  unfolding joined
  groups_some zero u e = absurd (omega arith)
  groups_some (suc n) u e =
      ⊎_elim
      (λ h.
      record {
        move = u;
        left = n;
        all = refl;
        is_available = h;
        here = refl;
        more = left_yes n u h;
        same = refl;
      })
      (λ h.
      let later = groups_some n (suc u) (omega (arith, left_no n u h)) in
      let total = later.all in
      record {
        move = later.move;
        left = later.left;
        all = omega arith;
        is_available = later.is_available;
        here = later.here ∙ no_group p mask x u h;
        more = left_no n u h ∙ later.more;
        same = first_no n u (goes_into p mask ys x) (into_no u h) ∙ later.same;
      })
      (decided (available p mask x u))
