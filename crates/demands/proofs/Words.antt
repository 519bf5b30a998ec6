-- The rule of an entry in the words of document 01 and of request (ix): where the plant does not settle, where a state
-- can leave for an earlier stage, and where it cannot. Assumes nothing.
use mathlib.Core.Path.{◌≡◌, refl}
use mathlib.Core.Logic.{◌↔◌, inl, inr, ⊎_elim}
use mathlib.Core.Bool.{Bool, false}
use mathlib.Core.List.{List}
use Prim.Native.Nat.{ℕ}
use native.Mathlib.Omega.{arith}
use Rattle.statements.specs.Plants.{Plant}
use Rattle.statements.specs.Books.{stage_at, book_within}
use Rattle.statements.specs.Strategies.{InGoal}
use Rattle.statements.specs.Demands.{Meets, Lowest, Nearer, Below, Arrived, Onward}
use Rattle.sets.proofs.Tests.{not_both}
use Rattle.kept.proofs.Kept.{for_plain}
use Rattle.winning.proofs.Runs.{meets_larger}
use Rattle.winning.proofs.Following.{Closer, Target}
use Rattle.demands.proofs.Plants.{Given, some_goal}
use Rattle.demands.proofs.Rows.{IsKept, CanLeave, one_stage}
use Rattle.demands.proofs.Winners.{Within, winners}
use Rattle.demands.proofs.Staying.{leave_iff}

-- moves into states with a property, and the lowest of them, are those into states with the same
pub meets_same :
    (p : Plant) (mask x u : ℕ) (good other : ℕ → Type 0) → ((y : ℕ) → good y ↔ other y) →
    Meets p mask x good u ↔ Meets p mask x other u
meets_same p mask x u good other same =
    (meets_larger p mask x u good other (λ y. (same y).0), meets_larger p mask x u other good (λ y. (same y).1))

pub lowest_as :
    (p : Plant) (mask x u : ℕ) (good other : ℕ → Type 0) → ((y : ℕ) → good y ↔ other y) → Lowest p mask x good u →
    Lowest p mask x other u
lowest_as p mask x u good other same l =
    record {
      meets = (meets_same p mask x u good other same).0 l.meets;
      none_lower = λ v h m. l.none_lower v h ((meets_same p mask x v good other same).1 m);
    }

module _ {p : Plant} {mask : ℕ} {within : ℕ → Bool} (given : Given p mask within) (x : ℕ) where
  abbrev B : List ℕ
  B = book_within p mask within

  abbrev Next : ℕ → ℕ → Type 0
  Next i y = Closer (IsKept p mask within) (CanLeave p mask within) B x i y

  -- where the plant does not settle no state can leave
  pub never_leaves : p.settles ≡ false → IsKept p mask within x → CanLeave p mask within x → ⊥
  never_leaves e h l = not_both (rw (for_plain p mask within (some_goal given) x h e) at l) refl

  pub plain_words : p.settles ≡ false → IsKept p mask within x → (i y : ℕ) →
      Next i y ↔ Nearer p mask (Within within) B x i y
  plain_words e h i y = (
    λ c. (
      (winners given y).0 c.stays,
      λ l.
          ⊎_elim (λ t. t) (λ t. absurd (omega (arith, t, one_stage given e x, one_stage given e y))) (c.nearing l),
    ),
    λ q. record {
      stays = (winners given y).1 q.0;
      no_later = omega (arith, one_stage given e x, one_stage given e y);
      leaving = λ l. absurd (never_leaves e h l);
      nearing = λ l. inl (q.1 l);
    },
  )

  pub leave_words : CanLeave p mask within x → (i y : ℕ) → Next i y ↔ Below p mask (Within within) B (stage_at B x) y
  leave_words l i y = (
    λ c. ((winners given y).0 c.stays, c.leaving l),
    λ q. record {
      stays = (winners given y).1 q.0;
      no_later = omega (arith, q.1);
      leaving = λ t. q.1;
      nearing = λ t. inr q.1;
    },
  )

  pub onward_words : (CanLeave p mask within x → ⊥) → (i y : ℕ) → Next i y ↔ Onward p mask (Within within) B x i y
  onward_words n i y = (
    λ c. (
      ((winners given y).0 c.stays, omega (arith, c.no_later)),
      λ l.
          ⊎_elim (λ t. inr t) (λ t. inl t) (c.nearing l),
    ),
    λ q. record {
      stays = (winners given y).1 q.0.0;
      no_later = omega (arith, q.0.1);
      leaving = λ t. absurd (n t);
      nearing = λ l. ⊎_elim (λ t. inr t) (λ t. inl t) (q.1 l);
    },
  )

  -- what a wait is for
  pub plain_target : p.settles ≡ false → (i y : ℕ) →
      Target p (IsKept p mask within) (CanLeave p mask within) B x i y ↔ InGoal p i y
  plain_target e i y = (
    λ t.
        ⊎_elim (λ g. g)
        (λ r. ⊎_elim (λ q. absurd (omega (arith, q.1, one_stage given e x, one_stage given e y)))
        (λ q. absurd (not_both (rw (for_plain p mask within (some_goal given) y q.0 e) at q.2) refl)) r)
        t,
    λ g. inl g,
  )

  pub staged_target : (i y : ℕ) →
      Target p (IsKept p mask within) (CanLeave p mask within) B x i y ↔ Arrived p mask (Within within) B x i y
  staged_target i y = (
    λ t.
        ⊎_elim (λ g. inl g)
        (λ r. ⊎_elim (λ q. inr (inl ((winners given y).0 q.0, q.1)))
        (λ q. inr (inr ((winners given y).0 q.0, q.1, rw q.1 at ((leave_iff given y q.0).0 q.2)))) r)
        t,
    λ t.
        ⊎_elim (λ g. inl g)
        (λ r. ⊎_elim (λ q. inr (inl ((winners given y).1 q.0, q.1)))
        (λ q.
        let h = (winners given y).1 q.0 in
        inr (inr (h, q.1, (leave_iff given y h).1 (rw q.1 q.2)))) r)
        t,
  )
