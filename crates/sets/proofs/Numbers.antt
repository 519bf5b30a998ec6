-- Laws of `every`: a test that holds at each number of a range holds at any one of them, and the other way round.
-- Assumes nothing.
use mathlib.Core.Path.{◌≡◌, refl}
use mathlib.Core.Bool.{Bool, true, false, ◌&&◌}
use Prim.Native.Nat.{ℕ, zero, suc, ◌+◌, ◌≤◌, ◌<◌}
use native.Mathlib.Omega.{arith}
use mathlib.Core.Logic.{inl, inr, ⊎_elim}
use native.Mathlib.Nat.{eq-or-lt_of_le}
use Rattle.statements.specs.Sets.{every}
use Rattle.sets.proofs.Tests.{decided, same_number, not_both, and_true, and_left, and_right, same_test}

pub every_at : (n x : ℕ) (test : ℕ → Bool) → every n x test ≡ true → (k : ℕ) → x ≤ k → k < x + n → test k ≡ true
unfolding every
every_at zero x test h k low high = absurd (omega arith)
every_at (suc n) x test h k low high =
    elim (eq-or-lt_of_le low) [
      | inl e ↦ rw (← e) (and_left (test x) (every n (suc x) test) h)
      | inr above ↦ every_at n (suc x) test (and_right (test x) (every n (suc x) test) h) k above (omega arith)
    ]

pub every_all : (n x : ℕ) (test : ℕ → Bool) → ((k : ℕ) → x ≤ k → k < x + n → test k ≡ true) → every n x test ≡ true
unfolding every
every_all zero x test h = refl
every_all (suc n) x test h =
    and_true (h x (omega arith) (omega arith))
    (every_all n (suc x) test (λ k low high. h k (omega arith) (omega arith)))

-- a number of the range at which the test is false
pub every_none : (n x : ℕ) (test : ℕ → Bool) (k : ℕ) → x ≤ k → k < x + n → test k ≡ false → every n x test ≡ false
every_none n x test k low high f =
    elim (decided (every n x test)) [
      | inl e ↦ absurd (not_both (every_at n x test e k low high) f)
      | inr e ↦ e
    ]

-- a test of the numbers below n + 1 is one of those below n, and of n
pub every_more : (f : ℕ → Bool) (n : ℕ) → every (n + 1) 0 f ≡ (every n 0 f && f n)
every_more f n =
    same_test (every (n + 1) 0 f) (every n 0 f && f n)
    (λ h.
    and_true (every_all n 0 f (λ k l m. every_at (n + 1) 0 f h k (omega arith) (omega arith)))
    (every_at (n + 1) 0 f h n (omega arith) (omega arith)))
    (λ h. every_all (n + 1) 0 f (λ k l m.
    ⊎_elim
    (λ e. rw e (and_right (every n 0 f) (f n) h))
    (λ d. every_at n 0 f (and_left (every n 0 f) (f n) h) k (omega arith) (omega arith))
    (same_number k n)))
