-- The first number at which a test holds: it holds there, at none before, and there is none past the end.
-- Assumes nothing.
use mathlib.Core.Path.{◌≡◌, refl, sym, ◌∙◌}
use mathlib.Core.Logic.{⊎_elim}
use mathlib.Core.Bool.{Bool, true, false}
use Prim.Native.Nat.{ℕ, zero, suc, ◌+◌, ◌≤◌, ◌<◌}
use native.Mathlib.Omega.{arith}
use native.Mathlib.Decide.{dec_lt}
use Rattle.statements.specs.Sets.{first}
use Rattle.sets.proofs.Tests.{decided, same_number, not_both}

-- one step of the search
pub first_yes : (n x : ℕ) (test : ℕ → Bool) → test x ≡ true → first (suc n) x test ≡ x
unfolding first
first_yes n x test e = rw (e, first) refl

pub first_no : (n x : ℕ) (test : ℕ → Bool) → test x ≡ false → first (suc n) x test ≡ first n (suc x) test
unfolding first
first_no n x test e = rw (e, first) refl

pub first_none : (x : ℕ) (test : ℕ → Bool) → first 0 x test ≡ x
unfolding first
first_none x test = refl

-- it lies in the range searched, or just past it
pub first_range : (n x : ℕ) (test : ℕ → Bool) → (x ≤ first n x test) × (first n x test ≤ x + n)
first_range zero x test = rw (first_none x test) (omega arith)
first_range (suc n) x test =
    ⊎_elim
    (λ e. rw (first_yes n x test e) (omega arith))
    (λ e. rw (first_no n x test e) (let r = first_range n (suc x) test in omega arith))
    (decided (test x))

-- if it is not past the end the test holds there
pub first_holds : (n x : ℕ) (test : ℕ → Bool) → first n x test < x + n → test (first n x test) ≡ true
first_holds zero x test h = absurd (let e = first_none x test in omega arith)
first_holds (suc n) x test h =
    ⊎_elim
    (λ e. rw (first_yes n x test e) e)
    (λ e. rw (first_no n x test e) (first_holds n (suc x) test (let d = first_no n x test e in omega arith)))
    (decided (test x))

-- it is at most any number in range at which the test holds
pub first_least : (n x : ℕ) (test : ℕ → Bool) (k : ℕ) → x ≤ k → k < x + n → test k ≡ true → first n x test ≤ k
first_least zero x test k l h t = absurd (omega arith)
first_least (suc n) x test k l h t =
    ⊎_elim
    (λ e. rw (first_yes n x test e) l)
    (λ e. rw (first_no n x test e)
    (⊎_elim (λ q. absurd (not_both t (rw q e))) (λ d. first_least n (suc x) test k (omega arith) (omega arith) t)
    (same_number k x)))
    (decided (test x))

-- the test fails at each number before it
pub first_before : (n x : ℕ) (test : ℕ → Bool) (k : ℕ) → x ≤ k → k < first n x test → test k ≡ false
first_before n x test k l h =
    ⊎_elim
    (λ t. absurd (let r = first_range n x test in omega (arith, first_least n x test k l (omega arith) t)))
    (λ e. e)
    (decided (test k))

-- a number up to the end at which the test holds, unless it is past the end, and at none before: that is it
pub first_is : (n : ℕ) (test : ℕ → Bool) (k : ℕ) → k ≤ n → test k ≡ true → ((j : ℕ) → j < k → test j ≡ false) →
    first n 0 test ≡ k
first_is n test k l t none =
    let low : k ≤ first n 0 test =
    elim (dec_lt (first n 0 test) k) [
      | yes m ↦ absurd (not_both (first_holds n 0 test (omega arith)) (none (first n 0 test) m))
      | no m ↦ omega arith
    ] in
    elim (dec_lt k n) [
      | yes m ↦ omega (arith, first_least n 0 test k (omega arith) (omega arith) t)
      | no m ↦ omega (arith, (first_range n 0 test).1)
    ]

-- two tests that agree in the range have the same first
pub first_alike : (n x : ℕ) (a b : ℕ → Bool) → ((k : ℕ) → x ≤ k → k < x + n → a k ≡ b k) → first n x a ≡ first n x b
first_alike zero x a b h = first_none x a ∙ sym (first_none x b)
first_alike (suc n) x a b h =
    let later = first_alike n (suc x) a b (λ k l m. h k (omega arith) (omega arith)) in
    let here = h x (omega arith) (omega arith) in
    ⊎_elim
    (λ e. first_yes n x a e ∙ sym (first_yes n x b (sym here ∙ e)))
    (λ e. first_no n x a e ∙ later ∙ sym (first_no n x b (sym here ∙ e)))
    (decided (a x))
