-- Attractors for any test of going on: an attractor holds its targets, is closed within its set, and the steps to it
-- count the levels. Assumes nothing.
use mathlib.Core.Path.{◌≡◌, refl, sym, ap, ◌∙◌}
use mathlib.Core.Logic.{◌⊎◌, ⊎_elim}
use mathlib.Core.Bool.{Bool, true, false, ◌&&◌, ◌||◌}
use mathlib.Core.List.{List, [], ◌∷◌}
use Prim.Native.Nat.{ℕ, zero, suc, ◌+◌, ◌≤◌, ◌<◌}
use native.Mathlib.Omega.{arith}
use native.Mathlib.Decide.{dec_lt}
use borrow.Author.Tests.{lt-ltb, le-ltb}
use lib.ListN.{length}
use Rattle.statements.specs.Sets.{numbers, first, iterate, is_in}
use Rattle.sets.proofs.Tests.{decided, same_number, not_both, or_left, or_right, or_cases}
use Rattle.sets.proofs.Members.{Sifted, sifted_filter, sifted_member, sifted_sub, filter_holds, filter_in, is_in_here}
use Rattle.sets.proofs.Members.{is_in_none}
use Rattle.sets.proofs.First.{first_range, first_holds, first_least, first_before}
use Rattle.sets.proofs.Iterate.{iterate_sifted, iterate_still, grown_full, sifted_few}
use Rattle.game.specs.Walked.{or_mark}
use Rattle.game.proofs.Counts.{lt_or_le}
use Rattle.game.specs.Game.{Can, grown_in, aims, reached_in, attracted, steps_to}

-- each member of the one is a member of the other
abbrev pub Sub : List ℕ → List ℕ → Type 0
Sub xs ys = (x : ℕ) → is_in x xs ≡ true → is_in x ys ≡ true

-- a list with no length, or with no member, is empty
no_length : (xs : List ℕ) → length xs ≡ 0 → xs ≡ []
no_length [] e = refl
no_length (x ∷ xs) e = absurd (omega arith)

no_member : (xs : List ℕ) → ((x : ℕ) → is_in x xs ≡ true → ⊥) → xs ≡ []
no_member [] h = refl
no_member (x ∷ xs) h = absurd (h x (is_in_here x xs))

-- the first at which a test holds, searched for a longer way
pub first_longer : (m n : ℕ) (test : ℕ → Bool) → m ≤ n → first m 0 test < m → first n 0 test ≡ first m 0 test
first_longer m n test l h =
    let yes = first_holds m 0 test (omega arith) in
    let most = first_least n 0 test (first m 0 test) (omega arith) (omega arith) yes in
    ⊎_elim (λ e. e)
    (λ d.
    let on = first_holds n 0 test (omega arith) in
    absurd (not_both on (first_before m 0 test (first n 0 test) (omega arith) (omega (arith, d)))))
    (same_number (first n 0 test) (first m 0 test))

module _ (can : Can) (all : List ℕ) where
  -- one step
  pub grown_same : (ys : List ℕ) (x : ℕ) → is_in x all ≡ true → is_in x ys ≡ true → is_in x (grown_in can all ys) ≡ true
  unfolding grown_in
  grown_same ys x a h = filter_in (λ z. is_in z ys || can ys z) all x a (or_left (is_in x ys) (can ys x) h)

  pub grown_can : (ys : List ℕ) (x : ℕ) → is_in x all ≡ true → can ys x ≡ true → is_in x (grown_in can all ys) ≡ true
  unfolding grown_in
  grown_can ys x a h = filter_in (λ z. is_in z ys || can ys z) all x a (or_right (is_in x ys) (can ys x) h)

  pub grown_holds : (ys : List ℕ) (x : ℕ) → is_in x (grown_in can all ys) ≡ true
      → (is_in x all ≡ true) × ((is_in x ys ≡ true) ⊎ (can ys x ≡ true))
  unfolding grown_in
  grown_holds ys x h =
      let r = filter_holds (λ z. is_in z ys || can ys z) all x h in
      (r.0, or_cases (is_in x ys) (can ys x) r.1)

  grown_sifted : (ys : List ℕ) → Sifted all ys → Sifted all (grown_in can all ys)
  unfolding grown_in
  grown_sifted ys s = sifted_filter (λ z. is_in z ys || can ys z) all

  module _ (done goal : ℕ → Bool) where
    aims_sifted : Sifted all (aims can done goal all)
    unfolding aims
    aims_sifted = sifted_filter (λ x. done x || (goal x && can all x)) all

    pub aims_base : (base : List ℕ) → Sifted base all → Sifted base (aims can done goal all)
    unfolding aims
    aims_base base s = sifted_sub (λ x. done x || (goal x && can all x)) base all s

    -- the steps are sets of nodes of the set
    pub reached_sifted : (k : ℕ) → Sifted all (reached_in can done goal all k)
    unfolding reached_in
    reached_sifted k = iterate_sifted all (aims can done goal all) (grown_in can all) aims_sifted grown_sifted k

    pub reached_within : (k : ℕ) → Sub (reached_in can done goal all k) all
    reached_within k x h = sifted_member all (reached_in can done goal all k) (reached_sifted k) x h

    pub reached_suc : (k : ℕ) → reached_in can done goal all (suc k) ≡ grown_in can all (reached_in can done goal all k)
    unfolding reached_in iterate
    reached_suc k = refl

    pub reached_zero : reached_in can done goal all 0 ≡ aims can done goal all
    unfolding reached_in iterate
    reached_zero = refl

    -- that stand still when there are as many as nodes that are no targets
    pub reached_full : (k : ℕ) → length all ≤ k + length (aims can done goal all)
        → (m : ℕ) → k ≤ m → reached_in can done goal all m ≡ reached_in can done goal all k
    unfolding reached_in
    reached_full k h m l =
        iterate_still k m (grown_in can all) (aims can done goal all)
        (grown_full all (aims can done goal all) (grown_in can all) aims_sifted grown_sifted
        (λ j x i.
        let ys = iterate j (grown_in can all) (aims can done goal all) in
        grown_same ys x
        (sifted_member all ys (iterate_sifted all (aims can done goal all) (grown_in can all) aims_sifted grown_sifted j)
        x i) i) k h) l

    -- so the attractor holds each of them, and is closed
    pub attracted_within : Sub (attracted can done goal all) all
    unfolding attracted
    attracted_within = reached_within (length all)

    pub attracted_closed : (x : ℕ) → is_in x all ≡ true → can (attracted can done goal all) x ≡ true
        → is_in x (attracted can done goal all) ≡ true
    unfolding attracted
    attracted_closed x a h =
        rw (← reached_full (length all) (omega arith) (suc (length all)) (omega arith), reached_suc (length all))
        (grown_can (reached_in can done goal all (length all)) x a h)

    -- any step is part of it
    pub reached_attracted : (k : ℕ) → Sub (reached_in can done goal all k) (attracted can done goal all)
    unfolding attracted
    reached_attracted k x h =
        ⊎_elim
        (λ l. reached_later k (length all) l x h)
        (λ l. rw (← reached_full (length all) (omega arith) k l) h)
        (lt_or_le k (length all))
      where
        reached_more : (j : ℕ) → Sub (reached_in can done goal all j) (reached_in can done goal all (suc j))
        reached_more j y m =
            rw (reached_suc j) (grown_same (reached_in can done goal all j) y (reached_within j y m) m)

        reached_later : (j m : ℕ) → j < m → Sub (reached_in can done goal all j) (reached_in can done goal all m)
        reached_later j zero l y i = absurd (omega arith)
        reached_later j (suc m) l y i =
            ⊎_elim
            (λ e. reached_more m y (rw e at i))
            (λ d. reached_more m y (reached_later j m (omega (arith, d)) y i))
            (same_number j m)

    -- nothing is reached without a target, where no node can go on into the empty set
    module _ (nothing : (x : ℕ) → can [] x ≡ false) where
      none_reached : aims can done goal all ≡ [] → (k x : ℕ) → is_in x (reached_in can done goal all k) ≡ true → ⊥
      none_reached e zero x h = is_in_none x (rw (reached_zero, e) at h)
      none_reached e (suc k) x h =
          ⊎_elim
          (λ m. none_reached e k x m)
          (λ m.
          let none = no_member (reached_in can done goal all k) (none_reached e k) in
          not_both m (ap (λ (ys : List ℕ). can ys x) none ∙ nothing x))
          (grown_holds (reached_in can done goal all k) x (rw (reached_suc k) at h)).1

      -- a node of the attractor is reached in fewer steps than the set has nodes
      steps_low : (x : ℕ) → is_in x (attracted can done goal all) ≡ true
          → first (length all) 0 (λ k. is_in x (reached_in can done goal all k)) < length all
      unfolding attracted
      steps_low x h =
          elim (dec_lt 0 (length (aims can done goal all))) [
            | yes l ↦ by_length (length all) refl l
            | no l ↦ absurd (none_reached (no_length (aims can done goal all) (omega arith)) (length all) x h)
          ]
        where
          test : ℕ → Bool
          test k = is_in x (reached_in can done goal all k)

          by_length : (m : ℕ) → length all ≡ m → 0 < length (aims can done goal all) → first (length all) 0 test < length all
          by_length zero e l = absurd (is_in_none x (rw (no_length all e) at (attracted_within x h)))
          by_length (suc m) e l =
              let same = reached_full m (omega arith) (length all) (omega arith) in
              let there : test m ≡ true = sym (ap (λ (ys : List ℕ). is_in x ys) same) ∙ h in
              let most = first_least (length all) 0 test m (omega arith) (omega arith) there in
              omega arith

      -- the steps to a goal are the first level that has the node, searched as far as there are nodes
      pub steps_first : (n : ℕ) → Sifted (numbers n 0) all → (x : ℕ)
          → steps_to can done goal all x ≡ or_mark n (first n 0 (λ k. is_in x (reached_in can done goal all k)))
      unfolding steps_to
      steps_first n s x =
          let test : ℕ → Bool = λ k. is_in x (reached_in can done goal all k) in
          let few = sifted_few n all s in
          ⊎_elim
          (λ h.
          let low = steps_low x h in
          let same = first_longer (length all) n test few low in
          rw (h, same, lt-ltb (first (length all) 0 test) n (omega arith)) refl)
          (λ h.
          let none : first n 0 test ≡ n =
          elim (dec_lt (first n 0 test) n) [
            | yes l ↦
                absurd (not_both (reached_attracted (first n 0 test) x (first_holds n 0 test (omega arith))) h)
            | no l ↦ let r = first_range n 0 test in omega arith
          ] in
          rw (h, none, le-ltb n n (omega arith)) refl)
          (decided (is_in x (attracted can done goal all)))
