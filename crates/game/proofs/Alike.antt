-- Games whose tests agree on the nodes of the start are alike. Assumes nothing.
use mathlib.Core.Path.{◌≡◌, refl, ap, ap₂, ◌∙◌}
use mathlib.Core.Bool.{Bool, true, ◌&&◌, ◌||◌}
use mathlib.Core.List.{List}
use Prim.Native.Nat.{ℕ, zero, suc, ◌<◌}
use native.Mathlib.Omega.{arith}
use lib.ListN.{length}
use Rattle.statements.specs.Sets.{pick, first, iterate, is_in, filter}
use Rattle.sets.proofs.Members.{filter_same}
use Rattle.game.specs.Game.{Can, grown_in, aims, reached_in, attracted, attracted_all, held_after, steps_to}
use Rattle.game.proofs.Attractors.{Sub}
use Rattle.game.proofs.Rounds.{all_holds}

module _ (can : Can) (done done' : ℕ → Bool) where
  -- one goal
  module _ (goal goal' : ℕ → Bool) (all : List ℕ) (over : (x : ℕ) → is_in x all ≡ true → done x ≡ done' x)
      (aim : (x : ℕ) → is_in x all ≡ true → goal x ≡ goal' x) where
    reached_alike : (k : ℕ) → reached_in can done goal all k ≡ reached_in can done' goal' all k
    unfolding reached_in aims
    reached_alike k =
        ap (iterate k (grown_in can all))
        (filter_same (λ x. done x || (goal x && can all x)) (λ x. done' x || (goal' x && can all x)) all
        (λ x m. ap₂ (λ (a b : Bool). a || (b && can all x)) (over x m) (aim x m)))

    pub attracted_alike : attracted can done goal all ≡ attracted can done' goal' all
    unfolding attracted
    attracted_alike = reached_alike (length all)

    pub steps_alike : (x : ℕ) → steps_to can done goal all x ≡ steps_to can done' goal' all x
    unfolding steps_to
    steps_alike x =
        ap₂ (λ (b : Bool) (v : ℕ). pick b v 65535) (ap (is_in x) attracted_alike)
        (ap (first (length all) 0) (λ i k. is_in x (reached_alike k i)))

  -- all goals, and all rounds
  module _ (goal goal' : ℕ → ℕ → Bool) where
    all_alike : (n : ℕ) (all : List ℕ) → ((x : ℕ) → is_in x all ≡ true → done x ≡ done' x)
        → ((i x : ℕ) → i < n → is_in x all ≡ true → goal i x ≡ goal' i x)
        → attracted_all n can done goal all ≡ attracted_all n can done' goal' all
    unfolding attracted_all
    all_alike zero all over aim = refl
    all_alike (suc n) all over aim =
        ap₂ (λ (ys zs : List ℕ). filter (λ x. is_in x ys) zs)
        (attracted_alike (goal n) (goal' n) all over (λ x m. aim n x (omega arith) m))
        (all_alike n all over (λ i x l m. aim i x (omega arith) m))

    module _ (goals : ℕ) (start : List ℕ) (over : (x : ℕ) → is_in x start ≡ true → done x ≡ done' x)
        (aim : (i x : ℕ) → i < goals → is_in x start ≡ true → goal i x ≡ goal' i x) where
      pub held_within_lem : (k : ℕ) → Sub (held_after k goals can done goal start) start
      unfolding held_after iterate
      held_within_lem zero x m = m
      held_within_lem (suc k) x m = held_within_lem k x (all_holds can done goal goals _ x m).0

      pub held_alike : (k : ℕ) → held_after k goals can done goal start ≡ held_after k goals can done' goal' start
      unfolding held_after iterate
      held_alike zero = refl
      held_alike (suc k) =
          all_alike goals (held_after k goals can done goal start) (λ x m. over x (held_within_lem k x m))
          (λ i x l m. aim i x l (held_within_lem k x m))
          ∙ ap (attracted_all goals can done' goal') (held_alike k)
