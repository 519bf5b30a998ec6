-- The waits of the walk are the steps of the game: each level of the walk is what is reached within as many steps, if
-- the nodes marked by 0 are those of a set that can go on within it. Assumes nothing.
use mathlib.Core.Path.{◌≡◌, refl, ap, sym, ◌∙◌}
use mathlib.Core.Logic.{⊎_elim}
use mathlib.Core.Bool.{Bool, true, false, ◌&&◌, ◌||◌}
use mathlib.Core.List.{List}
use Prim.Native.Nat.{ℕ, zero, suc, ◌<◌}
use native.Mathlib.Omega.{arith}
use borrow.Author.Tests.{eq-eqb, ne_eqb, le-ltb}
use lib.Dec.{eqb, ltb}
use lib.ListN.{get_or, replicate}
use Rattle.statements.specs.Sets.{numbers, iterate, is_in, filter}
use Rattle.sets.proofs.Tests.{decided, not_both}
use Rattle.sets.proofs.Members.{Sifted, filter_filter}
use Rattle.sets.proofs.First.{first_alike}
use Rattle.arrays.specs.Lists.{zeroed}
use Rattle.game.specs.Walked.{nodes, can_enter, grown_by, targets, level, or_mark, wait_of}
use Rattle.game.specs.Game.{Can, grown_in, aims, reached_in, steps_to}
use Rattle.game.proofs.Counts.{and_off, count_same}
use Rattle.game.proofs.Begun.{start_in, start_out}
use Rattle.game.proofs.Attractors.{aims_base, reached_within, steps_first}
use Rattle.game.proofs.Standing.{can_more, can_nothing}

-- the test of a mark
zero_mark : (a : ℕ) → eqb a 0 ≡ ltb a 1
zero_mark zero = refl
zero_mark (suc a) = ne_eqb (suc a) 0 (λ e. omega arith) ∙ sym (le-ltb (suc a) 1 (omega arith))

-- a part i of a set s grows alike by all its nodes that can go on, and by those of them that can go on within the set
grows_alike : (i s c d : Bool) → (i ≡ true → s ≡ true) → (c ≡ true → d ≡ true)
    → (i || ((s && d) && c)) ≡ (s && (i || c))
grows_alike true true c d p q = refl
grows_alike true false c d p q = absurd (not_both (p refl) refl)
grows_alike false false c d p q = refl
grows_alike false true true true p q = refl
grows_alike false true true false p q = absurd (not_both (q refl) refl)
grows_alike false true false d p q = and_off d

module _ (gs starts rev member set : List ℕ) (done goal : ℕ → Bool) (s : Sifted (numbers (nodes starts) 0) set)
    (marks : (x : ℕ) → x < nodes starts → ltb (get_or member x 0) 1 ≡ (is_in x set && can_enter gs starts rev set x)) where
  -- the test, the aims, and the waits before the walk
  abbrev can : Can
  can = can_enter gs starts rev

  abbrev line : List ℕ
  line = aims can done goal set

  abbrev before : List ℕ
  before = zeroed line (replicate (nodes starts) 65535)

  -- the targets of the walk are the aims
  targets_are : targets starts before ≡ line
  unfolding targets
  targets_are =
      count_same (nodes starts) (λ y. eqb (get_or before y 0) 0) (λ y. is_in y line)
      (λ y h.
      ⊎_elim
      (λ m. eq-eqb (get_or before y 0) 0 (start_in (nodes starts) line y h m) ∙ sym m)
      (λ m.
      ne_eqb (get_or before y 0) 0 (λ e. omega (arith, start_out (nodes starts) line y h m)) ∙ sym m)
      (decided (is_in y line)))
      ∙ sym (aims_base can set done goal (numbers (nodes starts) 0) s)

  -- the walk and the reach grow a part of the set alike
  grown_alike : (ys : List ℕ) → ((y : ℕ) → is_in y ys ≡ true → is_in y set ≡ true)
      → grown_by gs starts rev member ys ≡ grown_in can set ys
  unfolding grown_by grown_in
  grown_alike ys sub =
      count_same (nodes starts) (λ y. is_in y ys || (eqb (get_or member y 0) 0 && can ys y))
      (λ y. is_in y set && (is_in y ys || can ys y))
      (λ y h.
      ap (λ (b : Bool). is_in y ys || (b && can ys y)) (zero_mark (get_or member y 0) ∙ marks y h)
      ∙ grows_alike (is_in y ys) (is_in y set) (can ys y) (can set y) (sub y) (can_more gs starts rev ys set y sub))
      ∙ (sym (filter_filter (λ y. is_in y ys || can ys y) (λ y. is_in y set) (numbers (nodes starts) 0))
      ∙ ap (filter (λ y. is_in y ys || can ys y)) (sym s))

  -- a level of the walk is what is reached within as many steps
  level_reached : (k : ℕ) → level gs starts rev member before k ≡ reached_in can done goal set k
  unfolding level reached_in iterate
  level_reached zero = targets_are
  level_reached (suc k) =
      ap (grown_by gs starts rev member) (level_reached k)
      ∙ grown_alike (reached_in can done goal set k) (reached_within can set done goal k)

  -- the first level with a node is the same for both
  steps_are : (x : ℕ) → x < nodes starts → wait_of gs starts rev member before x ≡ steps_to can done goal set x
  unfolding wait_of
  steps_are x h =
      ap (or_mark (nodes starts))
      (first_alike (nodes starts) 0 (λ k. is_in x (level gs starts rev member before k))
      (λ k. is_in x (reached_in can done goal set k)) (λ k l m. ap (is_in x) (level_reached k)))
      ∙ sym (steps_first can set done goal (can_nothing gs starts rev) (nodes starts) s x)

  -- the wait of each node is its number of steps, for the aims given as a list
  pub reach_steps : (aimed : List ℕ) → aimed ≡ aims (can_enter gs starts rev) done goal set → (x : ℕ) → x < nodes starts
      → wait_of gs starts rev member (zeroed aimed (replicate (nodes starts) 65535)) x
      ≡ steps_to (can_enter gs starts rev) done goal set x
  reach_steps aimed e x h = rw e (steps_are x h)
