-- The walk begins: the counters are those of all positions, and the targets are in line. Assumes nothing.
use mathlib.Core.Path.{◌≡◌, refl, ap, sym, ◌∙◌}
use mathlib.Core.Bool.{Bool, false, ◌&&◌, not}
use mathlib.Core.List.{List}
use mathlib.Core.Logic.{⊎_elim}
use Prim.Native.Nat.{ℕ, ◌<◌, ◌≤◌}
use native.Mathlib.Omega.{arith}
use lib.Dec.{eqb}
use lib.ListN.{length, get_or}
use Rattle.statements.specs.Sets.{numbers, filter, is_in}
use Rattle.sets.proofs.Tests.{not_both}
use Rattle.sort.specs.Sorted.{places_of}
use Rattle.sort.specs.Steps.{Holds, count_of}
use Rattle.game.specs.Walked.{nodes}
use Rattle.game.specs.Steps.{Queue, Walking, waiting, popped, last_wait}
use Rattle.game.proofs.Counts.{and_on, count_same}
use Rattle.game.proofs.Queue.{wider_queue}

-- nothing is passed before the first turn
none_popped : (starts q : List ℕ) (j : ℕ) → popped starts q 0 j ≡ false
unfolding popped is_in
none_popped starts q j = refl

module _ (rev starts gs member w cnt q : List ℕ) (tail m : ℕ) (few : length gs ≤ m)
    (counts : Holds m (count_of rev (length rev)) cnt) (line : Queue (nodes starts) w q tail 0) where
  counted : (g : ℕ) → g < length gs
      → get_or cnt g 0 ≡ length (filter (waiting rev (popped starts q 0) g) (numbers (length rev) 0))
  unfolding count_of places_of
  counted g h =
      counts g (omega arith)
      ∙ ap length
      (count_same (length rev) (λ a. eqb (get_or rev a 0) g) (waiting rev (popped starts q 0) g)
      (λ a l.
      sym (ap (λ (b : Bool). eqb (get_or rev a 0) g && not b) (none_popped starts q a) ∙ and_on (eqb (get_or rev a 0) g))))

  pub walk_start : Walking rev starts gs member w cnt w q 0 tail
  unfolding last_wait
  walk_start =
      record {
        groups =
            record {
              counted = counted;
              passes = λ j h p. absurd (not_both p (none_popped starts q j));
              start = λ y h. refl;
              rest = λ y h. refl;
              inside = λ y h p l. ⊎_elim (λ z. absurd (omega arith)) (λ z. absurd (omega arith)) (line.valid y h);
              sound = λ y k h e l. ⊎_elim (λ z. absurd (omega arith)) (λ z. absurd (omega arith)) (line.valid y h);
              complete = λ g k h a has p within.
                  absurd (not_both (p has.0 has.1.0 has.1.1) (none_popped starts q has.0));
            };
        queue = wider_queue (nodes starts) w q tail 0 line 1 (omega arith);
        under = omega arith;
      }
