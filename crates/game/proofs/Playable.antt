-- The tests of a packed game: a game is playable exactly where all of them hold, and then it is ready. Assumes nothing.
use mathlib.Core.Path.{◌≡◌, refl, sym, ap, ◌∙◌}
use mathlib.Core.Logic.{⊎_elim}
use mathlib.Core.Bool.{Bool, true, false, ◌&&◌}
use mathlib.Core.List.{List}
use Prim.Native.Nat.{ℕ, ◌+◌, ◌*◌, ◌≤◌, ◌<◌}
use native.Mathlib.Omega.{arith}
use borrow.Author.Tests.{lt-ltb, ltb-true, leb-true, eq-eqb, eqb-true}
use lib.Dec.{eqb, ltb, leb}
use lib.ListN.{length, get_or, take}
use lib.Seq.{length-take-le, get_or-take, take-length}
use Rattle.statements.specs.Sets.{numbers, every, is_in}
use Rattle.sets.proofs.Tests.{decided, same_number, not_both, and_iff, same_test}
use Rattle.sets.proofs.Members.{Sifted}
use Rattle.sets.proofs.Numbers.{every_at, every_all}
use Rattle.sort.specs.Sorted.{places_of}
use Rattle.sort.specs.Steps.{Holds, count_of}
use Rattle.arrays.specs.Lists.{rising}
use Rattle.arrays.proofs.Ordered.{rising_sifted}
use Rattle.game.specs.Walked.{nodes, ordered, all_below}
use Rattle.game.specs.Steps.{Index}
use Rattle.std.specs.Prelude.{Some, None}
use Rattle.game.specs.Packed.{part, places_in, groups_in, rev_in, starts_in, roomy_for, hypergraph, sound_in, playable}
use Rattle.game.specs.Playing.{Fits, Ready, Tested, Worked, Played, Sized}
use Rattle.game.proofs.Counts.{count_none, count_zero, in_take}
use Rattle.game.proofs.Checks.{below_at}
use Rattle.game.proofs.Aiming.{listed}
use Rattle.game.proofs.Parts.{groups_length, rev_length, starts_length, starts_nodes}

-- a number is in a list exactly where it is counted
count_in : (rev : List ℕ) (g : ℕ) → ltb 0 (count_of rev (length rev) g) ≡ is_in g rev
unfolding count_of places_of
count_in rev g =
    let test : ℕ → Bool = λ a. eqb (get_or rev a 0) g in
    same_test (ltb 0 (count_of rev (length rev) g)) (is_in g rev)
    (λ some.
    ⊎_elim (λ m. m)
    (λ m.
    let none = count_none (length rev) test
    (λ a h.
    ⊎_elim
    (λ e.
    absurd (not_both (ap (λ (v : ℕ). is_in v rev) (sym (eqb-true (get_or rev a 0) g e)) ∙ listed rev a h) m))
    (λ e. e) (decided (test a))) in
    absurd (omega (arith, ltb-true 0 (count_of rev (length rev) g) some, none)))
    (decided (is_in g rev)))
    (λ m.
    let o = in_take (length rev) rev g (ap (is_in g) (take-length rev) ∙ m) in
    ⊎_elim (λ t. t)
    (λ t.
    absurd
    (not_both (eq-eqb (get_or rev o.0 0) g o.1.1)
    (count_zero (length rev) test (none (count_of rev (length rev) g) t) o.0 o.1.0)))
    (decided (ltb 0 (count_of rev (length rev) g))))
  where
    none : (n : ℕ) → ltb 0 n ≡ false → n ≡ 0
    none n e = ⊎_elim (λ z. z) (λ d. absurd (not_both (lt-ltb 0 n (omega (arith, d))) e)) (same_number n 0)

-- so each group has an end exactly where each size is above 0
pub covered_full : (rev sizes : List ℕ) (groups : ℕ) → groups ≤ length sizes
    → Holds groups (count_of rev (length rev)) sizes
    → every (length (take groups sizes)) 0 (λ g. ltb 0 (get_or (take groups sizes) g 0))
    ≡ every groups 0 (λ g. is_in g rev)
covered_full rev sizes groups room holds =
    let size : ℕ → Bool = λ g. ltb 0 (get_or (take groups sizes) g 0) in
    let long = length-take-le groups sizes room in
    let same : (g : ℕ) → g < groups → size g ≡ is_in g rev =
    λ g h. ap (ltb 0) (get_or-take groups sizes g 0 h ∙ holds g h) ∙ count_in rev g in
    ap (λ (n : ℕ). every n 0 size) long
    ∙ same_test (every groups 0 size) (every groups 0 (λ g. is_in g rev))
    (λ e. every_all groups 0 (λ g. is_in g rev)
    (λ g low high. sym (same g (omega arith)) ∙ every_at groups 0 size e g low high))
    (λ e. every_all groups 0 size
    (λ g low high. same g (omega arith) ∙ every_at groups 0 (λ k. is_in k rev) e g low high))

-- what the first test says
pub record Roomy (nodes groups positions goals graph waits : ℕ) : Type 0 where
  pub fits : Fits graph nodes groups positions
  pub some_goal : 0 < goals
  pub few_goals : goals ≤ 8
  pub room : goals * nodes ≤ waits

pub roomy_says : (nodes groups positions goals graph waits : ℕ)
    → roomy_for nodes groups positions goals graph waits ≡ true → Roomy nodes groups positions goals graph waits
unfolding roomy_for
roomy_says nodes groups positions goals graph waits e =
    let tests = simp and_iff at e in
    record {
      fits = record {
        few_nodes = leb-true nodes 1024 tests.0;
        long = leb-true 2049 graph tests.1.0;
        places_few = leb-true (places_in graph) 8192 tests.1.1.0;
        few_groups = leb-true groups (places_in graph) tests.1.1.1.0;
        few_positions = leb-true positions (places_in graph) tests.1.1.1.1.0;
      };
      some_goal = leb-true 1 goals tests.1.1.1.1.1.0;
      few_goals = leb-true goals 8 tests.1.1.1.1.1.1.0;
      room = leb-true (goals * nodes) waits tests.1.1.1.1.1.1.1;
    }

-- five tests in another order
regroup : (o a b f r : Bool) → ((o && (a && (b && f))) && r) ≡ ((o && (a && (b && r))) && f)
regroup false a b f r = refl
regroup true false b f r = refl
regroup true true false f r = refl
regroup true true true false false = refl
regroup true true true false true = refl
regroup true true true true false = refl
regroup true true true true true = refl

module _ (graph : List ℕ) (n groups positions goals : ℕ) (start : List ℕ) (waits : ℕ) where
  -- each group has an end
  abbrev pub full_in : Bool
  full_in = every groups 0 (λ g. is_in g (rev_in graph positions))

  abbrev sound : Bool
  sound = sound_in graph n groups positions start

  playable_is : playable graph n groups positions goals start waits
      ≡ (roomy_for n groups positions goals (length graph) waits && (sound && full_in))
  unfolding playable hypergraph
  playable_is =
      ap (λ (b : Bool). roomy_for n groups positions goals (length graph) waits && b)
      (regroup (ordered (starts_in graph n) positions) (all_below (rev_in graph positions) groups)
      (all_below (groups_in graph groups) n) full_in (rising 0 n start))

  -- a test fails
  pub not_roomy : roomy_for n groups positions goals (length graph) waits ≡ false
      → playable graph n groups positions goals start waits ≡ false
  not_roomy e = playable_is ∙ rw e

  pub not_sound : roomy_for n groups positions goals (length graph) waits ≡ true → sound ≡ false
      → playable graph n groups positions goals start waits ≡ false
  not_sound r e = playable_is ∙ rw (r, e)

  module _ (tested : Tested graph n groups positions goals start waits) where
    pub not_full : full_in ≡ false → playable graph n groups positions goals start waits ≡ false
    not_full e = playable_is ∙ rw (tested.roomy, tested.sound, e)

    -- all hold
    pub all_hold : full_in ≡ true → playable graph n groups positions goals start waits ≡ true
    all_hold e = playable_is ∙ rw (tested.roomy, tested.sound, e)

    -- the figures fit
    pub tested_roomy : Roomy n groups positions goals (length graph) waits
    tested_roomy = roomy_says n groups positions goals (length graph) waits tested.roomy

    -- the numbers are in range, and the start rises
    pub tested_below : all_below (rev_in graph positions) groups ≡ true
    tested_below = (simp and_iff at tested.sound).1.0

    pub tested_sifted : Sifted (numbers n 0) start
    tested_sifted = rising_sifted _ _ (simp and_iff at tested.sound).1.1.1

    index_in : Index (rev_in graph positions) (starts_in graph n) (groups_in graph groups)
    unfolding ordered nodes
    index_in =
        let tests = simp and_iff at tested.sound in
        let order = tests.0 in
        let fits = tested_roomy.fits in
        let starts = starts_in graph n in
        let en = starts_nodes graph fits in
        let eg = groups_length graph fits in
        record {
          some = omega (arith, starts_length graph fits);
          small = omega (arith, fits.few_nodes);
          zero_is = eqb-true (get_or starts 0 0) 0 order.1.0;
          up = λ t h.
              leb-true (get_or starts t 0) (get_or starts (t + 1) 0)
              (every_at (nodes starts) 0 (λ k. leb (get_or starts k 0) (get_or starts (k + 1) 0)) order.0 t
              (omega arith) (omega arith));
          last_is = eqb-true (get_or starts (nodes starts) 0) positions order.1.1 ∙ sym (rev_length graph fits);
          groups = λ j h. omega (arith, below_at (rev_in graph positions) groups tests.1.0 j h);
          of_node = λ g h. omega (arith, below_at (groups_in graph groups) n tests.1.1.0 g h);
        }

    pub ready_in : full_in ≡ true → Ready graph n groups positions goals
    ready_in full =
        record {
          fits = tested_roomy.fits;
          some_goal = tested_roomy.some_goal;
          few_goals = tested_roomy.few_goals;
          index = index_in;
          full = λ g h. every_at groups 0 (λ k. is_in k (rev_in graph positions)) full g (omega arith) (omega arith);
        }

-- the positions of each group are counted, from the part of the array where they stand
pub sized_of : (graph : List ℕ) (groups positions : ℕ) (room : ℕ) {p : ℕ} {new : List ℕ}
    → p ≡ places_in (length graph) → groups ≤ room → length new ≡ room
    → Holds room (count_of (part p positions graph) (length (part p positions graph))) new
    → Sized graph groups positions new
unfolding rev_in
sized_of graph groups positions room e long same holds =
    record { long = omega (arith, long, same); counted = λ t h. (rw e at holds) t (omega (arith, long)) }

-- what is answered where a test fails, and where all hold
module _ (graph : List ℕ) (n groups positions goals : ℕ) (start old : List ℕ) where
  pub unplayable : playable graph n groups positions goals start (length old) ≡ false
      → Worked graph n groups positions goals start old None old
  unplayable e = record { kept = rw e; waits = rw e }

  pub played : playable graph n groups positions goals start (length old) ≡ true → (r : ℕ) (w : List ℕ)
      → Played graph n groups positions goals start old r w → Worked graph n groups positions goals start old (Some r) w
  played e r w is = record { kept = rw e (ap Some is.number); waits = rw e is.waits }
