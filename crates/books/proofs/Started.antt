-- The states that a making or a withdrawal begins with, as the loops list them, and the states kept within a list.
-- Assumes nothing.
use mathlib.Core.Path.{◌≡◌, refl, sym, ap, ap₂, ◌∙◌}
use mathlib.Core.Bool.{Bool, true, false, ◌||◌}
use mathlib.Core.List.{List, [], ◌∷◌, ◌++◌}
use Prim.Native.Nat.{ℕ, zero, suc, ◌+◌, ◌-◌, ◌≤◌, ◌<◌}
use native.Mathlib.Numerals.{add-one}
use native.Mathlib.Omega.{arith}
use lib.ListN.{length, get_or, take, drop, set, length-append, length-set, take-append-drop}
use lib.Seq.{take-suc, append_snoc, length-take-le, set_at}
use Rattle.statements.specs.Sets.{pick, numbers, iterate, cons_if, filter, over}
use Rattle.statements.specs.Plants.{Plant, settled, can}
use Rattle.statements.specs.Kept.{nowhere, forced_all, held_round, held_within, next_stage, stages_to, kept_within}
use Rattle.arrays.specs.Lists.{among}
use Rattle.sets.proofs.Members.{sifted_filter, filter_filter, filter_length, filter_snoc, length_numbers, numbers_more}
use Rattle.sets.proofs.Over.{over_one}

-- a loop that lists the states: one more
pub states_more : (old new : List ℕ) (x : ℕ) → x < length old → new ≡ over (numbers x 0) old
    → set new x x ≡ over (numbers (x + 1) 0) old
states_more old new x h e =
    let long = length_numbers x 0 in
    let more = over_one (numbers x 0) old x (omega arith) in
    rw (e, numbers_more) (rw long at more)

-- a loop from the last of n states down to state x: the places from `at` on hold the later states that pass a test, and
-- as many places are left as earlier ones pass it
pub record Filled (f : ℕ → Bool) (n : ℕ) (old new : List ℕ) (x at : ℕ) : Type 0 where
  pub within : x ≤ n
  pub few : n ≤ 1024
  pub room : n ≤ length old
  pub size : length new ≡ length old
  pub place : at ≡ length (filter f (numbers x 0))
  pub list : new ≡ take at old ++ (filter f (numbers (n - x) x) ++ drop (length (filter f (numbers n 0))) old)

-- nothing is listed yet, and as many places are left as states pass
pub fill_start : (f : ℕ → Bool) (n : ℕ) (old : List ℕ) (at : ℕ) → n ≤ 1024 → n ≤ length old
    → at ≡ length (filter f (numbers n 0)) → Filled f n old old n at
unfolding numbers filter
fill_start f n old at few h e =
    let none : n - n ≡ 0 = omega arith in
    record {
      within = omega arith;
      few = few;
      room = h;
      size = refl;
      place = e;
      list = rw (none, ← e) (sym (take-append-drop at old));
    }

-- a run of states with its first one
numbers_first : (n y : ℕ) → y < n → numbers (n - y) y ≡ y ∷ numbers (n - (y + 1)) (y + 1)
unfolding numbers
numbers_first n y h =
    let one : n - y ≡ suc (n - (y + 1)) = omega arith in
    rw (one, add-one y)

module _ (f : ℕ → Bool) (n : ℕ) (old new : List ℕ) (x at y : ℕ) (so_far : Filled f n old new x at) (e : x ≡ y + 1) where
  -- how many pass before the state and with it, and which pass from it on
  earlier : length (filter f (numbers x 0)) ≡ length (filter f (numbers y 0)) + length (cons_if (f y) y [])
  earlier = rw (e, numbers_more, filter_snoc) (length-append (filter f (numbers y 0)) (cons_if (f y) y []))

  later : filter f (numbers (n - y) y) ≡ cons_if (f y) y (filter f (numbers (n - x) x))
  unfolding filter
  later = rw e (ap (filter f) (numbers_first n y (omega (arith, so_far.within))))

  -- it passes: there is a place for it
  pub fill_place : f y ≡ true → (0 < at) × (at ≤ length old)
  fill_place t =
      let some = rw t at earlier in
      let few = filter_length f (numbers x 0) in
      let long = length_numbers x 0 in
      (omega (arith, so_far.place), omega (arith, so_far.place, so_far.room, so_far.within))

  -- and it is listed there
  pub fill_yes : f y ≡ true → Filled f n old (set new (at - 1) y) y (at - 1)
  fill_yes t =
      let m = at - 1 in
      let left = fill_place t in
      let some = rw t at earlier in
      let passed = drop (length (filter f (numbers n 0))) old in
      let ends = filter f (numbers (n - x) x) ++ passed in
      let back : at ≡ suc m = omega arith in
      let front : take at old ≡ take m old ++ (get_or old m 0 ∷ []) =
      ap (λ (k : ℕ). take k old) back ∙ take-suc old m 0 (omega arith) in
      let whole : new ≡ take m old ++ (get_or old m 0 ∷ ends) =
      so_far.list ∙ ap (λ (l : List ℕ). l ++ ends) front ∙ append_snoc (take m old) (get_or old m 0) ends in
      let long = length-take-le m old (omega arith) in
      record {
        within = omega (arith, so_far.within);
        few = so_far.few;
        room = so_far.room;
        size = length-set new m y ∙ so_far.size;
        place = omega (arith, so_far.place);
        list = ap (λ (l : List ℕ). set l m y) whole ∙ set_at (take m old) (get_or old m 0) ends y m long
            ∙ ap (λ (l : List ℕ). take m old ++ (l ++ passed)) (sym (rw t at later));
      }

  -- it does not pass
  pub fill_no : f y ≡ false → Filled f n old new y at
  fill_no t =
      let none = rw t at earlier in
      record {
        within = omega (arith, so_far.within);
        few = so_far.few;
        room = so_far.room;
        size = so_far.size;
        place = omega (arith, so_far.place);
        list = so_far.list
            ∙ ap (λ (l : List ℕ). take at old ++ (l ++ drop (length (filter f (numbers n 0))) old))
            (sym (rw t at later));
      }

-- all are listed
pub fill_end : (f : ℕ → Bool) (n : ℕ) (old new : List ℕ) (at : ℕ) → Filled f n old new 0 at
    → new ≡ over (filter f (numbers n 0)) old
unfolding numbers filter over
fill_end f n old new at r =
    let all : n - 0 ≡ n = omega arith in
    r.list ∙ rw (r.place, all)

-- the states kept within a list of those at which a test holds: what is held, stages and what is kept hang on the test's
-- states alone
module _ (p : Plant) (mask : ℕ) (v w : ℕ → Bool)
    (same : filter v (numbers p.states 0) ≡ filter w (numbers p.states 0)) where
  held_alike : (done : ℕ → Bool) → held_within p mask done v ≡ held_within p mask done w
  unfolding held_within held_round
  held_alike done = ap (iterate p.states (forced_all p.goals p mask done)) same

  stage_alike : (earlier : List ℕ) → next_stage p mask v earlier ≡ next_stage p mask w earlier
  unfolding next_stage held_within held_round
  stage_alike earlier =
      let calm : ℕ → Bool = λ x. settled p x || can p mask earlier x in
      ap (iterate p.states (forced_all p.goals p mask (can p mask earlier)))
      (sym (filter_filter calm v (numbers p.states 0)) ∙ ap (filter calm) same
      ∙ filter_filter calm w (numbers p.states 0))

  stages_alike : (k : ℕ) → stages_to k p mask v ≡ stages_to k p mask w
  unfolding stages_to iterate
  stages_alike zero = refl
  stages_alike (suc k) = ap (next_stage p mask v) (stages_alike k) ∙ stage_alike (iterate k (next_stage p mask w) [])

  kept_alike : kept_within p mask v ≡ kept_within p mask w
  unfolding kept_within
  kept_alike = ap₂ (λ (xs ys : List ℕ). pick p.settles xs ys) (stages_alike p.states) (held_alike nowhere)

pub kept_same : (p : Plant) (mask : ℕ) (test : ℕ → Bool) (xs : List ℕ) → xs ≡ filter test (numbers p.states 0)
    → kept_within p mask (among xs) ≡ kept_within p mask test
unfolding among
kept_same p mask test xs e =
    kept_alike p mask (among xs) test (rw e (sym (sifted_filter test (numbers p.states 0))))
