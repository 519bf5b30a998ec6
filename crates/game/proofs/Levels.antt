-- The levels, by the waits at the end of the walk: a node is in level k exactly when its wait is at most k.
-- Assumes nothing.
use mathlib.Core.Path.{◌≡◌, refl, ap, sym, ◌∙◌}
use mathlib.Core.Bool.{Bool, true, false, ◌&&◌, ◌||◌, not}
use mathlib.Core.List.{List}
use mathlib.Core.Logic.{⊎_elim}
use Prim.Native.Nat.{ℕ, zero, suc, ◌+◌, ◌<◌, ◌≤◌}
use native.Mathlib.Omega.{arith}
use borrow.Author.Tests.{eqb-true, eq-eqb, ne_eqb, lt-ltb, le-ltb, ltb-true}
use lib.Dec.{eqb, ltb}
use lib.ListN.{length, get_or}
use lib.Seq.{take-length}
use Rattle.statements.specs.Sets.{numbers, first, iterate, is_in}
use Rattle.sets.proofs.Tests.{same_number, not_both, and_true, and_left, and_right, or_left, or_right}
use Rattle.sets.proofs.Tests.{or_cases, same_test}
use Rattle.sets.proofs.Members.{filter_test, numbers_in_lem}
use Rattle.sets.proofs.Numbers.{every_at, every_all}
use Rattle.sets.proofs.First.{first_range, first_holds, first_least}
use Rattle.game.specs.Walked.{nodes, node_at, leads_into, can_enter, grown_by, targets, level, wait_of}
use Rattle.game.specs.Steps.{Queue, Groups, Index, Has}
use Rattle.game.proofs.Counts.{lt_or_le, search_all, in_take, take_in}
use Rattle.game.proofs.Nodes.{node_has}
use Rattle.game.proofs.Queue.{queue_most}

-- a member of a list has a place in it
pub has_place : (xs : List ℕ) (g : ℕ) → is_in g xs ≡ true → Has xs g
has_place xs g h = in_take (length xs) xs g (rw (take-length xs) h)

pub place_has : (xs : List ℕ) (g i : ℕ) → i < length xs → get_or xs i 0 ≡ g → is_in g xs ≡ true
place_has xs g i h e =
    let there = take_in (length xs) i xs h (omega arith) in
    rw (take-length xs, e) at there

-- the ends of group g are in a set
abbrev pub EndsIn : List ℕ → List ℕ → List ℕ → ℕ → Type 0
EndsIn starts rev xs g = (j : ℕ) → j < length rev → get_or rev j 0 ≡ g → is_in (node_at starts j) xs ≡ true

module _ (gs starts rev xs : List ℕ) where
  leads_to : (g : ℕ) → Has rev g → EndsIn starts rev xs g → leads_into starts rev xs g ≡ true
  unfolding leads_into
  leads_to g h f =
      and_true (place_has rev g h.0 h.1.0 h.1.1)
      (every_all (length rev) 0 (λ j. not (eqb (get_or rev j 0) g) || is_in (node_at starts j) xs)
      (λ j low high.
      ⊎_elim
      (λ e. or_right (not (eqb (get_or rev j 0) g)) (is_in (node_at starts j) xs) (f j (omega arith) e))
      (λ d. rw (ne_eqb (get_or rev j 0) g d) refl)
      (same_number (get_or rev j 0) g)))

  leads_from : (g : ℕ) → leads_into starts rev xs g ≡ true → Has rev g × EndsIn starts rev xs g
  unfolding leads_into
  leads_from g h =
      let all =
      every_at (length rev) 0 (λ j. not (eqb (get_or rev j 0) g) || is_in (node_at starts j) xs)
      (and_right (is_in g rev) _ h) in (
        has_place rev g (and_left (is_in g rev) _ h),
        λ j l e. (rw (eq-eqb (get_or rev j 0) g e) at (all j (omega arith) (omega arith))),
      )

  pub can_to : (g : ℕ) → g < length gs → Has rev g → EndsIn starts rev xs g
      → can_enter gs starts rev xs (get_or gs g 0) ≡ true
  unfolding can_enter
  can_to g l h f =
      let test : ℕ → Bool = λ (b : ℕ). eqb (get_or gs b 0) (get_or gs g 0) && leads_into starts rev xs b in
      let holds : test g ≡ true = and_true (eq-eqb (get_or gs g 0) (get_or gs g 0) refl) (leads_to g h f) in
      lt-ltb (first (length gs) 0 test) (length gs)
      (omega (arith, first_least (length gs) 0 test g (omega arith) (omega arith) holds))

  pub can_from : (x : ℕ) → can_enter gs starts rev xs x ≡ true
      → (g : ℕ) × ((g < length gs) × ((get_or gs g 0 ≡ x) × (Has rev g × EndsIn starts rev xs g)))
  unfolding can_enter
  can_from x h =
      let test : ℕ → Bool = λ (b : ℕ). eqb (get_or gs b 0) x && leads_into starts rev xs b in
      let low = ltb-true (first (length gs) 0 test) (length gs) h in
      let holds = first_holds (length gs) 0 test (omega arith) in
      let g = first (length gs) 0 test in (
        g,
        (
          low,
          (
            eqb-true (get_or gs g 0) x (and_left (eqb (get_or gs g 0) x) (leads_into starts rev xs g) holds),
            leads_from g (and_right (eqb (get_or gs g 0) x) (leads_into starts rev xs g) holds),
          ),
        ),
      )

zero_test : (a : ℕ) → eqb a 0 ≡ ltb a 1
zero_test a =
    ⊎_elim
    (λ e. eq-eqb a 0 e ∙ sym (lt-ltb a 1 (omega arith)))
    (λ d. ne_eqb a 0 d ∙ sym (le-ltb a 1 (omega (arith, d))))
    (same_number a 0)

-- a position that fails belongs to the group and is not passed
of_group : (a b : Bool) → (a || not b) ≡ false → (a ≡ false) × (b ≡ true)
of_group true b e = absurd (not_both refl e)
of_group false true e = (refl, refl)
of_group false false e = absurd (not_both refl e)

is_passed : (a b : Bool) → (a || not b) ≡ true → b ≡ true → a ≡ true
is_passed true b e h = refl
is_passed false true e h = absurd (not_both e refl)
is_passed false false e h = absurd (not_both h refl)

-- a list has the nodes with a wait of at most k
abbrev AtMost : List ℕ → List ℕ → ℕ → List ℕ → Type 0
AtMost starts w k xs = (y : ℕ) → y < nodes starts → is_in y xs ≡ ltb (get_or w y 0) (k + 1)

module _ (starts rev gs member w₀ : List ℕ) (done : ℕ → Bool) (v : ℕ) (cnt w q : List ℕ) (tail m : ℕ)
    (x : Index rev starts gs) (qu : Queue (nodes starts) w q tail m)
    (c : Groups starts rev gs member w₀ done v cnt w)
    (late : (j : ℕ) → j < length rev → done j ≡ false → get_or w (node_at starts j) 0 < 65535
    → (y : ℕ) → y < nodes starts → get_or member y 0 < 1 → get_or w y 0 ≤ get_or w (node_at starts j) 0 + 1) where
  level_zero : AtMost starts w 0 (targets starts w₀)
  unfolding targets
  level_zero y h =
      filter_test (λ z. eqb (get_or w₀ z 0) 0) (numbers (nodes starts) 0) y
      (numbers_in_lem (nodes starts) 0 y (omega arith) (omega arith))
      ∙ (zero_test (get_or w₀ y 0) ∙ sym (c.start y h))

  module _ (k : ℕ) (xs : List ℕ) (low : k < 65533) (a : AtMost starts w k xs) where
    up : (y : ℕ) → y < nodes starts → ltb (get_or w y 0) (suc k + 1) ≡ true
        → (is_in y xs || (eqb (get_or member y 0) 0 && can_enter gs starts rev xs y)) ≡ true
    up y l e =
        let below = ltb-true (get_or w y 0) (suc k + 1) e in
        ⊎_elim
        (λ i. or_left (is_in y xs) _ (a y l ∙ lt-ltb (get_or w y 0) (k + 1) i))
        (λ i.
        let o = c.sound y k l (omega arith) (omega arith) in
        let mine : eqb (get_or member y 0) 0 ≡ true =
        eq-eqb (get_or member y 0) 0 (omega (arith, c.inside y l (omega arith) (omega arith))) in
        let ends : EndsIn starts rev xs o.0 =
        λ j f t.
        a (node_at starts j) (node_has rev starts gs x j f).0
        ∙ lt-ltb (get_or w (node_at starts j) 0) (k + 1) (omega (arith, o.1.1.1.1 j f t)) in
        let can =
        rw o.1.1.0 at (can_to gs starts rev xs o.0 o.1.0 o.1.1.1.0 ends) in
        or_right (is_in y xs) _ (and_true mine can))
        (lt_or_le (get_or w y 0) (k + 1))

    -- all positions of the group are passed, or one has a wait that bounds all others
    by_group : (y g : ℕ) → y < nodes starts → get_or member y 0 < 1 → g < length gs → get_or gs g 0 ≡ y → Has rev g
        → EndsIn starts rev xs g → get_or w y 0 ≤ k + 1
    by_group y g l mem gl gy has ends =
        let within : (j : ℕ) → j < length rev → get_or rev j 0 ≡ g → get_or w (node_at starts j) 0 ≤ k =
        λ j f t.
        let z =
        ltb-true (get_or w (node_at starts j) 0) (k + 1)
        (sym (a (node_at starts j) (node_has rev starts gs x j f).0) ∙ ends j f t) in
        omega arith in
        ⊎_elim
        (λ all.
        let passes : (j : ℕ) → j < length rev → get_or rev j 0 ≡ g → done j ≡ true =
        λ j f t. is_passed (done j) (eqb (get_or rev j 0) g) (all j f) (eq-eqb (get_or rev j 0) g t) in
        omega (arith, c.complete g k gl (rw gy mem) has passes within, ap (λ (z : ℕ). get_or w z 0) gy))
        (λ one.
        let b = of_group (done one.0) (eqb (get_or rev one.0 0) g) one.1.1 in
        let lw = within one.0 one.1.0 (eqb-true _ _ b.1) in
        omega (arith, late one.0 one.1.0 b.0 (omega arith) y l mem))
        (search_all (length rev) (λ (j : ℕ). done j || not (eqb (get_or rev j 0) g)))

    down : (y : ℕ) → y < nodes starts
        → (is_in y xs || (eqb (get_or member y 0) 0 && can_enter gs starts rev xs y)) ≡ true
        → ltb (get_or w y 0) (suc k + 1) ≡ true
    down y l e =
        lt-ltb (get_or w y 0) (suc k + 1)
        (⊎_elim
        (λ i. let z = ltb-true (get_or w y 0) (k + 1) (sym (a y l) ∙ i) in omega arith)
        (λ i.
        let mem = eqb-true (get_or member y 0) 0 (and_left (eqb (get_or member y 0) 0) _ i) in
        let o = can_from gs starts rev xs y (and_right (eqb (get_or member y 0) 0) _ i) in
        omega (arith, by_group y o.0 l (omega arith) o.1.0 o.1.1.0 o.1.1.1.0 o.1.1.1.1))
        (or_cases (is_in y xs) _ e))

    level_next : AtMost starts w (suc k) (grown_by gs starts rev member xs)
    unfolding grown_by
    level_next y l =
        filter_test (λ z. is_in z xs || (eqb (get_or member z 0) 0 && can_enter gs starts rev xs z))
        (numbers (nodes starts) 0) y (numbers_in_lem (nodes starts) 0 y (omega arith) (omega arith))
        ∙ same_test (is_in y xs || (eqb (get_or member y 0) 0 && can_enter gs starts rev xs y))
        (ltb (get_or w y 0) (suc k + 1)) (down y l) (up y l)

  level_is : (k : ℕ) → k ≤ 1024 → AtMost starts w k (level gs starts rev member w₀ k)
  unfolding level iterate
  level_is zero h = level_zero
  level_is (suc k) h =
      level_next k (level gs starts rev member w₀ k) (omega arith) (level_is k (omega arith))

  -- a wait is below the number of nodes
  wait_low : (y : ℕ) → y < nodes starts → get_or w y 0 < 65535 → get_or w y 0 < nodes starts
  wait_low y h l =
      let o = in_take tail q y (qu.members y h ∙ lt-ltb (get_or w y 0) 65535 l) in
      omega (
        arith,
        qu.slow o.0 o.1.0,
        ap (λ (z : ℕ). get_or w z 0) o.1.1,
        o.1.0,
        queue_most (nodes starts) w q tail m qu,
      )

  -- each wait is that of the definition
  pub wait_is : (y : ℕ) → y < nodes starts → m < 65535 → get_or w y 0 ≡ wait_of gs starts rev member w₀ y
  unfolding wait_of
  wait_is y h ml =
      let test : ℕ → Bool = λ (k : ℕ). is_in y (level gs starts rev member w₀ k) in
      let n : ℕ = nodes starts in
      let at : (k : ℕ) → k < n → test k ≡ ltb (get_or w y 0) (k + 1) =
      λ k l. level_is k (omega (arith, x.small)) y h in
      let range = first_range n 0 test in
      ⊎_elim
      (λ l.
      let low = wait_low y h l in
      let most =
      first_least n 0 test (get_or w y 0) (omega arith) (omega arith)
      (at (get_or w y 0) low ∙ lt-ltb (get_or w y 0) (get_or w y 0 + 1) (omega arith)) in
      let there = first_holds n 0 test (omega arith) in
      let least =
      ltb-true (get_or w y 0) (first n 0 test + 1) (sym (at (first n 0 test) (omega arith)) ∙ there) in
      let same : first n 0 test ≡ get_or w y 0 = omega arith in
      rw (same, lt-ltb (get_or w y 0) n low) refl)
      (λ l.
      let marked : get_or w y 0 ≡ 65535 = ⊎_elim (λ a. absurd (omega arith)) (λ a. a) (qu.valid y h) in
      let none : n ≤ first n 0 test =
      ⊎_elim
      (λ f.
      absurd
      (omega (
        arith,
        x.small,
        ltb-true (get_or w y 0) (first n 0 test + 1)
            (sym (at (first n 0 test) f) ∙ first_holds n 0 test (omega arith)),
      )))
      (λ f. f)
      (lt_or_le (first n 0 test) n) in
      rw (le-ltb (first n 0 test) n none) marked)
      (lt_or_le (get_or w y 0) 65535)
