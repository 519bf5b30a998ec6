-- Rounds of a game: each leaves the nodes from which every goal is forced; they stand still at last, and a goal whose
-- targets a round leaves as they are is reached as before. Assumes nothing.
use mathlib.Core.Path.{◌≡◌, refl, sym, ap, ◌∙◌}
use mathlib.Core.Logic.{⊎_elim}
use mathlib.Core.Bool.{Bool, true, false, ◌&&◌, ◌||◌, not}
use mathlib.Core.List.{List, []}
use Prim.Native.Nat.{ℕ, zero, suc, ◌+◌, ◌*◌, ◌≤◌, ◌<◌}
use native.Mathlib.Omega.{arith}
use lib.Dec.{eqb}
use lib.ListN.{length, get_or}
use borrow.Author.Tests.{ne_eqb}
use Rattle.statements.specs.Sets.{pick, numbers, every, first, iterate, is_in, filter}
use Rattle.sets.proofs.Tests.{same_number, and_true, and_left, and_right, or_left, or_right, or_cases}
use Rattle.sets.proofs.Numbers.{every_at, every_all}
use Rattle.sets.proofs.First.{first_range, first_alike}
use Rattle.sets.proofs.Members.{Sifted, sifted_same, sifted_sub, filter_holds, filter_in}
use Rattle.sets.proofs.Iterate.{sifted_as_long, sifted_longer, sifted_few, sifted_below, iterate_still, shrunk_full}
use Rattle.game.specs.Walked.{or_mark}
use Rattle.game.specs.Game.{Can, grown_in, aims, reached_in, attracted, attracted_all, held_after, steps_to}
use Rattle.game.specs.Cuts.{waits_all}
use Rattle.game.specs.Playing.{Leaves}
use Rattle.game.proofs.Attractors.{Sub, reached_within, reached_suc}
use Rattle.game.proofs.Attractors.{reached_zero, attracted_closed, steps_first}

-- a step before the others or after them
inside : (k : ℕ) (f : List ℕ → List ℕ) (xs : List ℕ) → iterate k f (f xs) ≡ f (iterate k f xs)
unfolding iterate
inside zero f xs = refl
inside (suc k) f xs = ap f (inside k f xs)

-- a number or the mark
not_mark : (b : Bool) (v : ℕ) → v < 65535 → b ≡ not (eqb (pick b v 65535) 65535)
not_mark true v h = sym (ap not (ne_eqb v 65535 (λ e. omega arith)))
not_mark false v h = refl

module _ (can : Can) (done : ℕ → Bool) (goal : ℕ → ℕ → Bool) where
  -- a node from which each of the first n goals is forced within a set
  pub all_holds : (n : ℕ) (all : List ℕ) (x : ℕ) → is_in x (attracted_all n can done goal all) ≡ true
      → (is_in x all ≡ true) × ((i : ℕ) → i < n → is_in x (attracted can done (goal i) all) ≡ true)
  unfolding attracted_all
  all_holds zero all x h = (h, λ i l. absurd (omega arith))
  all_holds (suc n) all x h =
      let r = filter_holds (λ z. is_in z (attracted can done (goal n) all)) (attracted_all n can done goal all) x h in
      let ih = all_holds n all x r.0 in
      (ih.0, λ i l. ⊎_elim (λ e. rw e r.1) (λ d. ih.1 i (omega (arith, d))) (same_number i n))

  pub all_in_lem : (n : ℕ) (all : List ℕ) (x : ℕ) → is_in x all ≡ true
      → ((i : ℕ) → i < n → is_in x (attracted can done (goal i) all) ≡ true)
      → is_in x (attracted_all n can done goal all) ≡ true
  unfolding attracted_all
  all_in_lem zero all x a f = a
  all_in_lem (suc n) all x a f =
      filter_in (λ z. is_in z (attracted can done (goal n) all)) (attracted_all n can done goal all) x
      (all_in_lem n all x a (λ i l. f i (omega arith))) (f n (omega arith))

  pub all_sifted : (n : ℕ) (base all : List ℕ) → Sifted base all → Sifted base (attracted_all n can done goal all)
  unfolding attracted_all
  all_sifted zero base all s = s
  all_sifted (suc n) base all s =
      sifted_sub (λ z. is_in z (attracted can done (goal n) all)) base (attracted_all n can done goal all)
      (all_sifted n base all s)

  module _ (n goals : ℕ) (all : List ℕ) (set : Sifted (numbers n 0) all) where
    abbrev round : List ℕ
    round = attracted_all goals can done goal all

    -- what a round leaves has the same nodes left in the end
    pub round_held : held_after n goals can done goal round ≡ held_after n goals can done goal all
    unfolding held_after
    round_held =
        inside n (attracted_all goals can done goal) all
        ∙ shrunk_full (numbers n 0) all (attracted_all goals can done goal) set
        (λ ys s. all_sifted goals (numbers n 0) ys s)
        (λ ys x m. (all_holds goals ys x m).0) n (sifted_few n all set)

    -- where it leaves as many nodes it leaves all, and these are left in the end
    pub round_still : length all ≤ length round → held_after n goals can done goal all ≡ all
    unfolding held_after iterate
    round_still l =
        let less = sifted_longer (numbers n 0) round all (all_sifted goals (numbers n 0) all set) set
        (λ x m. (all_holds goals all x m).0) in
        let same = sifted_as_long (numbers n 0) round all (all_sifted goals (numbers n 0) all set) set
        (λ x m. (all_holds goals all x m).0) (omega (arith, less)) in
        iterate_still 0 n (attracted_all goals can done goal) all same (omega arith)

  -- a node has a wait for a goal exactly where the goal is forced
  pub steps_none : (g : ℕ → Bool) (all : List ℕ) → length all ≤ 1024 → (x : ℕ)
      → is_in x (attracted can done g all) ≡ not (eqb (steps_to can done g all x) 65535)
  unfolding steps_to
  steps_none g all few x =
      let r = first_range (length all) 0 (λ k. is_in x (reached_in can done g all k)) in
      not_mark (is_in x (attracted can done g all)) (first (length all) 0 (λ k. is_in x (reached_in can done g all k)))
      (omega arith)

  -- so those with a wait for each goal are what a round leaves
  module _ (n goals : ℕ) (all : List ℕ) (set : Sifted (numbers n 0) all) (small : n ≤ 1024) (waits : List ℕ)
      (columns : (i x : ℕ) → i < goals → x < n → get_or waits (i * n + x) 0 ≡ steps_to can done (goal i) all x) where
    few : length all ≤ 1024
    few = omega (arith, sifted_few n all set)

    has_wait : (i x : ℕ) → i < goals → x < n
        → not (eqb (get_or waits (i * n + x) 0) 65535) ≡ is_in x (attracted can done (goal i) all)
    has_wait i x hi hx =
        ap (λ (v : ℕ). not (eqb v 65535)) (columns i x hi hx) ∙ sym (steps_none (goal i) all few x)

    pub cut_round : filter (waits_all waits n goals) all ≡ attracted_all goals can done goal all
    unfolding waits_all
    cut_round =
        let test : ℕ → ℕ → Bool = λ x i. not (eqb (get_or waits (i * n + x) 0) 65535) in
        sifted_same (numbers n 0) (filter (λ x. every goals 0 (test x)) all) (attracted_all goals can done goal all)
        (sifted_sub (λ x. every goals 0 (test x)) (numbers n 0) all set) (all_sifted goals (numbers n 0) all set)
        (λ x m.
        let h = filter_holds (λ y. every goals 0 (test y)) all x m in
        let hx = sifted_below n all set x h.0 in
        all_in_lem goals all x h.0
        (λ i l. sym (has_wait i x l hx) ∙ every_at goals 0 (test x) h.1 i (omega arith) (omega arith)))
        (λ x m.
        let h = all_holds goals all x m in
        let hx = sifted_below n all set x h.0 in
        filter_in (λ y. every goals 0 (test y)) all x h.0
        (every_all goals 0 (test x) (λ i low high. has_wait i x (omega arith) hx ∙ h.1 i (omega arith))))

  -- what a round leaves of a set
  pub round_leaves : (goals : ℕ) (old : List ℕ)
      → ((ys zs : List ℕ) (x : ℕ) → Sub ys zs → can ys x ≡ true → can zs x ≡ true)
      → Leaves can old (attracted_all goals can done goal old)
  round_leaves goals old more =
      record {
        within = λ x m. (all_holds goals old x m).0;
        closed = λ ys x s a h.
            all_in_lem goals old x a
            (λ j l. attracted_closed can old done (goal j) x a
            (more ys (attracted can done (goal j) old) x (λ y m. (all_holds goals old y (s y m)).1 j l) h));
      }

  -- a goal whose targets are as many after a round as before is reached as before
  module _ (n : ℕ) (old new : List ℕ) (set : Sifted (numbers n 0) old) (new_set : Sifted (numbers n 0) new)
      (left : Leaves can old new)
      (more : (ys zs : List ℕ) (x : ℕ) → Sub ys zs → can ys x ≡ true → can zs x ≡ true)
      (nothing : (x : ℕ) → can [] x ≡ false) (i : ℕ) where
    abbrev SameAims : Type 0
    SameAims = length (aims can done (goal i) new) ≡ length (aims can done (goal i) old)

    abbrev new_old : Sub new old
    new_old = left.within

    aims_same : SameAims → aims can done (goal i) new ≡ aims can done (goal i) old
    unfolding aims
    aims_same e =
        sifted_as_long (numbers n 0) (aims can done (goal i) new) (aims can done (goal i) old)
        (sifted_sub (λ x. done x || (goal i x && can new x)) (numbers n 0) new new_set)
        (sifted_sub (λ x. done x || (goal i x && can old x)) (numbers n 0) old set)
        (λ x m.
        let r = filter_holds (λ y. done y || (goal i y && can new y)) new x m in
        filter_in (λ y. done y || (goal i y && can old y)) old x (new_old x r.0)
        (⊎_elim
        (λ d. or_left (done x) _ d)
        (λ b. or_right (done x) _
        (and_true (and_left (goal i x) (can new x) b) (more new old x new_old (and_right (goal i x) (can new x) b))))
        (or_cases (done x) (goal i x && can new x) r.1))) e

    grown_left : (ys : List ℕ) → Sub ys new → grown_in can new ys ≡ grown_in can old ys
    unfolding grown_in
    grown_left ys s =
        let test : ℕ → Bool = λ x. is_in x ys || can ys x in
        sifted_same (numbers n 0) (filter test new) (filter test old) (sifted_sub test (numbers n 0) new new_set)
        (sifted_sub test (numbers n 0) old set)
        (λ x m. let r = filter_holds test new x m in filter_in test old x (new_old x r.0) r.1)
        (λ x m.
        let r = filter_holds test old x m in
        filter_in test new x
        (⊎_elim (λ h. s x h) (λ h. left.closed ys x s r.0 h) (or_cases (is_in x ys) (can ys x) r.1)) r.1)

    reached_same : SameAims → (k : ℕ) → reached_in can done (goal i) new k ≡ reached_in can done (goal i) old k
    reached_same e zero =
        reached_zero can new done (goal i) ∙ (aims_same e ∙ sym (reached_zero can old done (goal i)))
    reached_same e (suc k) =
        let ys = reached_in can done (goal i) new k in
        reached_suc can new done (goal i) k
        ∙ (grown_left ys (reached_within can new done (goal i) k)
        ∙ (ap (grown_in can old) (reached_same e k) ∙ sym (reached_suc can old done (goal i) k)))

    pub steps_same : SameAims → (x : ℕ) → steps_to can done (goal i) new x ≡ steps_to can done (goal i) old x
    steps_same e x =
        steps_first can new done (goal i) nothing n new_set x
        ∙ (ap (or_mark n)
        (first_alike n 0 (λ k. is_in x (reached_in can done (goal i) new k)) (λ k. is_in x (reached_in can done (goal i) old k))
        (λ k l h. ap (λ (ys : List ℕ). is_in x ys) (reached_same e k)))
        ∙ sym (steps_first can old done (goal i) nothing n set x))
