-- A round that strikes nodes out at once: the nodes cut away go on the worklist first, and the list of the set is cut
-- down to what the worklist leaves. Assumes nothing.
use mathlib.Core.Path.{◌≡◌, refl, sym, ap, ◌∙◌, subst}
use mathlib.Core.Logic.{inl, inr, ⊎_elim}
use mathlib.Core.Bool.{Bool, true, false, ◌&&◌, ◌||◌, not}
use mathlib.Core.List.{List, []}
use Prim.Native.Nat.{ℕ, ◌≤◌, ◌<◌}
use native.Mathlib.Omega.{arith}
use borrow.Author.Tests.{lt-ltb}
use lib.Dec.{ltb}
use lib.ListN.{length, get_or, take}
use lib.Seq.{get_or-take, take-take, length-take-le}
use Rattle.statements.specs.Sets.{pick, numbers, is_in, filter}
use Rattle.statements.specs.Demands.{Rising}
use Rattle.sets.proofs.Tests.{decided, and_true, and_left, or_left, or_right, or_cases}
use Rattle.sets.proofs.Members.{Sifted, sifted_sub, sifted_same, filter_holds, filter_in, filter_test, filter_parts}
use Rattle.sets.proofs.Members.{filter_length}
use Rattle.sets.proofs.Iterate.{sifted_below, sifted_as_long}
use Rattle.sets.proofs.Rising.{filter_rises}
use Rattle.game.specs.Walked.{nodes}
use Rattle.game.specs.Game.{Can}
use Rattle.game.specs.Packed.{groups_in, rev_in, starts_in, labels_in, over_at, can_in}
use Rattle.game.specs.Marks.{Marks, ends_at, Marked, without}
use Rattle.game.specs.Playing.{Ready}
use Rattle.game.specs.Draining.{drained, Once, Unmarked, Taken, remains, GoesOn}
use Rattle.game.proofs.Counts.{and_on, and_off, in_take}
use Rattle.game.proofs.Cutting.{place_in}
use Rattle.game.proofs.Parts.{groups_length, starts_nodes}
use Rattle.game.proofs.Standing.{can_more, live_can, without_failing}
use Rattle.game.proofs.Deaths.{other_set}
use Rattle.game.proofs.Strikes.{in_without, without_holds}
use Rattle.game.proofs.Drained.{Rises, drained_within, drained_sifted, drained_moves, drained_joins}
use Rattle.game.proofs.Drained.{drained_greatest}

-- a rising list has no node twice
pub sifted_once : (n : ℕ) (xs : List ℕ) → Sifted (numbers n 0) xs → Once xs (length xs)
sifted_once n xs s k h =
    ⊎_elim
    (λ m.
    let o = in_take k xs (get_or xs k 0) m in
    absurd (let l = rise o.0 k o.1.0 h in omega (arith, l, o.1.1)))
    (λ m. m)
    (decided (is_in (get_or xs k 0) (take k xs)))
  where
    rise : Rising xs
    rise = subst Rising (sym s) (filter_rises (λ x. is_in x xs) n 0)

-- the nodes cut away from a rising list rise too
pub cut_sifted : (n : ℕ) (test : ℕ → Bool) (xs gone : List ℕ) → Sifted (numbers n 0) xs
    → gone ≡ filter (λ x. not (test x)) xs → Sifted (numbers n 0) gone
cut_sifted n test xs gone s e =
    subst (Sifted (numbers n 0)) (sym e) (sifted_sub (λ x. not (test x)) (numbers n 0) xs s)

-- and without them those that pass are left
pub without_cut : (test : ℕ → Bool) (xs gone list : List ℕ) (tail : ℕ) → gone ≡ filter (λ x. not (test x)) xs
    → take tail list ≡ gone → without (take tail list) xs ≡ filter test xs
without_cut test xs gone list tail cut front =
    ap (λ (l : List ℕ). without l xs) (front ∙ cut) ∙ without_failing test xs

-- the marks of some nodes are taken away
unmarked_marks : (gs starts rev xs gone member live dead new : List ℕ) → Marked gs starts rev xs member live dead
    → Unmarked gone member new → length new ≡ length member
    → Marks gs starts rev (ends_at starts (without [] xs)) (λ x. is_in x (without gone xs)) new live dead
unfolding is_in
unmarked_marks gs starts rev xs gone member live dead new m un size =
    let all =
    other_set gs starts rev xs (without [] xs) member live dead
    (λ y. sym (in_without y [] xs ∙ and_on (is_in y xs))) m in
    record {
      dead_is = all.dead_is;
      live_is = m.live_is;
      member_is = λ y l.
          ap (λ (v : ℕ). ltb v 1) (un y)
          ∙ (cases (is_in y gone) (get_or member y 0) (is_in y xs) (ltb 0 (get_or live y 0)) (m.member_is y l)
          ∙ ap (λ (b : Bool). b && ltb 0 (get_or live y 0)) (sym (in_without y gone xs)));
      member_long = omega (arith, m.member_long);
      live_long = m.live_long;
      dead_long = m.dead_long;
    }
  where
    cases : (b : Bool) (v : ℕ) (a d : Bool) → ltb v 1 ≡ (a && d) → ltb (pick b 65535 v) 1 ≡ ((a && not b) && d)
    cases true v a d e = sym (ap (λ (k : Bool). k && d) (and_off a))
    cases false v a d e = e ∙ sym (ap (λ (k : Bool). k && d) (and_on a))

module _ (graph : List ℕ) (n groups positions goals : ℕ) (ready : Ready graph n groups positions goals) where
  abbrev gs : List ℕ
  gs = groups_in graph groups

  abbrev starts : List ℕ
  starts = starts_in graph n

  abbrev rev : List ℕ
  rev = rev_in graph positions

  abbrev can : Can
  can = can_in graph n groups positions

  abbrev labels : List ℕ
  labels = labels_in graph n

  -- the nodes that fail a test are on the worklist, and none is taken off it yet
  module _ (test : ℕ → Bool) (xs gone member live dead new list : List ℕ) (tail : ℕ) (sifted : Sifted (numbers n 0) xs)
      (marked : Marked gs starts rev xs member live dead) (goes : GoesOn test labels xs live)
      (cut : gone ≡ filter (λ x. not (test x)) xs) (number : tail ≡ length gone) (front : take tail list ≡ gone)
      (un : Unmarked gone member new) (size : length new ≡ length member) (room : n ≤ length list)
      (enough : tail ≤ length list) where
    rest : without (take tail list) xs ≡ filter test xs
    rest = without_cut test xs gone list tail cut front

    gone_sifted : Sifted (numbers n 0) gone
    gone_sifted = cut_sifted n test xs gone sifted cut

    -- the list's front is the nodes cut away, place by place
    place_is : (i : ℕ) → i < tail → get_or list i 0 ≡ get_or gone i 0
    place_is i h = sym (get_or-take tail list i 0 h) ∙ ap (λ (l : List ℕ). get_or l i 0) front

    fronts : (i : ℕ) → i < tail → take i list ≡ take i gone
    fronts i h = sym (take-take i tail list (omega arith)) ∙ ap (take i) front

    passes : (x : ℕ) → is_in x xs ≡ true → is_in x (take tail list) ≡ false → test x ≡ true
    passes x a b =
        twice (test x) (sym (filter_test (λ y. not (test y)) xs x a) ∙ (ap (is_in x) (sym (front ∙ cut)) ∙ b))
      where
        twice : (b : Bool) → not b ≡ false → b ≡ true
        twice true h = refl
        twice false h = sym h

    pub drain_begin : Taken graph n groups positions xs (take tail list) new live dead list 0 tail
    drain_begin = (
      omega arith,
      record {
        marks =
            subst
            (λ (l : List ℕ).
            Marks gs starts rev (ends_at starts (without [] xs)) (λ x. is_in x (without l xs)) new live dead)
            (sym front) (unmarked_marks gs starts rev xs gone member live dead new marked un size);
        sifted = sifted;
        room = room;
        inside = λ i h.
            let there : is_in (get_or gone i 0) gone ≡ true = place_in gone i (omega arith) in
            rw (place_is i h)
            (filter_holds (λ x. not (test x)) xs (get_or gone i 0)
            (subst (λ (l : List ℕ). is_in (get_or gone i 0) l ≡ true) cut there)).0;
        once = λ i h. rw (place_is i h, fronts i h) (sifted_once n gone gone_sifted i (omega arith));
        number =
            omega (
              arith,
              ap length rest,
              filter_parts test xs,
              number,
              ap length cut,
            );
        from = omega (arith, length-take-le tail list enough);
        front = ap (λ (k : ℕ). take k list) (length-take-le tail list enough);
        others = λ x a b. goes x a (passes x a b);
        spares = λ part within on x m. (without_holds x (take tail list) xs (within x m)).1;
      },
    )

  -- no node fails the test: none is struck out
  module _ (test : ℕ → Bool) (xs member live dead : List ℕ) (sifted : Sifted (numbers n 0) xs)
      (marked : Marked gs starts rev xs member live dead) (goes : GoesOn test labels xs live)
      (all : length xs ≤ length (filter test xs)) where
    whole : filter test xs ≡ xs
    whole =
        sifted_as_long (numbers n 0) (filter test xs) xs (sifted_sub test (numbers n 0) xs sifted) sifted
        (λ x m. (filter_holds test xs x m).0) (omega (arith, filter_length test xs))

    drained_whole : drained can (over_at labels) (filter test xs) ≡ xs
    unfolding can_in
    drained_whole =
        ap (drained can (over_at labels)) whole
        ∙ sifted_same (numbers n 0) (drained can (over_at labels) xs) xs
        (drained_sifted can (over_at labels) (numbers n 0) xs sifted) sifted (drained_within can (over_at labels) xs)
        (drained_greatest can (over_at labels) (can_more gs starts rev) xs xs (λ x m. m)
        (λ x m.
        ⊎_elim
        (λ d. inl d)
        (λ h.
        inr (sym (live_can gs starts rev (λ g l. ready.full g (omega (arith, groups_length graph ready.fits))) xs
        member live dead marked x (omega (arith, sifted_below n xs sifted x m, starts_nodes graph ready.fits)))
        ∙ lt-ltb 0 (get_or live x 0) h))
        (goes x m (filter_holds test xs x (rw whole m)).1)))

    pub shrink_none : (out : List ℕ) (number : ℕ) → number ≡ length xs → out ≡ filter test xs
        → (number ≡ length (drained can (over_at labels) (filter test xs)))
        × ((out ≡ drained can (over_at labels) (filter test xs)) × Marked gs starts rev out member live dead)
    shrink_none out number long is = (
      long ∙ sym (ap length drained_whole),
      (
        is ∙ (whole ∙ sym drained_whole),
        subst (λ (l : List ℕ). Marked gs starts rev l member live dead) (sym (is ∙ whole)) marked,
      ),
    )

  -- what the worklist leaves of a set, by the marks
  module _ (xs member live dead : List ℕ) (sifted : Sifted (numbers n 0) xs)
      (marked : Marked gs starts rev (drained can (over_at labels) xs) member live dead) where
    abbrev left : List ℕ
    left = drained can (over_at labels) xs

    rises : Rises can
    unfolding can_in
    rises = can_more gs starts rev

    low : (x : ℕ) → is_in x xs ≡ true → x < nodes starts
    low x m = omega (arith, sifted_below n xs sifted x m, starts_nodes graph ready.fits)

    marked_in : (x : ℕ) → is_in x xs ≡ true → ltb (get_or member x 0) 1 ≡ true → is_in x left ≡ true
    marked_in x m h = and_left (is_in x left) (ltb 0 (get_or live x 0)) (sym (marked.member_is x (low x m)) ∙ h)

    in_marked : (x : ℕ) → is_in x left ≡ true → can left x ≡ true → ltb (get_or member x 0) 1 ≡ true
    unfolding can_in
    in_marked x m h =
        let there = drained_within can (over_at labels) xs x m in
        marked.member_is x (low x there)
        ∙ and_true m
        (live_can gs starts rev (λ g l. ready.full g (omega (arith, groups_length graph ready.fits))) left member
        live dead marked x (low x there)
        ∙ h)

    pub kept_drained : filter (remains labels member) xs ≡ left
    unfolding remains
    kept_drained =
        sifted_same (numbers n 0) (filter test xs) left (sifted_sub test (numbers n 0) xs sifted)
        (drained_sifted can (over_at labels) (numbers n 0) xs sifted)
        (λ x m.
        let r = filter_holds test xs x m in
        ⊎_elim
        (λ h. marked_in x r.0 h)
        (λ h. drained_joins can (over_at labels) rises (numbers n 0) xs sifted x r.0 (inl h))
        (or_cases (ltb (get_or member x 0) 1) (over_at labels x) r.1))
        (λ x m.
        filter_in test xs x (drained_within can (over_at labels) xs x m)
        (⊎_elim
        (λ h. or_right (ltb (get_or member x 0) 1) (over_at labels x) h)
        (λ h. or_left (ltb (get_or member x 0) 1) (over_at labels x) (in_marked x m h))
        (drained_moves can (over_at labels) (numbers n 0) xs sifted x m)))
      where
        test : ℕ → Bool
        test x = ltb (get_or member x 0) 1 || over_at labels x

    -- so they are what is left when the list is cut down
    pub shrink_end : (front out : List ℕ) (number : ℕ) → front ≡ xs
        → number ≡ length (filter (remains labels member) front) → out ≡ filter (remains labels member) front
        → (number ≡ length left) × ((out ≡ left) × Marked gs starts rev out member live dead)
    shrink_end front out number same long is =
        let all = ap (filter (remains labels member)) same ∙ kept_drained in (
          long ∙ ap length all,
          (is ∙ all, subst (λ (l : List ℕ). Marked gs starts rev l member live dead) (sym (is ∙ all)) marked),
        )
