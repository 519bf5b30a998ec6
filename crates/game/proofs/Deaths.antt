-- What is known of groups and nodes, told by other tests, without a node's own mark, and with one group more dead.
-- Assumes nothing.
use mathlib.Core.Path.{◌≡◌, refl, ap, sym, ◌∙◌}
use mathlib.Core.Bool.{Bool, true, false, ◌&&◌, ◌||◌, not}
use mathlib.Core.List.{List}
use mathlib.Core.Logic.{⊎_elim}
use Prim.Native.Nat.{ℕ, suc, ◌-◌, ◌<◌, ◌≤◌}
use native.Mathlib.Omega.{arith}
use borrow.Author.Tests.{eq-eqb, ne_eqb, lt-ltb, le-ltb}
use lib.Dec.{eqb, ltb}
use lib.ListN.{length, get_or, set, length-set}
use lib.Seq.{get_or-set_same, get_or-set_other}
use Rattle.statements.specs.Sets.{numbers, is_in, filter}
use Rattle.sets.proofs.Tests.{same_number, or_right, same_test}
use Rattle.sets.proofs.Numbers.{every_at, every_all, every_none}
use Rattle.game.specs.Walked.{nodes, node_at}
use Rattle.game.specs.Marks.{wholly, alive, Marks, ends_at, Marked}
use Rattle.game.proofs.Counts.{and_off, and_on, count_same, count_flip}

-- what is stored at a place
stored : (xs : List ℕ) (x v y : ℕ) → y ≡ x → x < length xs → get_or (set xs x v) y 0 ≡ v
stored xs x v y q h = rw q (get_or-set_same xs x v 0 h)

-- the positions of one group pass two tests alike
whole_to : (rev : List ℕ) (f f' : ℕ → Bool) (g : ℕ) → ((i : ℕ) → i < length rev → get_or rev i 0 ≡ g → f i ≡ f' i)
    → wholly rev f g ≡ true → wholly rev f' g ≡ true
unfolding wholly
whole_to rev f f' g same t =
    let all = every_at (length rev) 0 (λ i. not (eqb (get_or rev i 0) g) || f i) t in
    every_all (length rev) 0 (λ i. not (eqb (get_or rev i 0) g) || f' i)
    (λ i low high.
    ⊎_elim
    (λ e.
    let here = rw (eq-eqb (get_or rev i 0) g e) at (all i (omega arith) (omega arith)) in
    or_right (not (eqb (get_or rev i 0) g)) (f' i) (sym (same i (omega arith) e) ∙ here))
    (λ d. rw (ne_eqb (get_or rev i 0) g d))
    (same_number (get_or rev i 0) g))

-- and so does the group as a whole
whole_same : (rev : List ℕ) (f f' : ℕ → Bool) (g : ℕ) → ((i : ℕ) → i < length rev → get_or rev i 0 ≡ g → f i ≡ f' i)
    → wholly rev f g ≡ wholly rev f' g
whole_same rev f f' g same =
    same_test (wholly rev f g) (wholly rev f' g) (whole_to rev f f' g same)
    (whole_to rev f' f g (λ i l e. sym (same i l e)))

module _ (gs starts rev : List ℕ) where
  -- the same tests in other words
  pub other_tests : (ok ok' inside inside' : ℕ → Bool) (member live dead : List ℕ)
      → ((i : ℕ) → i < length rev → ok i ≡ ok' i) → ((y : ℕ) → inside y ≡ inside' y)
      → Marks gs starts rev ok inside member live dead → Marks gs starts rev ok' inside' member live dead
  other_tests ok ok' inside inside' member live dead same also c =
      record {
        dead_is = λ g l. c.dead_is g l ∙ whole_same rev ok ok' g (λ i k e. same i k);
        live_is = c.live_is;
        member_is = λ y l. c.member_is y l ∙ ap (λ (b : Bool). b && ltb 0 (get_or live y 0)) (also y);
        member_long = c.member_long;
        live_long = c.live_long;
        dead_long = c.dead_long;
      }

  -- the same set in other words
  pub other_set : (xs ys member live dead : List ℕ) → ((y : ℕ) → is_in y xs ≡ is_in y ys)
      → Marked gs starts rev xs member live dead → Marked gs starts rev ys member live dead
  unfolding ends_at
  other_set xs ys member live dead same c =
      other_tests (ends_at starts xs) (ends_at starts ys) (λ y. is_in y xs) (λ y. is_in y ys) member live dead
      (λ i l. same (node_at starts i)) same c

  module _ (ok inside : ℕ → Bool) (member live dead : List ℕ) (c : Marks gs starts rev ok inside member live dead) where
    -- a node loses its mark
    pub unmark : (x : ℕ) → x < nodes starts
        → Marks gs starts rev ok (λ y. inside y && not (eqb y x)) (set member x 65535) live dead
    unmark x h =
        record {
          dead_is = c.dead_is;
          live_is = c.live_is;
          member_is = λ y l.
              ⊎_elim
              (λ q.
              let high = stored member x 65535 y q (omega (arith, c.member_long)) in
              rw (high, eq-eqb y x q, and_off (inside y)))
              (λ q. rw (get_or-set_other member x y 65535 0 q, ne_eqb y x q, and_on (inside y)) (c.member_is y l))
              (same_number y x);
          member_long = rw (length-set member x 65535) c.member_long;
          live_long = c.live_long;
          dead_long = c.dead_long;
        }

    -- a position of group g fails
    module _ (ok' : ℕ → Bool) (j g : ℕ) (h : j < length rev) (e : get_or rev j 0 ≡ g) (no : ok' j ≡ false)
        (same : (i : ℕ) → (i ≡ j → ⊥) → ok i ≡ ok' i) where
      -- so the group as a whole does, and no other
      whole_now : wholly rev ok' g ≡ false
      unfolding wholly
      whole_now =
          every_none (length rev) 0 (λ i. not (eqb (get_or rev i 0) g) || ok' i) j (omega arith) (omega arith)
          (rw (e, eq-eqb g g refl, no))

      whole_else : (k : ℕ) → (k ≡ g → ⊥) → wholly rev ok k ≡ wholly rev ok' k
      whole_else k d =
          whole_same rev ok ok' k
          (λ i l t. same i (λ q. d (sym t ∙ (ap (λ (z : ℕ). get_or rev z 0) q ∙ e))))

      -- the group is dead already
      pub dead_before : (get_or dead g 0 ≡ 0 → ⊥) → Marks gs starts rev ok' inside member live dead
      dead_before d =
          record {
            dead_is = λ k l.
                ⊎_elim
                (λ q. rw q (ne_eqb (get_or dead g 0) 0 d ∙ sym whole_now))
                (λ q. c.dead_is k l ∙ whole_else k q)
                (same_number k g);
            live_is = c.live_is;
            member_is = c.member_is;
            member_long = c.member_long;
            live_long = c.live_long;
            dead_long = c.dead_long;
          }

      -- the group dies
      module _ (gl : g < length gs) (f : ℕ) (ef : get_or gs g 0 ≡ f) (fn : f < nodes starts)
          (d : get_or dead g 0 ≡ 0) where
        -- what is stored, and the groups that are left of its node and of the others
        dead_at : (k : ℕ) → k ≡ g → get_or (set dead g 1) k 0 ≡ 1
        dead_at k q = stored dead g 1 k q (omega (arith, c.dead_long))

        one_fewer : length (filter (alive gs dead f) (numbers (length gs) 0))
            ≡ suc (length (filter (alive gs (set dead g 1) f) (numbers (length gs) 0)))
        unfolding alive
        one_fewer =
            count_flip (length gs) g (alive gs dead f) (alive gs (set dead g 1) f) gl
            (rw (ef, d, eq-eqb f f refl)) (rw (dead_at g refl) (and_off (eqb (get_or gs g 0) f)))
            (λ z l q. rw (get_or-set_other dead g z 1 0 q))

        others_same : (y : ℕ) → (y ≡ f → ⊥) → (z : ℕ) → z < length gs
            → alive gs dead y z ≡ alive gs (set dead g 1) y z
        unfolding alive
        others_same y q z l =
            ⊎_elim
            (λ t.
            let off : eqb (get_or gs z 0) y ≡ false =
            ne_eqb (get_or gs z 0) y (λ b. q (sym b ∙ (ap (λ (i : ℕ). get_or gs i 0) t ∙ ef))) in
            rw off)
            (λ t. rw (get_or-set_other dead g z 1 0 t))
            (same_number z g)

        -- its node had a group
        pub some_left : 0 < get_or live f 0
        some_left = omega (arith, c.live_is f fn, one_fewer)

        -- one group less of its node
        live_at : (y : ℕ) → y ≡ f → get_or (set live f (get_or live f 0 - 1)) y 0 ≡ get_or live f 0 - 1
        live_at y q = stored live f (get_or live f 0 - 1) y q (omega (arith, c.live_long))

        -- with the marks of the nodes open
        died : (member' : List ℕ) → nodes starts ≤ length member'
            → ((y : ℕ) → y < nodes starts → ltb (get_or member' y 0) 1
            ≡ (inside y && ltb 0 (get_or (set live f (get_or live f 0 - 1)) y 0)))
            → Marks gs starts rev ok' inside member' (set live f (get_or live f 0 - 1)) (set dead g 1)
        died member' long marks =
            record {
              dead_is = λ k l.
                  ⊎_elim
                  (λ q. rw (dead_at k q, q) (sym whole_now))
                  (λ q. rw (get_or-set_other dead g k 1 0 q) (c.dead_is k l ∙ whole_else k q))
                  (same_number k g);
              live_is = λ y l.
                  ⊎_elim
                  (λ q.
                  let mine : get_or live f 0 - 1
                  ≡ length (filter (alive gs (set dead g 1) f) (numbers (length gs) 0)) =
                  omega (arith, c.live_is f fn, one_fewer) in
                  rw q (live_at f refl ∙ mine))
                  (λ q.
                  get_or-set_other live f y (get_or live f 0 - 1) 0 q
                  ∙ (c.live_is y l
                  ∙ ap length
                  (count_same (length gs) (alive gs dead y) (alive gs (set dead g 1) y) (others_same y q))))
                  (same_number y f);
              member_is = marks;
              member_long = long;
              live_long = rw (length-set live f (get_or live f 0 - 1)) c.live_long;
              dead_long = rw (length-set dead g 1) c.dead_long;
            }

        -- it was the last of its node
        pub died_last : get_or live f 0 - 1 ≡ 0
            → Marks gs starts rev ok' inside (set member f 65535) (set live f (get_or live f 0 - 1)) (set dead g 1)
        died_last z =
            died (set member f 65535) (rw (length-set member f 65535) c.member_long)
            (λ y l.
            ⊎_elim
            (λ q.
            let high = stored member f 65535 y q (omega (arith, c.member_long)) in
            rw (high, live_at y q, z, and_off (inside y)))
            (λ q.
            rw (get_or-set_other member f y 65535 0 q, get_or-set_other live f y (get_or live f 0 - 1) 0 q)
            (c.member_is y l))
            (same_number y f))

        -- the same where its node has no mark
        pub died_unmarked : get_or live f 0 - 1 ≡ 0 → 0 < get_or member f 0
            → Marks gs starts rev ok' inside member (set live f (get_or live f 0 - 1)) (set dead g 1)
        died_unmarked z out =
            died member c.member_long
            (λ y l.
            ⊎_elim
            (λ q.
            let high : ltb (get_or member y 0) 1 ≡ false = rw q (le-ltb (get_or member f 0) 1 out) in
            rw (high, live_at y q, z, and_off (inside y)))
            (λ q. rw (get_or-set_other live f y (get_or live f 0 - 1) 0 q) (c.member_is y l))
            (same_number y f))

        -- its node has another
        pub died_more : (get_or live f 0 - 1 ≡ 0 → ⊥)
            → Marks gs starts rev ok' inside member (set live f (get_or live f 0 - 1)) (set dead g 1)
        died_more z =
            died member c.member_long
            (λ y l.
            ⊎_elim
            (λ q.
            let some = lt-ltb 0 (get_or live f 0) some_left in
            let still = lt-ltb 0 (get_or live f 0 - 1) (omega (arith, z)) in
            let there : ltb 0 (get_or live y 0) ≡ true = rw q some in
            rw (live_at y q, still) (rw there at (c.member_is y l)))
            (λ q. rw (get_or-set_other live f y (get_or live f 0 - 1) 0 q) (c.member_is y l))
            (same_number y f))
