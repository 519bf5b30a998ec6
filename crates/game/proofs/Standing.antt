-- The marks of a set and its game: a node of the set is marked exactly where it can go on within the set. Assumes nothing.
use mathlib.Core.Path.{◌≡◌, refl, sym, ap, ◌∙◌}
use mathlib.Core.Logic.{⊎_elim}
use mathlib.Core.Bool.{Bool, true, false, ◌&&◌, ◌||◌, not}
use mathlib.Core.List.{List, []}
use Prim.Native.Nat.{ℕ, ◌≤◌, ◌<◌}
use native.Mathlib.Omega.{arith}
use native.Mathlib.Decide.{dec_lt}
use borrow.Author.Tests.{lt-ltb, le-ltb}
use lib.Dec.{eqb, ltb}
use lib.ListN.{length, get_or}
use Rattle.statements.specs.Sets.{numbers, every, first, is_in, filter}
use Rattle.sets.proofs.Tests.{decided, not_both, or_right}
use Rattle.sets.proofs.Numbers.{every_all}
use Rattle.sets.proofs.First.{first_holds, first_least, first_alike}
use Rattle.sets.proofs.Members.{Sifted, filter_same, filter_holds, filter_in, filter_test, sifted_same, sifted_filter}
use Rattle.sets.proofs.Members.{sifted_member, numbers_in_lem, is_in_none}
use Rattle.sets.proofs.Iterate.{sifted_below}
use Rattle.sort.specs.Sorted.{places_of}
use Rattle.sort.specs.Steps.{Holds, count_of}
use Rattle.game.specs.Walked.{nodes, node_at, leads_into, can_enter}
use Rattle.game.specs.Steps.{Index}
use Rattle.game.specs.Game.{aims}
use Rattle.game.specs.Packed.{goal_of, over_at}
use Rattle.game.specs.Marks.{wholly, alive, ends_at, Marked, without}
use Rattle.game.specs.Cuts.{others}
use Rattle.game.proofs.Aiming.{aimed}
use Rattle.game.proofs.Counts.{count_same, count_zero, count_none, and_on}
use Rattle.game.proofs.Levels.{can_to, can_from}
use Rattle.game.proofs.Nodes.{node_has}
use Rattle.game.proofs.Attractors.{Sub}

-- a test holds somewhere exactly where it holds of some
some_first : (n : ℕ) (test : ℕ → Bool) → ltb 0 (length (filter test (numbers n 0))) ≡ ltb (first n 0 test) n
some_first n test =
    elim (dec_lt (first n 0 test) n) [
      | yes l ↦
          let some : 0 < length (filter test (numbers n 0)) =
          elim (dec_lt 0 (length (filter test (numbers n 0)))) [
            | yes k ↦ k
            | no k ↦
                absurd (not_both (first_holds n 0 test (omega arith))
                (count_zero n test (omega arith) (first n 0 test) l))
          ] in
          lt-ltb 0 (length (filter test (numbers n 0))) some ∙ sym (lt-ltb (first n 0 test) n l)
      | no l ↦
          let none : length (filter test (numbers n 0)) ≡ 0 =
          count_none n test
          (λ y h. ⊎_elim (λ t. absurd (l (let m = first_least n 0 test y (omega arith) (omega arith) t in omega arith)))
          (λ t. t) (decided (test y))) in
          ap (ltb 0) none ∙ sym (le-ltb (first n 0 test) n (omega arith))
    ]

module _ (gs starts rev : List ℕ) where
  -- more nodes to go on into
  pub can_more : (ys zs : List ℕ) (x : ℕ) → Sub ys zs → can_enter gs starts rev ys x ≡ true
      → can_enter gs starts rev zs x ≡ true
  can_more ys zs x s h =
      let o = can_from gs starts rev ys x h in
      let e : get_or gs o.0 0 ≡ x = o.1.1.0 in
      rw e at (can_to gs starts rev zs o.0 o.1.0 o.1.1.1.0 (λ j l t. s _ (o.1.1.1.1 j l t)))

  -- no node can go on into nothing
  pub can_nothing : (x : ℕ) → can_enter gs starts rev [] x ≡ false
  can_nothing x =
      ⊎_elim
      (λ h.
      let o = can_from gs starts rev [] x h in
      let has = o.1.1.1.0 in
      absurd (is_in_none (node_at starts has.0) (o.1.1.1.1 has.0 has.1.0 has.1.1)))
      (λ h. h)
      (decided (can_enter gs starts rev [] x))

  module _ (full : (g : ℕ) → g < length gs → is_in g rev ≡ true) (set member live dead : List ℕ)
      (m : Marked gs starts rev set member live dead) where
    -- a group that is not dead leads into the set
    alive_leads : (x g : ℕ) → g < length gs
        → alive gs dead x g ≡ (eqb (get_or gs g 0) x && leads_into starts rev set g)
    unfolding alive leads_into wholly ends_at
    alive_leads x g h =
        ap (λ (b : Bool). eqb (get_or gs g 0) x && b)
        (m.dead_is g h
        ∙ ap (λ (b : Bool). b && every (length rev) 0 (λ j. not (eqb (get_or rev j 0) g) || is_in (node_at starts j) set))
        (sym (full g h)))

    -- a node has one exactly where it can go on within the set
    pub live_can : (x : ℕ) → x < nodes starts → ltb 0 (get_or live x 0) ≡ can_enter gs starts rev set x
    unfolding can_enter
    live_can x h =
        ap (ltb 0) (m.live_is x h)
        ∙ (some_first (length gs) (alive gs dead x)
        ∙ ap (λ (k : ℕ). ltb k (length gs))
        (first_alike (length gs) 0 (alive gs dead x) (λ g. eqb (get_or gs g 0) x && leads_into starts rev set g)
        (λ g l k. alive_leads x g (omega arith))))

    pub member_can : (x : ℕ) → x < nodes starts
        → ltb (get_or member x 0) 1 ≡ (is_in x set && can_enter gs starts rev set x)
    member_can x h = m.member_is x h ∙ ap (λ (b : Bool). is_in x set && b) (live_can x h)

  -- the targets in line are those of the game, if a node is marked exactly where it can go on within the set
  pub aimed_aims : (labels set member : List ℕ) (n i : ℕ) → Sifted (numbers n 0) set
      → ((x : ℕ) → x < n → ltb (get_or member x 0) 1 ≡ (is_in x set && can_enter gs starts rev set x))
      → aimed labels member i set ≡ aims (can_enter gs starts rev) (over_at labels) (goal_of labels i) set
  unfolding aimed aims
  aimed_aims labels set member n i s marks =
      filter_same (λ x. over_at labels x || (goal_of labels i x && ltb (get_or member x 0) 1))
      (λ x. over_at labels x || (goal_of labels i x && can_enter gs starts rev set x)) set
      (λ x k.
      ap (λ (b : Bool). over_at labels x || (goal_of labels i x && b))
      (marks x (sifted_below n set s x k) ∙ ap (λ (b : Bool). b && can_enter gs starts rev set x) k))

  -- before any node is struck out
  module _ (index : Index rev starts gs) (member live dead : List ℕ) (none : Holds (length gs) (λ g. 0) dead)
      (counts : Holds (nodes starts) (count_of gs (length gs)) live)
      (opened : (x : ℕ) → x < nodes starts → ltb (get_or member x 0) 1 ≡ ltb 0 (get_or live x 0))
      (member_long : nodes starts ≤ length member) (live_long : nodes starts ≤ length live)
      (dead_long : length gs ≤ length dead) where
    pub begun : Marked gs starts rev (numbers (nodes starts) 0) member live dead
    unfolding wholly ends_at alive count_of places_of
    begun =
        record {
          dead_is = λ g h.
              ap (λ (v : ℕ). eqb v 0) (none g h)
              ∙ sym (every_all (length rev) 0
              (λ j. not (eqb (get_or rev j 0) g) || is_in (node_at starts j) (numbers (nodes starts) 0))
              (λ j l k.
              or_right (not (eqb (get_or rev j 0) g)) _
              (numbers_in_lem (nodes starts) 0 (node_at starts j) (omega arith)
              (omega (arith, (node_has rev starts gs index j (omega arith)).0)))));
          live_is = λ x h.
              counts x h
              ∙ ap length
              (count_same (length gs) (λ a. eqb (get_or gs a 0) x) (λ a. eqb (get_or gs a 0) x && eqb (get_or dead a 0) 0)
              (λ a l.
              sym (ap (λ (v : ℕ). eqb (get_or gs a 0) x && eqb v 0) (none a l) ∙ and_on (eqb (get_or gs a 0) x))));
          member_is = λ x h.
              opened x h
              ∙ sym (ap (λ (b : Bool). b && ltb 0 (get_or live x 0)) (numbers_in_lem (nodes starts) 0 x (omega arith) (omega arith)));
          member_long = member_long;
          live_long = live_long;
          dead_long = dead_long;
        }

-- the nodes that a list leaves out are nodes
pub others_below : (n : ℕ) (list : List ℕ) (x : ℕ) → is_in x (others n list) ≡ true → x < n
unfolding others
others_below n list x h =
    sifted_below n (others n list) (sifted_filter (λ y. not (is_in y list)) (numbers n 0)) x h

-- all nodes without those that a list leaves out are the list
pub without_others : (n : ℕ) (list : List ℕ) → Sifted (numbers n 0) list → without (others n list) (numbers n 0) ≡ list
unfolding without others
without_others n list s =
    let out : ℕ → Bool = λ x. not (is_in x list) in
    sifted_same (numbers n 0) (filter (λ x. not (is_in x (filter out (numbers n 0)))) (numbers n 0)) list
    (sifted_filter (λ x. not (is_in x (filter out (numbers n 0)))) (numbers n 0)) s
    (λ x m.
    let r = filter_holds (λ y. not (is_in y (filter out (numbers n 0)))) (numbers n 0) x m in
    left (is_in x list) (filter_test out (numbers n 0) x r.0) r.1)
    (λ x m.
    let there = sifted_member (numbers n 0) list s x m in
    filter_in (λ y. not (is_in y (filter out (numbers n 0)))) (numbers n 0) x there
    (ap not (filter_test out (numbers n 0) x there ∙ ap not m)))
  where
    left : (b : Bool) {c : Bool} → c ≡ not b → not c ≡ true → b ≡ true
    left true e h = refl
    left false e h = sym (ap not e) ∙ h

-- and a set without its nodes that fail a test has those that pass it
pub without_failing : (test : ℕ → Bool) (set : List ℕ) → without (filter (λ x. not (test x)) set) set ≡ filter test set
unfolding without
without_failing test set =
    filter_same (λ x. not (is_in x (filter (λ y. not (test y)) set))) test set
    (λ x m. ap not (filter_test (λ y. not (test y)) set x m) ∙ twice (test x))
  where
    twice : (b : Bool) → not (not b) ≡ b
    twice true = refl
    twice false = refl
