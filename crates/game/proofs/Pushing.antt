-- A node more on a worklist, and a set without the nodes on it; and a node that can go on has a group that is not dead.
-- Assumes nothing.
use mathlib.Core.Path.{◌≡◌, refl, sym, ap, ◌∙◌}
use mathlib.Core.Logic.{◌⊎◌, ⊎_elim}
use mathlib.Core.Bool.{Bool, true, false, ◌&&◌, ◌||◌, not}
use mathlib.Core.List.{List, [], ◌∷◌}
use Prim.Native.Nat.{ℕ, ◌+◌, ◌<◌}
use native.Mathlib.Omega.{arith}
use native.Mathlib.Numerals.{add-one}
use borrow.Author.Tests.{eq-eqb, ne_eqb}
use lib.Dec.{eqb}
use lib.ListN.{length, get_or, take, set}
use lib.Seq.{take-set-le, take-suc-set}
use Rattle.statements.specs.Sets.{numbers, is_in, filter}
use Rattle.sets.proofs.Tests.{same_number, not_both, and_true, or_right}
use Rattle.sets.proofs.Members.{Sifted, sifted_sub}
use Rattle.sets.proofs.Numbers.{every_all}
use Rattle.game.specs.Walked.{nodes, node_at, can_enter}
use Rattle.game.specs.Packed.{groups_in, rev_in, starts_in, labels_in, over_at}
use Rattle.game.specs.Marks.{wholly, alive, Marks, without}
use Rattle.game.specs.Draining.{Draining, Grown}
use Rattle.game.proofs.Counts.{or_false, count_zero, is_in_append, lt_or_le}
use Rattle.game.proofs.Levels.{can_from}
use Rattle.game.proofs.Strikes.{in_without, apart_both}

-- a node with a group that leads into a set has one that is not dead, where no position of the set's nodes fails
pub can_live : (gs starts rev : List ℕ) (ok inside : ℕ → Bool) (member live dead : List ℕ)
    → Marks gs starts rev ok inside member live dead → (xs : List ℕ)
    → ((i : ℕ) → i < length rev → is_in (node_at starts i) xs ≡ true → ok i ≡ true)
    → (x : ℕ) → x < nodes starts → can_enter gs starts rev xs x ≡ true → 0 < get_or live x 0
unfolding alive wholly
can_live gs starts rev ok inside member live dead m xs passes x h can =
    let o = can_from gs starts rev xs x can in
    let g = o.0 in
    let whole : wholly rev ok g ≡ true =
    every_all (length rev) 0 (λ i. not (eqb (get_or rev i 0) g) || ok i)
    (λ i l k.
    ⊎_elim
    (λ e. or_right (not (eqb (get_or rev i 0) g)) (ok i) (passes i (omega arith) (o.1.1.1.1 i (omega arith) e)))
    (λ d. rw (ne_eqb (get_or rev i 0) g d))
    (same_number (get_or rev i 0) g)) in
    let lives : alive gs dead x g ≡ true =
    and_true (eq-eqb (get_or gs g 0) x o.1.1.0) (m.dead_is g o.1.0 ∙ whole) in
    ⊎_elim
    (λ l. l)
    (λ l.
    absurd (not_both lives
    (count_zero (length gs) (alive gs dead x) (sym (m.live_is x h) ∙ (let z : get_or live x 0 ≡ 0 = omega arith in z)) g
    o.1.0)))
    (lt_or_le 0 (get_or live x 0))

-- a list with one node more
module _ (list : List ℕ) (tail f : ℕ) (room : tail < length list) where
  pub pushed_in : (y : ℕ) → is_in y (take (tail + 1) (set list tail f)) ≡ (is_in y (take tail list) || eqb y f)
  unfolding is_in
  pushed_in y =
      rw (add-one tail, take-suc-set list tail f room, is_in_append y (take tail list) (f ∷ []), or_false (eqb y f))

  -- and a set without its nodes
  pub pushed_without : (xs : List ℕ) (y : ℕ)
      → is_in y (without (take (tail + 1) (set list tail f)) xs)
      ≡ (is_in y (without (take tail list) xs) && not (eqb y f))
  pushed_without xs y =
      rw (
        in_without y (take (tail + 1) (set list tail f)) xs,
        in_without y (take tail list) xs,
        pushed_in y,
      )
      (sym (apart_both (is_in y xs) (is_in y (take tail list)) (eqb y f)))

-- a set without one node more
pub without_more : (x : ℕ) (gone ys : List ℕ) (y : ℕ)
    → is_in y (without (x ∷ gone) ys) ≡ (is_in y (without gone ys) && not (eqb y x))
unfolding is_in
without_more x gone ys y =
    rw (in_without y (x ∷ gone) ys, in_without y gone ys) (turn (is_in y ys) (eqb y x) (is_in y gone))
  where
    turn : (a b d : Bool) → (a && not (b || d)) ≡ ((a && not d) && not b)
    turn true true true = refl
    turn true true false = refl
    turn true false true = refl
    turn true false false = refl
    turn false b d = refl

-- how many nodes of a set are not struck out
pub without_count : (n : ℕ) (gone xs : List ℕ) → Sifted (numbers n 0) xs
    → length (without gone xs) ≡ length (filter (λ y. is_in y (without gone xs)) (numbers n 0))
unfolding without
without_count n gone xs s = ap length (sifted_sub (λ x. not (is_in x gone)) (numbers n 0) xs s)

-- nothing goes on the list, or one node after the others
pub grown_none : (list : List ℕ) (tail : ℕ) → Grown list list tail tail
grown_none list tail = record { more = omega arith; same = refl }

pub grown_one : (list : List ℕ) (tail f : ℕ) → Grown list (set list tail f) tail (tail + 1)
grown_one list tail f = record { more = omega arith; same = take-set-le tail list tail f (omega arith) }

-- the same nodes are on a worklist, with other marks
pub same_list : {graph : List ℕ} {n groups positions : ℕ} {ok after : ℕ → Bool}
    {xs first member live dead list member' live' dead' : List ℕ} {tail : ℕ}
    → Draining graph n groups positions ok xs first member live dead list tail
    → Marks (groups_in graph groups) (starts_in graph n) (rev_in graph positions) after
    (λ x. is_in x (without (take tail list) xs)) member' live' dead'
    → ((x : ℕ) → is_in x xs ≡ true → is_in x (take tail list) ≡ false
    → (over_at (labels_in graph n) x ≡ true) ⊎ (0 < get_or live' x 0))
    → Draining graph n groups positions after xs first member' live' dead' list tail
same_list c marks others =
    record {
      marks = marks;
      sifted = c.sifted;
      room = c.room;
      inside = c.inside;
      once = c.once;
      number = c.number;
      from = c.from;
      front = c.front;
      others = others;
      spares = c.spares;
    }
