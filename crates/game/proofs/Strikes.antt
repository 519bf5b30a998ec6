-- Nodes are struck out of a set: one node's positions one by one, and a list of nodes one by one. Assumes nothing.
use mathlib.Core.Path.{◌≡◌, refl, ap, sym, ◌∙◌}
use mathlib.Core.Bool.{Bool, true, false, ◌&&◌, ◌||◌, not}
use mathlib.Core.List.{List, [], ◌∷◌}
use mathlib.Core.Logic.{⊎_elim}
use Prim.Native.Nat.{ℕ, ◌+◌, ◌-◌, ◌<◌, ◌≤◌}
use native.Mathlib.Omega.{arith}
use native.Mathlib.Numerals.{add-one}
use borrow.Author.Tests.{lt-ltb, le-ltb, le-leb, lt-leb}
use lib.Dec.{eqb, ltb, leb}
use lib.ListN.{length, get_or, set, take, length-set}
use lib.Seq.{take-suc, take_all}
use Rattle.statements.specs.Sets.{is_in, filter}
use Rattle.sets.proofs.Tests.{and_true, and_left, and_right, same_test}
use Rattle.sets.proofs.Members.{filter_holds, filter_in}
use Rattle.game.specs.Walked.{nodes, node_at}
use Rattle.game.specs.Steps.{Index}
use Rattle.game.specs.Marks.{Marks, ends_at, Marked, without}
use Rattle.game.proofs.Counts.{lt_or_le, or_false, and_off, and_on, is_in_append}
use Rattle.game.proofs.Nodes.{node_iff, in_range}
use Rattle.game.proofs.Deaths.{other_tests, other_set, unmark, dead_before, some_left, died_last, died_more}

-- a node stays unless it is struck out
pub in_without : (y : ℕ) (gone xs : List ℕ) → is_in y (without gone xs) ≡ (is_in y xs && not (is_in y gone))
unfolding without
in_without y gone xs =
    let f : ℕ → Bool = λ (x : ℕ). not (is_in x gone) in
    same_test (is_in y (filter f xs)) (is_in y xs && f y)
    (λ t. let r = filter_holds f xs y t in and_true r.0 r.1)
    (λ t. filter_in f xs y (and_left (is_in y xs) (f y) t) (and_right (is_in y xs) (f y) t))

pub without_holds : (y : ℕ) (gone xs : List ℕ) → is_in y (without gone xs) ≡ true
    → (is_in y xs ≡ true) × (is_in y gone ≡ false)
without_holds y gone xs m =
    let r = sym (in_without y gone xs) ∙ m in
    (and_left (is_in y xs) _ r, off (is_in y gone) (and_right (is_in y xs) _ r))
  where
    off : (b : Bool) → not b ≡ true → b ≡ false
    off true h = sym h
    off false h = refl

pub without_in : (y : ℕ) (gone xs : List ℕ) → is_in y xs ≡ true → is_in y gone ≡ false
    → is_in y (without gone xs) ≡ true
without_in y gone xs m out = in_without y gone xs ∙ and_true m (ap not out)

-- out of one or of another, or of both at once
pub apart_both : (a b d : Bool) → ((a && not b) && not d) ≡ (a && not (b || d))
apart_both true true d = refl
apart_both true false d = refl
apart_both false b d = refl

-- what is left of a set without node x, as a test
unfoldable pub apart : ℕ → List ℕ → ℕ → Bool
apart x xs y = is_in y xs && not (eqb y x)

-- the positions of a set's nodes but those of node x before j
unfoldable pub struck : List ℕ → ℕ → List ℕ → ℕ → ℕ → Bool
struck starts x xs j i = ends_at starts xs i && not (leb (get_or starts x 0) i && ltb i j)

-- position j fails once it is passed, and the others are as they were
pub struck_now : (starts : List ℕ) (x : ℕ) (xs : List ℕ) (j : ℕ) → get_or starts x 0 ≤ j
    → struck starts x xs (j + 1) j ≡ false
unfolding struck
struck_now starts x xs j h =
    rw (le-leb (get_or starts x 0) j h, lt-ltb j (j + 1) (omega arith)) (and_off (ends_at starts xs j))

pub struck_else : (starts : List ℕ) (x : ℕ) (xs : List ℕ) (j i : ℕ) → (i ≡ j → ⊥)
    → struck starts x xs j i ≡ struck starts x xs (j + 1) i
unfolding struck
struck_else starts x xs j i d =
    ⊎_elim
    (λ l. rw (lt-ltb i j l, lt-ltb i (j + 1) (omega arith)))
    (λ l. rw (le-ltb i j l, le-ltb i (j + 1) (omega (arith, d))))
    (lt_or_le i j)

-- where no position is passed each is as it was
pub struck_none : (starts : List ℕ) (x : ℕ) (xs : List ℕ) (i : ℕ)
    → struck starts x xs (get_or starts x 0) i ≡ ends_at starts xs i
unfolding struck
struck_none starts x xs i = rw (none (get_or starts x 0) i) (and_on (ends_at starts xs i))
  where
    none : (a i : ℕ) → (leb a i && ltb i a) ≡ false
    none a i = ⊎_elim (λ h. rw (lt-leb a i h)) (λ h. rw (le-ltb i a h) (and_off (leb a i))) (lt_or_le i a)

-- the positions of node x before j are passed, for whichever set the marks were
pub record Striking (gs starts rev : List ℕ) (x : ℕ) (member₀ live₀ dead₀ member live dead : List ℕ) (j : ℕ)
    : Type 0 where
  pub from : get_or starts x 0 ≤ j
  pub to : j ≤ get_or starts (x + 1) 0
  pub member_size : length member ≡ length member₀
  pub live_size : length live ≡ length live₀
  pub dead_size : length dead ≡ length dead₀
  pub marks : (xs : List ℕ) → Marks gs starts rev (ends_at starts xs) (apart x xs) member₀ live₀ dead₀
      → Marks gs starts rev (struck starts x xs j) (apart x xs) member live dead

module _ {gs starts rev : List ℕ} (index : Index rev starts gs) (x : ℕ) (xn : x < nodes starts) where
  -- the node loses its own mark
  pub strike_own : (xs : List ℕ) {member live dead : List ℕ} → Marked gs starts rev xs member live dead
      → Marks gs starts rev (ends_at starts xs) (apart x xs) (set member x 65535) live dead
  unfolding apart
  strike_own xs {member} {live} {dead} c =
      unmark gs starts rev (ends_at starts xs) (λ y. is_in y xs) member live dead c x xn

  -- no position is passed
  pub strike_start : {member live dead : List ℕ}
      → Striking gs starts rev x member live dead member live dead (get_or starts x 0)
  strike_start {member} {live} {dead} =
      record {
        from = omega arith;
        to = index.up x xn;
        member_size = refl;
        live_size = refl;
        dead_size = refl;
        marks = λ xs c.
            other_tests gs starts rev (ends_at starts xs) (struck starts x xs (get_or starts x 0)) (apart x xs)
            (apart x xs) member live dead (λ i l. sym (struck_none starts x xs i)) (λ y. refl) c;
      }

  module _ {member₀ live₀ dead₀ member live dead : List ℕ} {j : ℕ}
      (c : Striking gs starts rev x member₀ live₀ dead₀ member live dead j) where
    -- the set without the node
    pub strike_end : get_or starts (x + 1) 0 ≤ j → (xs : List ℕ)
        → Marks gs starts rev (ends_at starts xs) (apart x xs) member₀ live₀ dead₀
        → Marked gs starts rev (without (x ∷ []) xs) member live dead
    unfolding struck ends_at apart is_in
    strike_end h xs m =
        let jj : j ≡ get_or starts (x + 1) 0 = omega (arith, c.to) in
        other_tests gs starts rev (struck starts x xs j) (ends_at starts (without (x ∷ []) xs)) (apart x xs)
        (λ y. is_in y (without (x ∷ []) xs)) member live dead
        (λ i l. rw (jj, node_iff rev starts gs index x i xn l) (one (node_at starts i))) one (c.marks xs m)
      where
        one : (y : ℕ) → (is_in y xs && not (eqb y x)) ≡ is_in y (without (x ∷ []) xs)
        one y = sym (in_without y (x ∷ []) xs ∙ ap (λ (b : Bool). is_in y xs && not b) (or_false (eqb y x)))

    module _ (h : j < get_or starts (x + 1) 0) where
      -- the position under way, its group, and the group's node
      pub strike_place : j < length rev
      strike_place = in_range rev starts gs index x j xn h

      abbrev g : ℕ
      g = get_or rev j 0

      abbrev f : ℕ
      f = get_or gs g 0

      pub strike_group : g < length gs
      strike_group = index.groups j strike_place

      pub strike_node : f < nodes starts
      strike_node = index.of_node g strike_group

      -- it fails from now on, and the others are as they were
      now_no : (xs : List ℕ) → struck starts x xs (j + 1) j ≡ false
      now_no xs = struck_now starts x xs j c.from

      others_on : (xs : List ℕ) (i : ℕ) → (i ≡ j → ⊥) → struck starts x xs j i ≡ struck starts x xs (j + 1) i
      others_on xs i d = struck_else starts x xs j i d

      -- its group is dead already
      pub strike_dead : (get_or dead g 0 ≡ 0 → ⊥)
          → Striking gs starts rev x member₀ live₀ dead₀ member live dead (j + 1)
      strike_dead d =
          record {
            from = omega (arith, c.from);
            to = omega arith;
            member_size = c.member_size;
            live_size = c.live_size;
            dead_size = c.dead_size;
            marks = λ xs m.
                dead_before gs starts rev (struck starts x xs j) (apart x xs) member live dead (c.marks xs m)
                (struck starts x xs (j + 1)) j g strike_place refl (now_no xs) (others_on xs) d;
          }

      module _ (d : get_or dead g 0 ≡ 0) where
        -- its group dies, so its group's node has one
        pub strike_some : (xs : List ℕ) → Marks gs starts rev (ends_at starts xs) (apart x xs) member₀ live₀ dead₀
            → 0 < get_or live f 0
        strike_some xs m =
            some_left gs starts rev (struck starts x xs j) (apart x xs) member live dead (c.marks xs m)
            (struck starts x xs (j + 1)) j g strike_place refl (now_no xs) (others_on xs) strike_group f refl
            strike_node d

        -- the last of its node
        pub strike_last : get_or live f 0 - 1 ≡ 0
            → Striking gs starts rev x member₀ live₀ dead₀ (set member f 65535)
            (set live f (get_or live f 0 - 1)) (set dead g 1) (j + 1)
        strike_last z =
            record {
              from = omega (arith, c.from);
              to = omega arith;
              member_size = length-set member f 65535 ∙ c.member_size;
              live_size = length-set live f (get_or live f 0 - 1) ∙ c.live_size;
              dead_size = length-set dead g 1 ∙ c.dead_size;
              marks = λ xs m.
                  died_last gs starts rev (struck starts x xs j) (apart x xs) member live dead (c.marks xs m)
                  (struck starts x xs (j + 1)) j g strike_place refl (now_no xs) (others_on xs) strike_group f refl
                  strike_node d z;
            }

        -- one of several
        pub strike_more : (get_or live f 0 - 1 ≡ 0 → ⊥)
            → Striking gs starts rev x member₀ live₀ dead₀ member
            (set live f (get_or live f 0 - 1)) (set dead g 1) (j + 1)
        strike_more z =
            record {
              from = omega (arith, c.from);
              to = omega arith;
              member_size = c.member_size;
              live_size = length-set live f (get_or live f 0 - 1) ∙ c.live_size;
              dead_size = length-set dead g 1 ∙ c.dead_size;
              marks = λ xs m.
                  died_more gs starts rev (struck starts x xs j) (apart x xs) member live dead (c.marks xs m)
                  (struck starts x xs (j + 1)) j g strike_place refl (now_no xs) (others_on xs) strike_group f refl
                  strike_node d z;
            }

-- the first k nodes of a list are struck out, of whichever set the marks were
pub record Struck (gs starts rev gone member₀ live₀ dead₀ member live dead : List ℕ) (k : ℕ) : Type 0 where
  pub within : k ≤ length gone
  pub member_size : length member ≡ length member₀
  pub live_size : length live ≡ length live₀
  pub dead_size : length dead ≡ length dead₀
  pub marked : (xs : List ℕ) → Marked gs starts rev xs member₀ live₀ dead₀
      → Marked gs starts rev (without (take k gone) xs) member live dead

module _ (gs starts rev gone member₀ live₀ dead₀ : List ℕ) where
  -- no node is struck out yet
  pub struck_start : Struck gs starts rev gone member₀ live₀ dead₀ member₀ live₀ dead₀ 0
  unfolding is_in
  struck_start =
      record {
        within = omega arith;
        member_size = refl;
        live_size = refl;
        dead_size = refl;
        marked = λ xs m.
            other_set gs starts rev xs (without [] xs) member₀ live₀ dead₀ (λ y. none xs y) m;
      }
    where
      none : (xs : List ℕ) (y : ℕ) → is_in y xs ≡ is_in y (without [] xs)
      none xs y = sym (in_without y [] xs ∙ and_on (is_in y xs))

  module _ {member live dead : List ℕ} {k : ℕ}
      (c : Struck gs starts rev gone member₀ live₀ dead₀ member live dead k) where
    -- one more node
    pub struck_more : {member' live' dead' : List ℕ} → k < length gone → length member' ≡ length member
        → length live' ≡ length live → length dead' ≡ length dead
        → ((xs : List ℕ) → Marked gs starts rev xs member live dead
        → Marked gs starts rev (without (get_or gone k 0 ∷ []) xs) member' live' dead')
        → Struck gs starts rev gone member₀ live₀ dead₀ member' live' dead' (k + 1)
    struck_more {member'} {live'} {dead'} h em el ed step =
        record {
          within = omega arith;
          member_size = em ∙ c.member_size;
          live_size = el ∙ c.live_size;
          dead_size = ed ∙ c.dead_size;
          marked = λ xs m.
              other_set gs starts rev (without (get_or gone k 0 ∷ []) (without (take k gone) xs))
              (without (take (k + 1) gone) xs) member' live' dead' (λ y. both xs y)
              (step (without (take k gone) xs) (c.marked xs m));
        }
      where
        both : (xs : List ℕ) (y : ℕ)
            → is_in y (without (get_or gone k 0 ∷ []) (without (take k gone) xs)) ≡ is_in y (without (take (k + 1) gone) xs)
        both xs y =
            let one = get_or gone k 0 ∷ [] in
            let more : is_in y (take (k + 1) gone) ≡ (is_in y (take k gone) || is_in y one) =
            rw (add-one k, take-suc gone k 0 h) (is_in_append y (take k gone) one) in
            rw (
              in_without y one (without (take k gone) xs),
              in_without y (take k gone) xs,
              in_without y (take (k + 1) gone) xs,
              more,
            )
            (apart_both (is_in y xs) (is_in y (take k gone)) (is_in y one))

    -- the whole list
    pub struck_end : length gone ≤ k → (xs : List ℕ) → Marked gs starts rev xs member₀ live₀ dead₀
        → Marked gs starts rev (without gone xs) member live dead
    struck_end h xs m = rw (take_all k gone h) at (c.marked xs m)
