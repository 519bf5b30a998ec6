-- A worklist from its first nodes to its end: nodes are put on it, the node at its head is taken off it position by
-- position, and what is left when it is empty. Assumes nothing.
use mathlib.Core.Path.{◌≡◌, refl, sym, ap, ◌∙◌}
use mathlib.Core.Logic.{⊎_elim}
use mathlib.Core.Bool.{Bool, true, false, ◌&&◌, ◌||◌, not}
use mathlib.Core.List.{List, [], ◌∷◌, ◌++◌}
use Prim.Native.Nat.{ℕ, ◌+◌, ◌-◌, ◌≤◌, ◌<◌}
use native.Mathlib.Omega.{arith}
use native.Mathlib.Numerals.{add-one}
use borrow.Author.Tests.{eq-eqb, ne_eqb, ltb-true, leb-true}
use lib.Dec.{eqb, ltb, leb}
use lib.ListN.{length, get_or, take, drop, set, length-drop}
use lib.Seq.{get_or-set_same, get_or-set_other, take-suc, take-take, take-suc-set, get_or-take, get_or-drop, length-take-le}
use Rattle.statements.specs.Sets.{is_in}
use Rattle.sets.proofs.Tests.{decided, same_number, not_both, and_true, and_left, and_right, or_right}
use Rattle.sets.proofs.Iterate.{sifted_few, sifted_below}
use Rattle.game.specs.Walked.{nodes, node_at}
use Rattle.game.specs.Packed.{part, places_in, groups_in, rev_in, starts_in}
use Rattle.game.specs.Marks.{ends_at, without}
use Rattle.game.specs.Playing.{Ready}
use Rattle.game.specs.Draining.{Unmarked, Draining, Taken, Grown, Fails}
use Rattle.game.proofs.Counts.{or_false, in_take, take_in, is_in_append}
use Rattle.game.proofs.Nodes.{in_range, node_iff, node_is, starts_rise}
use Rattle.game.proofs.Parts.{rev_end, rev_length, starts_end, starts_nodes}
use Rattle.game.proofs.Deaths.{other_tests}
use Rattle.game.proofs.Strikes.{in_without, without_holds, without_in, apart_both}
use Rattle.game.proofs.Strikes.{struck, struck_now, struck_else, struck_none}
use Rattle.game.proofs.Pushing.{same_list}

-- a list with the next number of it, and whether a number is among them
pub next_in : (list : List ℕ) (k y : ℕ) → k < length list
    → is_in y (take (k + 1) list) ≡ (is_in y (take k list) || eqb y (get_or list k 0))
unfolding is_in
next_in list k y h =
    rw (
      add-one k,
      take-suc list k 0 h,
      is_in_append y (take k list) (get_or list k 0 ∷ []),
      or_false (eqb y (get_or list k 0)),
    )

-- the first i nodes of a list are on a worklist, and one more is put there
pub front_more : (gone list : List ℕ) (i : ℕ) → take i list ≡ take i gone → i < length gone → i < length list
    → take (i + 1) (set list i (get_or gone i 0)) ≡ take (i + 1) gone
front_more gone list i front h room =
    let x = get_or gone i 0 in
    rw (add-one i)
    (take-suc-set list i x room
    ∙ (ap (λ (l : List ℕ). l ++ (x ∷ [])) front ∙ sym (take-suc gone i 0 h)))

-- the marks of the first i nodes of a list are taken away: of none yet, and of one more
pub unmark_none : (gone member : List ℕ) → Unmarked (take 0 gone) member member
unfolding is_in
unmark_none gone member y = refl

pub unmark_more : (gone old new : List ℕ) (i : ℕ) → Unmarked (take i gone) old new → i < length gone
    → get_or gone i 0 < length new → Unmarked (take (i + 1) gone) old (set new (get_or gone i 0) 65535)
unmark_more gone old new i marks h low y =
    let x = get_or gone i 0 in
    ⊎_elim
    (λ q.
    let there : is_in y (take (i + 1) gone) ≡ true =
    next_in gone i y h ∙ or_right (is_in y (take i gone)) (eqb y x) (eq-eqb y x q) in
    rw (there, q) (get_or-set_same new x 65535 0 low))
    (λ q.
    let same : is_in y (take (i + 1) gone) ≡ is_in y (take i gone) =
    next_in gone i y h
    ∙ (ap (λ (b : Bool). is_in y (take i gone) || b) (ne_eqb y x q) ∙ or_false (is_in y (take i gone))) in
    rw same (get_or-set_other new x y 65535 0 q ∙ marks y))
    (same_number y x)

-- the nodes before one place are among those before a later one
pub fewer_in : (list : List ℕ) (a b y : ℕ) → a ≤ b → b ≤ length list → is_in y (take a list) ≡ true
    → is_in y (take b list) ≡ true
fewer_in list a b y h l m =
    let o = in_take a list y m in
    rw o.1.1 at (take_in b o.0 list (omega (arith, o.1.0)) l)

-- a part of an array, number by number
part_at : (a n i : ℕ) (xs : List ℕ) → i < n → get_or (part a n xs) i 0 ≡ get_or xs (a + i) 0
unfolding part
part_at a n i xs h = get_or-take (a + n - a) (drop a xs) i 0 (omega arith) ∙ get_or-drop a xs i 0

-- the node at the list's head, and where the array has its positions: from its start up to the next node's
pub record Off (graph : List ℕ) (n positions : ℕ) (list : List ℕ) (head : ℕ) : Type 0 where
  pub place : head < length list
  pub node : get_or list head 0 < n
  pub inside : length graph - 2049 + (get_or list head 0 + 1) < length graph
  pub from : get_or graph (length graph - 2049 + get_or list head 0) 0
      ≡ get_or (starts_in graph n) (get_or list head 0) 0
  pub to : get_or graph (length graph - 2049 + (get_or list head 0 + 1)) 0
      ≡ get_or (starts_in graph n) (get_or list head 0 + 1) 0
  pub up : get_or (starts_in graph n) (get_or list head 0) 0 ≤ get_or (starts_in graph n) (get_or list head 0 + 1) 0
  pub few : get_or (starts_in graph n) (get_or list head 0 + 1) 0 ≤ positions
  pub room : places_in (length graph) + positions ≤ length graph

-- the positions before j of the node at the list's head are passed, for whichever set the marks were
pub record Taking (graph : List ℕ) (n groups positions : ℕ) (member₀ live₀ dead₀ list₀ : List ℕ) (head tail₀ : ℕ)
    (member live dead list : List ℕ) (j tail : ℕ) : Type 0 where
  pub from : get_or (starts_in graph n) (get_or list₀ head 0) 0 ≤ j
  pub to : j ≤ get_or (starts_in graph n) (get_or list₀ head 0 + 1) 0
  pub member_size : length member ≡ length member₀
  pub live_size : length live ≡ length live₀
  pub dead_size : length dead ≡ length dead₀
  pub list_size : length list ≡ length list₀
  pub grown : Grown list₀ list tail₀ tail
  pub state : (xs first : List ℕ)
      → Taken graph n groups positions xs first member₀ live₀ dead₀ list₀ head tail₀
      → Draining graph n groups positions
      (struck (starts_in graph n) (get_or list₀ head 0) (without (take head list₀) xs) j) xs first member live dead list
      tail

module _ (graph : List ℕ) (n groups positions goals : ℕ) (ready : Ready graph n groups positions goals) where
  abbrev gs : List ℕ
  gs = groups_in graph groups

  abbrev starts : List ℕ
  starts = starts_in graph n

  abbrev rev : List ℕ
  rev = rev_in graph positions

  abbrev State : (ℕ → Bool) → List ℕ → List ℕ → List ℕ → List ℕ → List ℕ → List ℕ → ℕ → Type 0
  State ok xs first member live dead list tail =
      Draining graph n groups positions ok xs first member live dead list tail

  -- the starts and the positions stand in the array
  pub start_at : (t : ℕ) → t ≤ n → get_or graph (length graph - 2049 + t) 0 ≡ get_or starts t 0
  unfolding starts_in
  start_at t h = sym (part_at (length graph - 2049) (n + 1) t graph (omega arith))

  pub rev_at : (j : ℕ) → j < positions → get_or graph (places_in (length graph) + j) 0 ≡ get_or rev j 0
  unfolding rev_in
  rev_at j h = sym (part_at (places_in (length graph)) positions j graph h)

  -- the same state by another test that agrees
  other_state : (ok ok' : ℕ → Bool) {xs first member live dead list : List ℕ} {tail : ℕ}
      → ((i : ℕ) → i < length rev → ok i ≡ ok' i)
      → State ok xs first member live dead list tail → State ok' xs first member live dead list tail
  other_state ok ok' {xs} {first} {member} {live} {dead} {list} {tail} same c =
      same_list c
      (other_tests gs starts rev ok ok' (λ x. is_in x (without (take tail list) xs))
      (λ x. is_in x (without (take tail list) xs)) member live dead same (λ y. refl) c.marks)
      c.others

  -- no more nodes are on the list than there is room for
  pub state_few : {ok : ℕ → Bool} {xs first member live dead list : List ℕ} {tail : ℕ}
      → State ok xs first member live dead list tail → tail ≤ length list
  state_few {xs = xs} c = omega (arith, c.number, c.room, sifted_few n xs c.sifted)

  -- the node that is taken off
  pub off_of : (xs first member live dead list : List ℕ) (head tail : ℕ) → head < tail
      → Taken graph n groups positions xs first member live dead list head tail → Off graph n positions list head
  off_of xs first member live dead list head tail some t =
      let x = get_or list head 0 in
      let low = sifted_below n xs t.1.sifted x (t.1.inside head some) in
      let nl = starts_nodes graph ready.fits in
      record {
        place = omega (arith, some, state_few t.1);
        node = low;
        inside = omega (arith, low, starts_end graph ready.fits);
        from = start_at x (omega (arith, low));
        to = start_at (x + 1) (omega (arith, low));
        up = ready.index.up x (omega (arith, low, nl));
        few =
            omega (
              arith,
              starts_rise rev starts gs ready.index (x + 1) (nodes starts) (omega (arith, low, nl)) (omega arith),
              ready.index.last_is,
              rev_length graph ready.fits,
            );
        room = rev_end graph ready.fits;
      }

  -- the positions from lo up to hi, as a part of the array
  module _ (p lo hi i : ℕ) (e : p ≡ places_in (length graph)) (up : lo ≤ hi) (few : hi ≤ positions) where
    abbrev span : List ℕ
    span = take (p + hi - (p + lo)) (drop (p + lo) graph)

    span_long : length span ≡ hi - lo
    span_long =
        length-take-le (p + hi - (p + lo)) (drop (p + lo) graph)
        (omega (arith, length-drop (p + lo) graph, rev_end graph ready.fits))
        ∙ omega arith

    pub span_in : i < length span → lo + i < hi
    span_in h = omega (arith, span_long)

    pub span_past : length span ≤ i → hi ≤ lo + i
    span_past h = omega (arith, span_long)

    pub span_at : i < length span → get_or span i 0 ≡ get_or rev (lo + i) 0
    span_at h =
        let place : p + lo + i ≡ places_in (length graph) + (lo + i) = omega arith in
        get_or-take (p + hi - (p + lo)) (drop (p + lo) graph) i 0 (omega (arith, span_long))
        ∙ (get_or-drop (p + lo) graph i 0
        ∙ (ap (λ (k : ℕ). get_or graph k 0) place ∙ rev_at (lo + i) (omega (arith, span_in h))))

  module _ (member₀ live₀ dead₀ list₀ : List ℕ) (head tail₀ : ℕ) (some : head < tail₀)
      (below : get_or list₀ head 0 < n) where
    abbrev x : ℕ
    x = get_or list₀ head 0

    node_low : x < nodes starts
    node_low = omega (arith, below, starts_nodes graph ready.fits)

    -- no position is passed yet
    pub taking_start : Taking graph n groups positions member₀ live₀ dead₀ list₀ head tail₀ member₀ live₀ dead₀ list₀
        (get_or starts x 0) tail₀
    taking_start =
        record {
          from = omega arith;
          to = ready.index.up x node_low;
          member_size = refl;
          live_size = refl;
          dead_size = refl;
          list_size = refl;
          grown = record { more = omega arith; same = refl };
          state = λ xs first t.
              other_state (ends_at starts (without (take head list₀) xs))
              (struck starts x (without (take head list₀) xs) (get_or starts x 0))
              (λ i l. sym (struck_none starts x (without (take head list₀) xs) i)) t.1;
        }

    module _ {member live dead list : List ℕ} {j tail : ℕ}
        (c : Taking graph n groups positions member₀ live₀ dead₀ list₀ head tail₀ member live dead list j tail) where
      -- the nodes on the list before are still on it
      head_same : tail ≤ length list → (k : ℕ) → k ≤ tail₀ → (y : ℕ) → is_in y (take k list₀) ≡ true
          → is_in y (take tail list) ≡ true
      head_same room k h y m =
          let same : take k list ≡ take k list₀ =
          sym (take-take k tail₀ list h) ∙ (ap (take k) c.grown.same ∙ take-take k tail₀ list₀ h) in
          fewer_in list k tail y (omega (arith, c.grown.more)) room (rw same m)

      -- the next position
      module _ (more : j < get_or starts (x + 1) 0) where
        pub taking_place : j < positions
        taking_place =
            omega (arith, in_range rev starts gs ready.index x j node_low more, rev_length graph ready.fits)

        -- its group dies
        pub taking_fails : (xs first : List ℕ)
            → Taken graph n groups positions xs first member₀ live₀ dead₀ list₀ head tail₀
            → Fails starts rev (struck starts x (without (take head list₀) xs) j)
            (struck starts x (without (take head list₀) xs) (j + 1)) (without (take tail list) xs) (get_or rev j 0)
        unfolding struck ends_at
        taking_fails xs first t =
            let ys = without (take head list₀) xs in
            let room = state_few (c.state xs first t) in
            let long : tail₀ ≤ length list₀ = omega (arith, state_few t.1) in
            record {
              place = j;
              low = omega (arith, taking_place, rev_length graph ready.fits);
              of_group = refl;
              no = struck_now starts x ys j c.from;
              same = λ i d. struck_else starts x ys j i d;
              passes = λ i l m.
                  let y = node_at starts i in
                  let r = without_holds y (take tail list) xs m in
                  let old : is_in y (take head list₀) ≡ false =
                  ⊎_elim
                  (λ k. absurd (not_both (head_same room head (omega arith) y k) r.1))
                  (λ k. k)
                  (decided (is_in y (take head list₀))) in
                  let other : y ≡ x → ⊥ =
                  λ q.
                  not_both
                  (head_same room tail₀ (omega arith) y (rw q (take_in tail₀ head list₀ some long)))
                  r.1 in
                  and_true (without_in y (take head list₀) xs r.0 old)
                  (ap not (outside i l other));
            }
          where
            outside : (i : ℕ) → i < length rev → (node_at starts i ≡ x → ⊥)
                → (leb (get_or starts x 0) i && ltb i (j + 1)) ≡ false
            outside i l d =
                ⊎_elim
                (λ h.
                let low = leb-true (get_or starts x 0) i (and_left (leb (get_or starts x 0) i) (ltb i (j + 1)) h) in
                let high = ltb-true i (j + 1) (and_right (leb (get_or starts x 0) i) (ltb i (j + 1)) h) in
                absurd (d (node_is rev starts gs ready.index x i node_low low (omega arith))))
                (λ h. h)
                (decided (leb (get_or starts x 0) i && ltb i (j + 1)))

        pub taking_more : {member' live' dead' list' : List ℕ} {tail' : ℕ} → length member' ≡ length member
            → length live' ≡ length live → length dead' ≡ length dead → length list' ≡ length list
            → Grown list list' tail tail'
            → ((ok after : ℕ → Bool) (xs first : List ℕ) → State ok xs first member live dead list tail
            → Fails starts rev ok after (without (take tail list) xs) (get_or rev j 0)
            → State after xs first member' live' dead' list' tail')
            → Taking graph n groups positions member₀ live₀ dead₀ list₀ head tail₀ member' live' dead' list' (j + 1)
            tail'
        taking_more {list' = list'} em el ed es grown step =
            record {
              from = omega (arith, c.from);
              to = omega arith;
              member_size = em ∙ c.member_size;
              live_size = el ∙ c.live_size;
              dead_size = ed ∙ c.dead_size;
              list_size = es ∙ c.list_size;
              grown =
                  record {
                    more = omega (arith, c.grown.more, grown.more);
                    same =
                        sym (take-take tail₀ tail list' c.grown.more)
                        ∙ (ap (take tail₀) grown.same
                        ∙ (take-take tail₀ tail list c.grown.more ∙ c.grown.same));
                  };
              state = λ xs first t. step _ _ xs first (c.state xs first t) (taking_fails xs first t);
            }

      -- all are passed, and the node is off the list
      pub taking_end : get_or starts (x + 1) 0 ≤ j → (xs first : List ℕ)
          → Taken graph n groups positions xs first member₀ live₀ dead₀ list₀ head tail₀
          → Taken graph n groups positions xs first member live dead list (head + 1) tail
      unfolding struck ends_at
      taking_end h xs first t =
          let state = c.state xs first t in
          let ys = without (take head list₀) xs in
          let jj : j ≡ get_or starts (x + 1) 0 = omega (arith, c.to) in
          let long : head < length list₀ = omega (arith, state_few t.1) in
          let same : take (head + 1) list ≡ take (head + 1) list₀ =
          sym (take-take (head + 1) tail₀ list (omega arith))
          ∙ (ap (take (head + 1)) c.grown.same ∙ take-take (head + 1) tail₀ list₀ (omega arith)) in (
            omega (arith, c.grown.more),
            other_state (struck starts x ys j) (ends_at starts (without (take (head + 1) list) xs))
                (λ i l.
                let y = node_at starts i in
                rw (
                  jj,
                  node_iff rev starts gs ready.index x i node_low l,
                  in_without y (take head list₀) xs,
                  in_without y (take (head + 1) list) xs,
                  same,
                  next_in list₀ head y long,
                )
                (apart_both (is_in y xs) (is_in y (take head list₀)) (eqb y x)))
                state,
          )
