-- The positions of one node, taken from the queue: before the first, one more, after the last. Assumes nothing.
use mathlib.Core.Path.{◌≡◌, refl, ap, sym, ◌∙◌}
use mathlib.Core.Bool.{Bool, true, false, ◌&&◌, ◌||◌}
use mathlib.Core.List.{List, [], ◌∷◌}
use mathlib.Core.Logic.{⊎_elim}
use Prim.Native.Nat.{ℕ, zero, suc, ◌+◌, ◌-◌, ◌<◌, ◌≤◌}
use native.Mathlib.Omega.{arith}
use native.Mathlib.Numerals.{add-one}
use borrow.Author.Tests.{lt-ltb, le-ltb, le-leb, lt-leb}
use lib.Dec.{eqb, ltb, leb}
use lib.ListN.{length, get_or, set, take, length-set}
use lib.Seq.{get_or-set_same, get_or-set_other, take-set-le, take-suc, get_or-take}
use Rattle.statements.specs.Sets.{is_in}
use Rattle.sets.proofs.Tests.{same_number}
use Rattle.game.specs.Walked.{nodes, node_at}
use Rattle.game.specs.Steps.{Groups, Queue, popped, passed, last_wait, Index, Walking, Rooms}
use Rattle.game.proofs.Counts.{lt_or_le, or_false, or_true, and_off, is_in_append}
use Rattle.game.proofs.Nodes.{node_is, node_iff, in_range}
use Rattle.game.proofs.Queue.{queue_push, queue_most, queue_room, wider_queue}
use Rattle.game.proofs.Groups.{wider_groups, last_one, counter_some, tick, raise}

-- the positions of node t before j are passed
pub record Pass (rev starts gs member w₀ q₀ : List ℕ) (head t v : ℕ) (cnt w q : List ℕ) (tail j : ℕ) : Type 0 where
  pub groups : Groups starts rev gs member w₀ (passed starts q₀ head (get_or starts t 0) j) v cnt w
  pub queue : Queue (nodes starts) w q tail (v + 1)
  pub more : head < tail
  pub same : take (head + 1) q ≡ take (head + 1) q₀
  pub mine : get_or w t 0 ≡ v
  pub slow : v ≤ head
  pub from : get_or starts t 0 ≤ j
  pub to : j ≤ get_or starts (t + 1) 0
  pub rooms : Rooms starts gs member cnt w q

last_later : (w q : List ℕ) (h : ℕ) → last_wait w q (h + 1) ≡ get_or w (get_or q h 0) 0
unfolding last_wait
last_later w q h = rw (add-one h)

last_low : (n : ℕ) (w q : List ℕ) (head tail m : ℕ) → head < tail → Queue n w q tail m
    → last_wait w q head ≤ get_or w (get_or q head 0) 0
unfolding last_wait
last_low n w q zero tail m l c = omega arith
last_low n w q (suc h) tail m l c =
    omega (arith, c.rises h (omega arith), ap (λ (k : ℕ). get_or w (get_or q k 0) 0) (add-one h))

module _ (rev starts gs member w₀ cnt w q : List ℕ) (head tail : ℕ) where
  pub pass_start : (t v : ℕ) → t ≡ get_or q head 0 → v ≡ get_or w t 0 → head < tail → Index rev starts gs
      → Rooms starts gs member cnt w q → Walking rev starts gs member w₀ cnt w q head tail
      → Pass rev starts gs member w₀ q head t v cnt w q tail (get_or starts t 0)
  unfolding passed
  pass_start t v et ev l x rm k =
      let e : get_or w (get_or q head 0) 0 ≡ v = ap (λ (z : ℕ). get_or w z 0) (sym et) ∙ sym ev in
      let low : last_wait w q head ≤ v =
      omega (arith, e, last_low (nodes starts) w q head tail (last_wait w q head + 1) l k.queue) in
      let tn : t < nodes starts = rw et (k.queue.inside head l) in
      record {
        groups =
            wider_groups starts rev gs member w₀ (popped starts q head)
            (passed starts q head (get_or starts t 0) (get_or starts t 0)) (last_wait w q head) v cnt w low
            (λ j i. sym (rw (none (get_or starts t 0) j) (or_false (popped starts q head j)))) k.groups;
        queue =
            wider_queue (nodes starts) w q tail (last_wait w q head + 1) k.queue (v + 1) (omega arith);
        more = l;
        same = refl;
        mine = sym ev;
        slow = omega (arith, e, k.queue.slow head l);
        from = omega arith;
        to = x.up t tn;
        rooms = rm;
      }
    where
      none : (a j : ℕ) → (leb a j && ltb j a) ≡ false
      none a j = ⊎_elim (λ h. rw (lt-leb a j h)) (λ h. rw (le-ltb j a h) (and_off (leb a j))) (lt_or_le j a)

module _ (rev starts gs member w₀ q₀ : List ℕ) (head t v : ℕ) (x : Index rev starts gs) (tn : t < nodes starts)
    (et : t ≡ get_or q₀ head 0) (hq : head < length q₀) (alone : is_in t (take head q₀) ≡ false) where
  not_yet : (j : ℕ) → get_or starts t 0 ≤ j → j < get_or starts (t + 1) 0
      → passed starts q₀ head (get_or starts t 0) j j ≡ false
  unfolding passed popped
  not_yet j a b =
      rw (node_is rev starts gs x t j tn a b, alone, le-ltb j j (omega arith)) (and_off (leb (get_or starts t 0) j))

  now_yes : (j : ℕ) → get_or starts t 0 ≤ j → passed starts q₀ head (get_or starts t 0) (j + 1) j ≡ true
  unfolding passed
  now_yes j a = rw (le-leb (get_or starts t 0) j a, lt-ltb j (j + 1) (omega arith)) (or_true (popped starts q₀ head j))

  others : (j i : ℕ) → (i ≡ j → ⊥)
      → passed starts q₀ head (get_or starts t 0) (j + 1) i ≡ passed starts q₀ head (get_or starts t 0) j i
  unfolding passed
  others j i d =
      ⊎_elim
      (λ l. rw (lt-ltb i j l, lt-ltb i (j + 1) (omega arith)))
      (λ l. rw (le-ltb i j l, le-ltb i (j + 1) (omega (arith, d))))
      (lt_or_le i j)

  -- a position of the node
  module _ (cnt w q : List ℕ) (tail j g : ℕ) (h : j < get_or starts (t + 1) 0) (e : get_or rev j 0 ≡ g)
      (c : Pass rev starts gs member w₀ q₀ head t v cnt w q tail j) where
    here : j < length rev
    here = in_range rev starts gs x t j tn h

    own_wait : get_or w (node_at starts j) 0 ≡ v
    own_wait = ap (λ (z : ℕ). get_or w z 0) (node_is rev starts gs x t j tn c.from h) ∙ c.mine

    pub group_in : g < length gs
    group_in = rw (← e) (x.groups j here)

    pub node_in : get_or gs g 0 < nodes starts
    node_in = x.of_node g group_in

    pub counted_down : 0 < get_or cnt g 0
    counted_down =
        counter_some starts rev gs member w₀ (passed starts q₀ head (get_or starts t 0) j) v cnt w c.groups j g here e
        group_in (not_yet j c.from h) (passed starts q₀ head (get_or starts t 0) (j + 1)) (now_yes j c.from)
        (λ i a d. others j i d)

    -- no node is put into the queue
    pub pass_plain : (get_or cnt g 0 - 1 ≡ 0 → get_or member (get_or gs g 0) 0 < 1 → get_or w (get_or gs g 0) 0 ≤ v + 1)
        → Pass rev starts gs member w₀ q₀ head t v (set cnt g (get_or cnt g 0 - 1)) w q tail (j + 1)
    pass_plain hit =
        record {
          groups =
              tick starts rev gs member w₀ (passed starts q₀ head (get_or starts t 0) j) v cnt w c.groups j g here e
              group_in (not_yet j c.from h) (passed starts q₀ head (get_or starts t 0) (j + 1))
              (now_yes j c.from) (λ i a d. others j i d)
              (omega (arith, group_in, c.rooms.cnt_long)) own_wait hit;
          queue = c.queue;
          more = c.more;
          same = c.same;
          mine = c.mine;
          slow = c.slow;
          from = omega (arith, c.from);
          to = omega arith;
          rooms =
              record {
                member_long = c.rooms.member_long;
                cnt_long = rw (length-set cnt g (get_or cnt g 0 - 1)) c.rooms.cnt_long;
                w_long = c.rooms.w_long;
                q_long = c.rooms.q_long;
              };
        }

    -- the group's node is reached, before the counter goes down
    pub pass_reach : get_or cnt g 0 ≡ 1 → get_or member (get_or gs g 0) 0 < 1 → get_or w (get_or gs g 0) 0 ≡ 65535
        → Pass rev starts gs member w₀ q₀ head t v cnt (set w (get_or gs g 0) (v + 1)) (set q tail (get_or gs g 0))
        (tail + 1) j
    pass_reach one kf wf =
        let f = get_or gs g 0 in
        let few = queue_most (nodes starts) w q tail (v + 1) c.queue in
        let low : v < 65534 = omega (arith, c.slow, c.more, x.small) in
        let hl : head + 1 ≤ tail = omega (arith, c.more) in
        record {
          groups =
              raise starts rev gs member w₀ (passed starts q₀ head (get_or starts t 0) j) v cnt w c.groups f g node_in
              (omega (arith, node_in, c.rooms.w_long)) wf low kf group_in refl (j, (here, e))
              (λ i a b.
              ⊎_elim
              (λ d. omega (arith, ap (λ (z : ℕ). get_or w (node_at starts z) 0) d, own_wait))
              (λ d.
              c.groups.passes i a
              (last_one starts rev gs member w₀ (passed starts q₀ head (get_or starts t 0) j) v cnt w c.groups j g here
              e group_in (not_yet j c.from h) one i a b d))
              (same_number i j));
          queue =
              queue_push (nodes starts) w q tail (v + 1) c.queue f x.small node_in wf
              (omega (arith, c.slow, c.more)) c.rooms.w_long c.rooms.q_long;
          more = omega (arith, c.more);
          same = take-set-le (head + 1) q tail f hl ∙ c.same;
          mine =
              get_or-set_other w f t (v + 1) 0
              (λ d. omega (arith, wf, ap (λ (z : ℕ). get_or w z 0) d, c.mine, low)) ∙ c.mine;
          slow = c.slow;
          from = c.from;
          to = c.to;
          rooms =
              record {
                member_long = c.rooms.member_long;
                cnt_long = c.rooms.cnt_long;
                w_long = rw (length-set w f (v + 1)) c.rooms.w_long;
                q_long = rw (length-set q tail f) c.rooms.q_long;
              };
        }

    -- what the test of a position tells: all three numbers are 0 exactly where the node is reached
    module _ (miss : ℕ)
        (em : miss ≡ get_or cnt g 0 - 1 + (65535 - get_or w (get_or gs g 0) 0) + get_or member (get_or gs g 0) 0) where
      pub pass_top : miss ≡ 0 → get_or w (get_or gs g 0) 0 ≡ 65535
      pass_top z =
          ⊎_elim
          (λ a.
          absurd
          (omega (arith, c.slow, c.more, queue_most (nodes starts) w q tail (v + 1) c.queue, x.small)))
          (λ a. a)
          (c.queue.valid (get_or gs g 0) node_in)

      -- there is room for it in the queue
      pub pass_room : miss ≡ 0 → tail < nodes starts
      pass_room z =
          queue_room (nodes starts) w q tail (v + 1) c.queue (get_or gs g 0) node_in (pass_top z)

      pub pass_miss : (miss ≡ 0 → ⊥)
          → Pass rev starts gs member w₀ q₀ head t v (set cnt g (get_or cnt g 0 - 1)) w q tail (j + 1)
      pass_miss z =
          pass_plain
          (λ a b. ⊎_elim (λ y. y) (λ y. absurd (z (omega arith))) (c.queue.valid (get_or gs g 0) node_in))

  pub pass_hit : (cnt w q : List ℕ) (tail j g : ℕ) → j < get_or starts (t + 1) 0 → get_or rev j 0 ≡ g
      → Pass rev starts gs member w₀ q₀ head t v cnt w q tail j → (miss : ℕ)
      → miss ≡ get_or cnt g 0 - 1 + (65535 - get_or w (get_or gs g 0) 0) + get_or member (get_or gs g 0) 0 → miss ≡ 0
      → Pass rev starts gs member w₀ q₀ head t v (set cnt g (get_or cnt g 0 - 1)) (set w (get_or gs g 0) (v + 1))
      (set q tail (get_or gs g 0)) (tail + 1) (j + 1)
  pass_hit cnt w q tail j g h e c miss em z =
      let some = counted_down cnt w q tail j g h e c in
      let top = pass_top cnt w q tail j g h e c miss em z in
      let reach = pass_reach cnt w q tail j g h e c (omega arith) (omega arith) top in
      pass_plain cnt (set w (get_or gs g 0) (v + 1)) (set q tail (get_or gs g 0)) (tail + 1) j g h e reach
      (λ a b.
      omega (
        arith,
        get_or-set_same w (get_or gs g 0) (v + 1) 0
            (omega (arith, node_in cnt w q tail j g h e c, c.rooms.w_long)),
      ))

  -- all its positions are passed: the node is taken from the queue
  pub pass_end : (cnt w q : List ℕ) (tail j : ℕ) → get_or starts (t + 1) 0 ≤ j
      → Pass rev starts gs member w₀ q₀ head t v cnt w q tail j
      → Walking rev starts gs member w₀ cnt w q (head + 1) tail
  unfolding passed popped is_in
  pass_end cnt w q tail j h c =
      let hd : get_or q head 0 ≡ t =
      sym (get_or-take (head + 1) q head 0 (omega arith))
      ∙ (ap (λ (l : List ℕ). get_or l head 0) c.same ∙ (get_or-take (head + 1) q₀ head 0 (omega arith) ∙ sym et)) in
      let lw : last_wait w q (head + 1) ≡ v =
      last_later w q head ∙ (ap (λ (z : ℕ). get_or w z 0) hd ∙ c.mine) in
      let jj : j ≡ get_or starts (t + 1) 0 = omega (arith, c.to) in
      record {
        groups =
            wider_groups starts rev gs member w₀ (passed starts q₀ head (get_or starts t 0) j)
            (popped starts q (head + 1)) v (last_wait w q (head + 1)) cnt w (omega arith)
            (λ i l. all j jj q c.same i l) c.groups;
        queue = rw lw c.queue;
        under = omega (arith, c.more);
      }
    where
      all : (j : ℕ) → j ≡ get_or starts (t + 1) 0 → (q : List ℕ) → take (head + 1) q ≡ take (head + 1) q₀ → (i : ℕ)
          → i < length rev → passed starts q₀ head (get_or starts t 0) j i ≡ popped starts q (head + 1) i
      all j e q s i l =
          rw (
            e,
            node_iff rev starts gs x t i tn l,
            s,
            add-one head,
            take-suc q₀ head 0 hq,
            is_in_append (node_at starts i) (take head q₀) (get_or q₀ head 0 ∷ []),
            ← et,
          )
          (ap (λ (b : Bool). is_in (node_at starts i) (take head q₀) || b) (sym (or_false (eqb (node_at starts i) t))))
