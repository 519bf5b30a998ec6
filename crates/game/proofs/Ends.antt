-- The end of the walk: the queue is empty, or each node that can have a wait has one. Assumes nothing.
use mathlib.Core.Path.{◌≡◌, refl, ap, sym, ◌∙◌}
use mathlib.Core.Bool.{Bool, true, false, ◌&&◌, ◌||◌, not}
use mathlib.Core.List.{List, [], ◌∷◌}
use mathlib.Core.Logic.{⊎_elim, ◌⊎◌, inl, inr}
use Prim.Native.Nat.{ℕ, zero, suc, ◌+◌, ◌-◌, ◌<◌, ◌≤◌}
use native.Mathlib.Omega.{arith}
use native.Mathlib.Nat.{zero-add}
use borrow.Author.Tests.{eq-eqb, ne_eqb, lt-ltb, ltb-true, ltb-false}
use lib.Dec.{eqb, ltb}
use lib.ListN.{length, get_or, take}
use lib.Seq.{ext_get_or}
use Rattle.statements.specs.Sets.{numbers, is_in, joined, over}
use Rattle.sets.proofs.Tests.{decided, not_both, and_true, and_false, or_left, or_right}
use Rattle.sets.proofs.Members.{filter_longer, numbers_holds}
use Rattle.sets.proofs.Joined.{joined_length, joined_at}
use Rattle.sets.proofs.Over.{over_length, over_first, over_at_lem}
use Rattle.game.specs.Walked.{nodes, node_at, wait_of, walked_waits}
use Rattle.game.specs.Steps.{Index, Rooms, Walking, last_wait, popped, reached, possible}
use Rattle.game.proofs.Counts.{lt_or_le, and_off, and_on, count_flip, in_take, take_in}
use Rattle.game.proofs.Nodes.{node_has}
use Rattle.game.proofs.Queue.{queue_most}
use Rattle.game.proofs.Groups.{other_start}
use Rattle.game.proofs.Levels.{wait_is}

-- room is kept where the lengths are
pub rooms_to : (starts gs member cnt w q cnt' w' q' : List ℕ) → length cnt' ≡ length cnt → length w' ≡ length w
    → length q' ≡ length q → Rooms starts gs member cnt w q → Rooms starts gs member cnt' w' q'
rooms_to starts gs member cnt w q cnt' w' q' a b c r =
    record {
      member_long = r.member_long;
      cnt_long = omega (arith, r.cnt_long);
      w_long = omega (arith, r.w_long);
      q_long = omega (arith, r.q_long);
    }

-- why the loop stops
pub stops : (head tail count most : ℕ) → count ≡ most → (ltb head tail && ltb tail count) ≡ false
    → (tail ≤ head) ⊎ (most ≤ tail)
stops head tail count most e f =
    ⊎_elim
    (λ l. inr (omega (arith, e, ltb-false tail count (and_false (ltb head tail) (ltb tail count) f l))))
    (λ l. inl (ltb-false head tail l))
    (decided (ltb head tail))

module _ (rev starts gs member w₀ cnt w q : List ℕ) (head tail : ℕ)
    (c : Walking rev starts gs member w₀ cnt w q head tail) where
  -- the walk seen from other waits before it that tell the same
  pub rebase : (w₁ : List ℕ) → ((y : ℕ) → y < nodes starts → ltb (get_or w₀ y 0) 1 ≡ ltb (get_or w₁ y 0) 1)
      → ((y : ℕ) → nodes starts ≤ y → get_or w₀ y 0 ≡ get_or w₁ y 0)
      → Walking rev starts gs member w₁ cnt w q head tail
  rebase w₁ low high =
      record {
        groups =
            other_start starts rev gs member w₀ (popped starts q head) (last_wait w q head) cnt w w₁
            (λ y h. c.groups.start y h ∙ low y h) (λ y h. c.groups.rest y h ∙ high y h) c.groups;
        queue = c.queue;
        under = c.under;
      }

  -- the same, from the waits so far
  pub from_now : Walking rev starts gs member w cnt w q head tail
  from_now =
      record {
        groups =
            other_start starts rev gs member w₀ (popped starts q head) (last_wait w q head) cnt w w (λ y h. refl)
            (λ y h. refl) c.groups;
        queue = c.queue;
        under = c.under;
      }

  -- a node to be taken is one of the nodes
  pub head_low : head < tail → head < nodes starts
  head_low h = omega (arith, queue_most (nodes starts) w q tail (last_wait w q head + 1) c.queue)

  last_head : (h : ℕ) → h ≤ tail → last_wait w q h ≤ h
  unfolding last_wait
  last_head zero k = omega arith
  last_head (suc h) k = omega (arith, c.queue.slow h (omega arith))

  -- waits rise along the queue
  along : (i d : ℕ) → i + d < tail → get_or w (get_or q i 0) 0 ≤ get_or w (get_or q (i + d) 0) 0
  along i zero h =
      let e : i ≡ i + 0 = omega arith in
      omega (arith, ap (λ (k : ℕ). get_or w (get_or q k 0) 0) e)
  along i (suc d) h =
      let e : i + suc d ≡ i + d + 1 = omega arith in
      omega (
        arith,
        along i d (omega arith),
        c.queue.rises (i + d) (omega arith),
        ap (λ (k : ℕ). get_or w (get_or q k 0) 0) e,
      )

  last_least : (h i : ℕ) → h ≤ i → i < tail → last_wait w q h ≤ get_or w (get_or q i 0) 0
  unfolding last_wait
  last_least zero i l k = omega arith
  last_least (suc h) i l k =
      let e : h + (i - h) ≡ i = omega arith in
      omega (arith, along h (i - h) (omega arith), ap (λ (k : ℕ). get_or w (get_or q k 0) 0) e)

  -- a node with a wait can have one
  had : (z : ℕ) → z < nodes starts → ltb (get_or w z 0) 65535 ≡ true
      → (ltb (get_or member z 0) 1 || ltb (get_or w₀ z 0) 1) ≡ true
  had z l f =
      let t = ltb-true (get_or w z 0) 65535 f in
      ⊎_elim
      (λ none.
      or_right (ltb (get_or member z 0) 1) _ (sym (c.groups.start z l) ∙ lt-ltb (get_or w z 0) 1 none))
      (λ some.
      or_left (ltb (get_or member z 0) 1) _
      (lt-ltb (get_or member z 0) 1 (c.groups.inside z l (omega arith) t)))
      (lt_or_le (get_or w z 0) 1)

  -- where as many have a wait as can, all of them have
  all_reached : length (possible (nodes starts) member w₀) ≤ tail → (y : ℕ) → y < nodes starts
      → get_or member y 0 < 1 → get_or w y 0 ≡ 65535 → ⊥
  unfolding possible reached
  all_reached l y h k e =
      let can : ℕ → Bool = λ (z : ℕ). ltb (get_or member z 0) 1 || ltb (get_or w₀ z 0) 1 in
      let others : ℕ → Bool = λ (z : ℕ). can z && not (eqb z y) in
      let less =
      filter_longer (λ (z : ℕ). ltb (get_or w z 0) 65535) others (numbers (nodes starts) 0)
      (λ z i f.
      let r = numbers_holds (nodes starts) 0 z i in
      let t = ltb-true (get_or w z 0) 65535 f in
      let apart : eqb z y ≡ false = ne_eqb z y (λ d. omega (arith, e, ap (λ (u : ℕ). get_or w u 0) d)) in
      and_true (had z (omega arith) f) (ap not apart)) in
      let fewer =
      count_flip (nodes starts) y can others h
      (or_left (ltb (get_or member y 0) 1) _ (lt-ltb (get_or member y 0) 1 k))
      (ap (λ (b : Bool). can y && not b) (eq-eqb y y refl) ∙ and_off (can y))
      (λ z i d. ap (λ (b : Bool). can z && not b) (ne_eqb z y d) ∙ and_on (can z)) in
      omega (arith, c.queue.size, less, fewer)

  module _ (x : Index rev starts gs) (lq : nodes starts ≤ length q)
      (stop : (tail ≤ head) ⊎ (length (possible (nodes starts) member w₀) ≤ tail)) where
    -- a position that is not passed belongs to a node as late as any
    late : (j : ℕ) → j < length rev → popped starts q head j ≡ false → get_or w (node_at starts j) 0 < 65535
        → (y : ℕ) → y < nodes starts → get_or member y 0 < 1 → get_or w y 0 ≤ get_or w (node_at starts j) 0 + 1
    unfolding popped
    late j jl np wl y yl ky =
        let few = queue_most (nodes starts) w q tail (last_wait w q head + 1) c.queue in
        let o =
        in_take tail q (node_at starts j)
        (c.queue.members (node_at starts j) (node_has rev starts gs x j jl).0
        ∙ lt-ltb (get_or w (node_at starts j) 0) 65535 wl) in
        ⊎_elim
        (λ i.
        let there = take_in head o.0 q i (omega (arith, c.under)) in
        absurd (not_both (ap (λ (z : ℕ). is_in z (take head q)) (sym o.1.1) ∙ there) np))
        (λ i.
        let a = last_least head o.0 i o.1.0 in
        ⊎_elim
        (λ b. omega (arith, a, ap (λ (z : ℕ). get_or w z 0) o.1.1))
        (λ b.
        ⊎_elim (λ g. absurd (omega (arith, o.1.0))) (λ g. absurd (all_reached g y yl ky b)) stop)
        (c.queue.valid y yl))
        (lt_or_le o.0 head)

    waits_at : (y : ℕ) → y < nodes starts → get_or w y 0 ≡ wait_of gs starts rev member w₀ y
    waits_at y h =
        wait_is starts rev gs member w₀ (popped starts q head) (last_wait w q head) cnt w q tail
        (last_wait w q head + 1) x c.queue c.groups late y h
        (omega (
          arith,
          last_head head c.under,
          c.under,
          x.small,
          queue_most (nodes starts) w q tail (last_wait w q head + 1) c.queue,
        ))

    -- the waits are those of the definition, written over the first
    pub walk_end : nodes starts ≤ length w → length w ≡ length w₀ → w ≡ over (walked_waits gs starts rev member w₀) w₀
    unfolding walked_waits
    walk_end lw same =
        let new = joined (nodes starts) 0 (λ z. wait_of gs starts rev member w₀ z ∷ []) in
        let long : length new ≡ nodes starts =
        joined_length (λ z. wait_of gs starts rev member w₀ z ∷ []) 1 (λ k. refl) (nodes starts) 0 ∙ omega arith in
        ext_get_or 0 w (over new w₀) (same ∙ sym (over_length new w₀ (omega arith)))
        (λ k h.
        ⊎_elim
        (λ l.
        waits_at k l
        ∙ (ap (wait_of gs starts rev member w₀) (sym (zero-add k))
        ∙ (sym (joined_at (wait_of gs starts rev member w₀) (nodes starts) 0 k l)
        ∙ sym (over_first new w₀ k (omega arith)))))
        (λ l. c.groups.rest k l ∙ sym (over_at_lem new w₀ k (omega arith)))
        (lt_or_le k (nodes starts)))
