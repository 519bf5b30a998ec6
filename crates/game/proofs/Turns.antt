-- What a turn of the loop over a node's positions may count on: places are within the arrays. Assumes nothing.
use mathlib.Core.Path.{◌≡◌, refl}
use mathlib.Core.Bool.{false}
use mathlib.Core.List.{List}
use Prim.Native.Nat.{ℕ, ◌+◌, ◌-◌, ◌<◌, ◌≤◌}
use native.Mathlib.Omega.{arith}
use lib.ListN.{length, get_or, set, take}
use Rattle.statements.specs.Sets.{is_in}
use Rattle.game.specs.Walked.{nodes}
use Rattle.game.specs.Steps.{Index, Rooms, Walking, Misses}
use Rattle.game.proofs.Queue.{queue_most}
use Rattle.game.proofs.Nodes.{in_range}
use Rattle.game.proofs.Pass.{Pass, counted_down, pass_room, pass_hit, pass_miss, pass_end}

-- the node at the queue's head
pub record Ready (rev starts gs member w q : List ℕ) (head : ℕ) : Type 0 where
  pub index : Index rev starts gs
  pub node : get_or q head 0 < nodes starts
  pub in_starts : get_or q head 0 + 1 < length starts
  pub in_waits : get_or q head 0 < length w
  pub in_queue : head < length q
  pub early : head < 1024
  pub low : get_or w (get_or q head 0) 0 ≤ 1024
  pub small : get_or q head 0 < 1024
  pub alone : is_in (get_or q head 0) (take head q) ≡ false

pub ready : (rev starts gs member cnt w q : List ℕ) (head tail : ℕ) → Index rev starts gs
    → Rooms starts gs member cnt w q → head < tail → Walking rev starts gs member w cnt w q head tail
    → Ready rev starts gs member w q head
unfolding nodes
ready rev starts gs member cnt w q head tail x r l k =
    let few = queue_most (nodes starts) w q tail _ k.queue in
    let node = k.queue.inside head l in
    record {
      index = x;
      node = node;
      in_starts = omega arith;
      in_waits = omega (arith, r.w_long);
      in_queue = omega (arith, r.q_long);
      early = omega (arith, x.small);
      low = omega (arith, k.queue.slow head l, x.small);
      small = omega (arith, x.small);
      alone = k.queue.once head l;
    }

-- the position j under way, its group and the group's node
pub record Turn (rev starts gs member cnt w : List ℕ) (tail j : ℕ) : Type 0 where
  pub in_rev : j < length rev
  pub in_gs : get_or rev j 0 < length gs
  pub in_counts : get_or rev j 0 < length cnt
  pub some : 0 < get_or cnt (get_or rev j 0) 0
  pub small : get_or gs (get_or rev j 0) 0 < 1024
  pub in_waits : get_or gs (get_or rev j 0) 0 < length w
  pub in_member : get_or gs (get_or rev j 0) 0 < length member
  pub few : tail ≤ 1024

module _ (rev starts gs member w₀ q₀ : List ℕ) (head : ℕ) (e : Ready rev starts gs member w₀ q₀ head)
    (cnt w q : List ℕ) (tail j : ℕ)
    (c : Pass rev starts gs member w₀ q₀ head (get_or q₀ head 0) (get_or w₀ (get_or q₀ head 0) 0) cnt w q tail j) where
  pub turn_end : get_or starts (get_or q₀ head 0 + 1) 0 ≤ j → Walking rev starts gs member w₀ cnt w q (head + 1) tail
  turn_end h =
      pass_end rev starts gs member w₀ q₀ head (get_or q₀ head 0) (get_or w₀ (get_or q₀ head 0) 0) e.index e.node refl
      e.in_queue e.alone cnt w q tail j h c

  module _ (h : j < get_or starts (get_or q₀ head 0 + 1) 0) where
    pub turn : Turn rev starts gs member cnt w tail j
    turn =
        let there = in_range rev starts gs e.index (get_or q₀ head 0) j e.node h in
        let group = e.index.groups j there in
        let node = e.index.of_node (get_or rev j 0) group in
        let few = queue_most (nodes starts) w q tail _ c.queue in
        record {
          in_rev = there;
          in_gs = group;
          in_counts = omega (arith, c.rooms.cnt_long);
          some =
              counted_down rev starts gs member w₀ q₀ head (get_or q₀ head 0) (get_or w₀ (get_or q₀ head 0) 0) e.index
              e.node refl e.in_queue e.alone cnt w q tail j (get_or rev j 0) h refl c;
          small = omega (arith, e.index.small);
          in_waits = omega (arith, c.rooms.w_long);
          in_member = omega (arith, c.rooms.member_long);
          few = omega (arith, e.index.small);
        }

    module _ (r : ℕ)
        (m : Misses (get_or cnt (get_or rev j 0) 0 - 1) (get_or w (get_or gs (get_or rev j 0) 0) 0)
        (get_or member (get_or gs (get_or rev j 0) 0) 0) r) where
      -- a node to be reached has room in the queue
      pub turn_room : r ≡ 0 → tail < length q
      turn_room z =
          omega (
            arith,
            c.rooms.q_long,
            pass_room rev starts gs member w₀ q₀ head (get_or q₀ head 0) (get_or w₀ (get_or q₀ head 0) 0) e.index e.node
                refl e.in_queue e.alone cnt w q tail j (get_or rev j 0) h refl c _ refl (m.met z),
          )

      pub turn_hit : r ≡ 0
          → Pass rev starts gs member w₀ q₀ head (get_or q₀ head 0) (get_or w₀ (get_or q₀ head 0) 0)
          (set cnt (get_or rev j 0) (get_or cnt (get_or rev j 0) 0 - 1))
          (set w (get_or gs (get_or rev j 0) 0) (get_or w₀ (get_or q₀ head 0) 0 + 1))
          (set q tail (get_or gs (get_or rev j 0) 0)) (tail + 1) (j + 1)
      turn_hit z =
          pass_hit rev starts gs member w₀ q₀ head (get_or q₀ head 0) (get_or w₀ (get_or q₀ head 0) 0) e.index e.node
          refl e.in_queue e.alone cnt w q tail j (get_or rev j 0) h refl c _ refl (m.met z)

      pub turn_miss : (r ≡ 0 → ⊥)
          → Pass rev starts gs member w₀ q₀ head (get_or q₀ head 0) (get_or w₀ (get_or q₀ head 0) 0)
          (set cnt (get_or rev j 0) (get_or cnt (get_or rev j 0) 0 - 1)) w q tail (j + 1)
      turn_miss z =
          pass_miss rev starts gs member w₀ q₀ head (get_or q₀ head 0) (get_or w₀ (get_or q₀ head 0) 0) e.index e.node
          refl e.in_queue e.alone cnt w q tail j (get_or rev j 0) h refl c _ refl (λ y. z (m.back y))

-- the turn at a place of the groups with an end at the node at the queue's head
pub record Turning (rev starts gs member w₀ q₀ : List ℕ) (head : ℕ) (cnt w q : List ℕ) (tail g i : ℕ) : Type 0 where
  pub in_gs : g < length gs
  pub in_counts : g < length cnt
  pub some : 0 < get_or cnt g 0
  pub small : get_or gs g 0 < 1024
  pub in_waits : get_or gs g 0 < length w
  pub in_member : get_or gs g 0 < length member
  pub few : tail ≤ 1024
  pub room : (r : ℕ) → Misses (get_or cnt g 0 - 1) (get_or w (get_or gs g 0) 0) (get_or member (get_or gs g 0) 0) r
      → r ≡ 0 → tail < length q
  pub hit : (r : ℕ) → Misses (get_or cnt g 0 - 1) (get_or w (get_or gs g 0) 0) (get_or member (get_or gs g 0) 0) r
      → r ≡ 0
      → Pass rev starts gs member w₀ q₀ head (get_or q₀ head 0) (get_or w₀ (get_or q₀ head 0) 0)
      (set cnt g (get_or cnt g 0 - 1)) (set w (get_or gs g 0) (get_or w₀ (get_or q₀ head 0) 0 + 1))
      (set q tail (get_or gs g 0)) (tail + 1) (get_or starts (get_or q₀ head 0) 0 + (i + 1))
  pub miss : (r : ℕ) → Misses (get_or cnt g 0 - 1) (get_or w (get_or gs g 0) 0) (get_or member (get_or gs g 0) 0) r
      → (r ≡ 0 → ⊥)
      → Pass rev starts gs member w₀ q₀ head (get_or q₀ head 0) (get_or w₀ (get_or q₀ head 0) 0)
      (set cnt g (get_or cnt g 0 - 1)) w q tail (get_or starts (get_or q₀ head 0) 0 + (i + 1))

pub turning : {rev starts gs member w₀ q₀ : List ℕ} {head tail₀ : ℕ} {cnt₀ : List ℕ} → Index rev starts gs
    → Rooms starts gs member cnt₀ w₀ q₀ → head < tail₀
    → Walking rev starts gs member w₀ cnt₀ w₀ q₀ head tail₀ → {cnt w q : List ℕ} {tail i : ℕ}
    → Pass rev starts gs member w₀ q₀ head (get_or q₀ head 0) (get_or w₀ (get_or q₀ head 0) 0) cnt w q tail
    (get_or starts (get_or q₀ head 0) 0 + i)
    → (items : List ℕ) → get_or starts (get_or q₀ head 0) 0 + length items ≡ get_or starts (get_or q₀ head 0 + 1) 0
    → ((k : ℕ) → k < length items → get_or items k 0 ≡ get_or rev (get_or starts (get_or q₀ head 0) 0 + k) 0)
    → i < length items → Turning rev starts gs member w₀ q₀ head cnt w q tail (get_or items i 0) i
turning {rev} {starts} {gs} {member} {w₀} {q₀} {head} {tail₀} {cnt₀} x r l k {cnt} {w} {q} {tail} {i} c items number
    groups less =
    let e = ready rev starts gs member cnt₀ w₀ q₀ head tail₀ x r l k in
    let lo : ℕ = get_or starts (get_or q₀ head 0) 0 in
    let h : lo + i < get_or starts (get_or q₀ head 0 + 1) 0 = omega arith in
    let next : lo + (i + 1) ≡ lo + i + 1 = omega arith in
    let t = turn rev starts gs member w₀ q₀ head e cnt w q tail (lo + i) c h in
    rw (groups i less)
    (record {
      in_gs = t.in_gs;
      in_counts = t.in_counts;
      some = t.some;
      small = t.small;
      in_waits = t.in_waits;
      in_member = t.in_member;
      few = t.few;
      room = turn_room rev starts gs member w₀ q₀ head e cnt w q tail (lo + i) c h;
      hit = λ r m z. rw next (turn_hit rev starts gs member w₀ q₀ head e cnt w q tail (lo + i) c h r m z);
      miss = λ r m z. rw next (turn_miss rev starts gs member w₀ q₀ head e cnt w q tail (lo + i) c h r m z);
    })
