-- The queue: one node more, and the targets one by one. Assumes nothing.
use mathlib.Core.Path.{◌≡◌, refl, ap, ◌∙◌}
use mathlib.Core.Bool.{false}
use mathlib.Core.List.{List, [], ◌∷◌}
use mathlib.Core.Logic.{⊎_elim, inl, inr}
use Prim.Native.Nat.{ℕ, ◌+◌, ◌<◌, ◌≤◌}
use native.Mathlib.Omega.{arith}
use native.Mathlib.Numerals.{add-one}
use borrow.Author.Tests.{eq-eqb, ne_eqb, lt-ltb, le-ltb}
use borrow.Author.Count.{below_more}
use lib.Dec.{ltb}
use lib.ListN.{length, get_or, set, take}
use lib.Seq.{get_or-set_same, get_or-set_other, take-suc-set, take-set-le}
use Rattle.statements.specs.Sets.{is_in}
use Rattle.sets.proofs.Tests.{same_number}
use Rattle.game.specs.Steps.{Queue, reached}
use Rattle.game.proofs.Counts.{or_true, or_false, count_most, count_short, count_flip, is_in_append}

module _ (n : ℕ) (w q : List ℕ) (tail m : ℕ) (c : Queue n w q tail m) where
  -- it has no more than the nodes
  pub queue_most : tail ≤ n
  unfolding reached
  queue_most = omega (arith, c.size, count_most n (λ (y : ℕ). ltb (get_or w y 0) 65535))

  -- a node without a wait leaves room
  pub queue_room : (f : ℕ) → f < n → get_or w f 0 ≡ 65535 → tail < n
  unfolding reached
  queue_room f h e =
      omega (
        arith,
        c.size,
        count_short n f (λ (y : ℕ). ltb (get_or w y 0) 65535) h (rw e (le-ltb 65535 65535 (omega arith))),
      )

  -- a larger bound
  pub wider_queue : (m' : ℕ) → m ≤ m' → Queue n w q tail m'
  wider_queue m' l =
      record {
        valid = λ y h. ⊎_elim (λ a. inl (omega arith)) (λ a. inr a) (c.valid y h);
        size = c.size;
        members = c.members;
        inside = c.inside;
        once = c.once;
        slow = c.slow;
        rises = c.rises;
      }

  -- a node gets a wait and its place
  module _ (f : ℕ) (small : n ≤ 1024) (h : f < n) (e : get_or w f 0 ≡ 65535) (mt : m ≤ tail) (lw : n ≤ length w)
      (lq : n ≤ length q) where
    same : get_or (set w f m) f 0 ≡ m
    same = get_or-set_same w f m 0 (omega arith)

    qsame : get_or (set q tail f) tail 0 ≡ f
    qsame = get_or-set_same q tail f 0 (let r = queue_room f h e in omega arith)

    other : (y : ℕ) → (y ≡ f → ⊥) → get_or (set w f m) y 0 ≡ get_or w y 0
    other y k = get_or-set_other w f y m 0 k

    qother : (i : ℕ) → i < tail → get_or (set q tail f) i 0 ≡ get_or q i 0
    qother i k = get_or-set_other q tail i f 0 (λ r. omega arith)

    old : (i : ℕ) → i < tail → get_or (set w f m) (get_or q i 0) 0 ≡ get_or w (get_or q i 0) 0
    old i k =
        other (get_or q i 0)
        (λ r.
        let u : get_or w (get_or q i 0) 0 ≡ 65535 = rw r e in
        omega (arith, c.slow i k, queue_room f h e))

    grows : tail + 1 ≡ length (reached n (set w f m))
    unfolding reached
    grows =
        let room = queue_room f h e in
        let more =
        count_flip n f (λ (y : ℕ). ltb (get_or (set w f m) y 0) 65535) (λ (y : ℕ). ltb (get_or w y 0) 65535) h
        (rw same (lt-ltb m 65535 (omega arith))) (rw e (le-ltb 65535 65535 (omega arith)))
        (λ z i k. rw (other z k)) in
        omega (arith, c.size, more)

    joins : (y : ℕ) → y < n → is_in y (take (tail + 1) (set q tail f)) ≡ ltb (get_or (set w f m) y 0) 65535
    unfolding is_in
    joins y k =
        let room = queue_room f h e in
        let there : tail < length q = omega arith in
        rw (add-one tail, take-suc-set q tail f there, is_in_append y (take tail q) (f ∷ []), c.members y k)
        (⊎_elim
        (λ r. rw (r, same, eq-eqb f f refl, lt-ltb m 65535 (omega arith)) (or_true (ltb (get_or w f 0) 65535)))
        (λ r. rw (other y r, ne_eqb y f r) (or_false (ltb (get_or w y 0) 65535)))
        (same_number y f))

    new_once : (i : ℕ) → i < tail + 1 → is_in (get_or (set q tail f) i 0) (take i (set q tail f)) ≡ false
    new_once =
        below_more (λ (i : ℕ). is_in (get_or (set q tail f) i 0) (take i (set q tail f)) ≡ false) tail
        (λ i k. let l : i ≤ tail = omega arith in rw (qother i k, take-set-le i q tail f) (c.once i k))
        (let l : tail ≤ tail = omega arith in
        rw (qsame, take-set-le tail q tail f) (c.members f h ∙ rw e (le-ltb 65535 65535 (omega arith))))

    new_rises : (i : ℕ) → i + 1 < tail + 1
        → get_or (set w f m) (get_or (set q tail f) i 0) 0 ≤ get_or (set w f m) (get_or (set q tail f) (i + 1) 0) 0
    new_rises i k =
        let a : i < tail = omega arith in
        ⊎_elim
        (λ r.
        let b : i + 1 ≡ tail = r in
        let last : get_or (set q tail f) (i + 1) 0 ≡ f = ap (λ (k : ℕ). get_or (set q tail f) k 0) b ∙ qsame in
        rw (last, same, qother i a, old i a)
        (⊎_elim
        (λ t. t)
        (λ t. absurd (omega (arith, c.slow i a, queue_most)))
        (c.valid (get_or q i 0) (c.inside i a))))
        (λ r.
        let b : i + 1 < tail = omega (arith, r) in
        rw (qother i a, qother (i + 1) b, old i a, old (i + 1) b) (c.rises i b))
        (same_number (i + 1) tail)

    pub queue_push : Queue n (set w f m) (set q tail f) (tail + 1) m
    queue_push =
        record {
          valid = λ y k.
              ⊎_elim
              (λ r. inl (omega (arith, ap (λ (z : ℕ). get_or (set w f m) z 0) r ∙ same)))
              (λ r. rw (other y r) (c.valid y k))
              (same_number y f);
          size = grows;
          members = joins;
          inside = below_more (λ (i : ℕ). get_or (set q tail f) i 0 < n) tail
              (λ i k. rw (qother i k) (c.inside i k)) (rw qsame h);
          once = new_once;
          slow = below_more (λ (i : ℕ). get_or (set w f m) (get_or (set q tail f) i 0) 0 ≤ i) tail
              (λ i k. rw (qother i k, old i k) (c.slow i k)) (rw (qsame, same) mt);
          rises = new_rises;
        }
