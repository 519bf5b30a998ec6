-- A reach begins: a rising list of nodes is in line, each of them has wait 0 and all others the mark, and the counters
-- are those of all positions. Assumes nothing.
use mathlib.Core.Path.{◌≡◌, refl, ap, sym, subst, ◌∙◌}
use mathlib.Core.Bool.{true, false}
use mathlib.Core.List.{List, [], ◌∷◌, ◌++◌, append-nil}
use mathlib.Core.Logic.{⊎_elim, inl, inr}
use Prim.Native.Nat.{ℕ, ◌+◌, ◌≤◌, ◌<◌}
use native.Mathlib.Omega.{arith}
use borrow.Author.Tests.{lt-ltb, le-ltb}
use lib.Dec.{ltb}
use lib.ListN.{length, get_or, take, replicate, length-replicate, get_or-replicate, drop_of_length-le}
use lib.Seq.{length-take-le, take_all, take_at, get_or-take, ext_get_or}
use Rattle.statements.specs.Sets.{numbers, is_in, over}
use Rattle.statements.specs.Demands.{Rising}
use Rattle.sets.proofs.Tests.{decided}
use Rattle.sets.proofs.Members.{Sifted}
use Rattle.sets.proofs.Iterate.{sifted_below}
use Rattle.sets.proofs.Joined.{joined_length}
use Rattle.sets.proofs.Over.{over_first}
use Rattle.sets.proofs.Rising.{filter_rises}
use Rattle.arrays.specs.Lists.{fitting, zeroed}
use Rattle.arrays.proofs.Marks.{zeroed_in, zeroed_out, zeroed_length}
use Rattle.arrays.proofs.Guards.{fitting_yes}
use Rattle.sort.specs.Steps.{Holds, count_of}
use Rattle.game.specs.Walked.{nodes, wait_of, walked_waits}
use Rattle.game.specs.Steps.{Queue, Walking, reached}
use Rattle.game.proofs.Counts.{lt_or_le, count_same, in_take}
use Rattle.game.proofs.Starts.{walk_start}
use Rattle.game.proofs.Aiming.{listed}

-- the waits before a reach: 0 where a node is listed, and the mark where it is not
module _ (n : ℕ) (line : List ℕ) where
  pub start_in : (y : ℕ) → y < n → is_in y line ≡ true → get_or (zeroed line (replicate n 65535)) y 0 ≡ 0
  start_in y h m = zeroed_in line (replicate n 65535) y (omega (arith, length-replicate {A = ℕ} n 65535)) m

  pub start_out : (y : ℕ) → y < n → is_in y line ≡ false → get_or (zeroed line (replicate n 65535)) y 0 ≡ 65535
  start_out y h m = zeroed_out line (replicate n 65535) y m ∙ get_or-replicate n y 65535 0 h

module _ (n : ℕ) (q : List ℕ) (tail : ℕ) (long : tail ≡ length (take tail q))
    (s : Sifted (numbers n 0) (take tail q)) (w : List ℕ) (ew : w ≡ zeroed (take tail q) (replicate n 65535)) where
  -- the same of any list that is as those waits
  in_zero : (y : ℕ) → y < n → is_in y (take tail q) ≡ true → get_or w y 0 ≡ 0
  in_zero y h m = rw ew (start_in n (take tail q) y h m)

  out_mark : (y : ℕ) → y < n → is_in y (take tail q) ≡ false → get_or w y 0 ≡ 65535
  out_mark y h m = rw ew (start_out n (take tail q) y h m)

  -- who stands in line is a target
  there : (i : ℕ) → i < tail → is_in (get_or q i 0) (take tail q) ≡ true
  there i h = rw (get_or-take tail q i 0 h) at (listed (take tail q) i (omega arith))

  -- and is a node
  inside : (i : ℕ) → i < tail → get_or q i 0 < n
  inside i h = sifted_below n (take tail q) s (get_or q i 0) (there i h)

  -- with wait 0
  zero : (i : ℕ) → i < tail → get_or w (get_or q i 0) 0 ≡ 0
  zero i h = in_zero (get_or q i 0) (inside i h) (there i h)

  -- in line are those with a wait
  members : (y : ℕ) → y < n → is_in y (take tail q) ≡ ltb (get_or w y 0) 65535
  members y h =
      ⊎_elim
      (λ m. m ∙ sym (lt-ltb (get_or w y 0) 65535 (omega (arith, in_zero y h m))))
      (λ m. m ∙ sym (le-ltb (get_or w y 0) 65535 (omega (arith, out_mark y h m))))
      (decided (is_in y (take tail q)))

  -- the line rises, so nobody stands in it twice
  rising : Rising (take tail q)
  rising = subst (λ (l : List ℕ). Rising l) (sym s) (filter_rises (λ x. is_in x (take tail q)) n 0)

  once : (i : ℕ) → i < tail → is_in (get_or q i 0) (take i q) ≡ false
  once i h =
      ⊎_elim
      (λ m.
      let o = in_take i q (get_or q i 0) m in
      let low : o.0 < i = o.1.0 in
      let less = rising o.0 i low (omega arith) in
      absurd
      (omega (
        arith,
        less,
        get_or-take tail q o.0 0 (omega arith),
        get_or-take tail q i 0 h,
        o.1.1,
      )))
      (λ m. m)
      (decided (is_in (get_or q i 0) (take i q)))

  -- so the line is a queue
  line_start : Queue n w q tail 0
  unfolding reached
  line_start =
      record {
        valid = λ y h.
            ⊎_elim
            (λ m. inl (omega (arith, in_zero y h m)))
            (λ m. inr (out_mark y h m))
            (decided (is_in y (take tail q)));
        size =
            long
            ∙ ap length (s ∙ count_same n (λ y. is_in y (take tail q)) (λ y. ltb (get_or w y 0) 65535) members);
        members = members;
        inside = inside;
        once = once;
        slow = λ i h. omega (arith, zero i h);
        rises = λ i h. omega (arith, zero i (omega arith), zero (i + 1) h);
      }

  -- the walk begins, with counters that are copied
  pub reach_start : (rev starts gs member sizes old counts : List ℕ) (groups : ℕ) → nodes starts ≡ n
      → length gs ≤ groups → groups ≤ length sizes → groups ≤ length old
      → Holds groups (count_of rev (length rev)) sizes → counts ≡ over (fitting (take groups sizes) old) old
      → Walking rev starts gs member w counts w q 0 tail
  reach_start rev starts gs member sizes old counts groups en few ls lo holds ec =
      let k : length (take groups sizes) ≡ groups = length-take-le groups sizes ls in
      let fits = fitting_yes (take groups sizes) old (omega arith) in
      let new : counts ≡ over (take groups sizes) old = ec ∙ ap (λ (l : List ℕ). over l old) fits in
      walk_start rev starts gs member w counts q tail groups few
      (λ t h.
      ap (λ (l : List ℕ). get_or l t 0) new
      ∙ (over_first (take groups sizes) old t (omega arith) ∙ (get_or-take groups sizes t 0 h ∙ holds t h)))
      (rw en line_start)

-- a front of a list that is as long as it should be
pub front_room : (n : ℕ) (xs : List ℕ) → n ≡ length (take n xs) → n ≤ length xs
front_room n xs e =
    ⊎_elim
    (λ l. absurd (omega (arith, ap length (take_all n xs (omega arith)))))
    (λ l. l)
    (lt_or_le (length xs) n)

-- of an array of marks the front is marks
pub front_marks : (n m : ℕ) → n ≤ m → take {A = ℕ} n (replicate m 65535) ≡ replicate n 65535
front_marks n m h =
    let marks : List ℕ = replicate m 65535 in
    let all : length marks ≡ m = length-replicate m 65535 in
    let long = length-take-le n marks (omega arith) in
    ext_get_or 0 (take n marks) (replicate n 65535) (long ∙ sym (length-replicate n 65535))
    (λ k l.
    let low : k < n = omega arith in
    get_or-take n marks k 0 low
    ∙ (get_or-replicate m k 65535 0 (omega arith) ∙ sym (get_or-replicate n k 65535 0 low)))

-- the front of an array is copied to a list that is as long
pub front_copied : (n : ℕ) (front rest old : List ℕ) {new : List ℕ} → length front ≡ n → length old ≡ n
    → new ≡ over (fitting (take n (front ++ rest)) old) old → new ≡ front
unfolding over
front_copied n front rest old e l c =
    let fits = ap (λ (xs : List ℕ). fitting xs old) (take_at front rest n e) ∙ fitting_yes front old (omega arith) in
    let none = drop_of_length-le old {i = length front} (omega arith) in
    c ∙ (ap (λ (xs : List ℕ). over xs old) fits ∙ (ap (λ (xs : List ℕ). front ++ xs) none ∙ append-nil front))

-- there are as many waits as nodes, so that all of them are written
pub reach_end : (gs starts rev member line : List ℕ) (n : ℕ) {w new : List ℕ} → nodes starts ≡ n
    → w ≡ zeroed line (replicate n 65535) → new ≡ over (walked_waits gs starts rev member w) w
    → new ≡ walked_waits gs starts rev member (zeroed line (replicate n 65535))
unfolding over walked_waits
reach_end gs starts rev member line n {w} en ew e =
    let long = joined_length (λ z. wait_of gs starts rev member w z ∷ []) 1 (λ k. refl) (nodes starts) 0 in
    let short =
    ap length ew ∙ (zeroed_length line (replicate n 65535) ∙ length-replicate {A = ℕ} n 65535) in
    let none = drop_of_length-le w {i = length (walked_waits gs starts rev member w)} (omega arith) in
    e
    ∙ (ap (λ (l : List ℕ). walked_waits gs starts rev member w ++ l) none
    ∙ (append-nil (walked_waits gs starts rev member w) ∙ ap (walked_waits gs starts rev member) ew))
