-- Parts put one after the other, by their lengths: where they begin, of which part each number is, with one part more;
-- and the loop that sums lengths up in place. Assumes nothing.
use mathlib.Core.Path.{◌≡◌, refl, sym, ap, ◌∙◌}
use mathlib.Core.List.{List, [], ◌∷◌, ◌++◌, append_assoc, append-nil}
use Prim.Native.Nat.{ℕ, suc, ◌+◌, ◌-◌, ◌≤◌, ◌<◌}
use native.Mathlib.Nat.{zero-add, add-zero}
use native.Mathlib.Numerals.{add-one}
use native.Mathlib.Omega.{arith}
use lib.ListN.{length, get_or, take, drop, set, replicate, length-replicate, replicate-append-replicate}
use lib.Seq.{length-take-le, take-length, take-append-le, take-suc, take-suc-set, take-add}
use Rattle.statements.specs.Sets.{over}
use Rattle.sets.proofs.Over.{over_none, over_length, over_back, over_at_lem, over_one}
use Rattle.layout.specs.Layout.{total, starts, bounds, numbered}

-- sums of parts
pub total_append : (xs ys : List ℕ) → total (xs ++ ys) ≡ total xs + total ys
unfolding total
total_append [] ys = omega arith
total_append (x ∷ xs) ys = omega (arith, total_append xs ys)

pub total_more : (ns : List ℕ) (n : ℕ) → total (ns ++ (n ∷ [])) ≡ total ns + n
unfolding total
total_more ns n = omega (arith, total_append ns (n ∷ []))

-- one part more begins where the last one stops
pub starts_more : (at : ℕ) (ns : List ℕ) (n : ℕ) → starts at (ns ++ (n ∷ [])) ≡ starts at ns ++ ((at + total ns) ∷ [])
unfolding starts total
starts_more at [] n = rw add-zero
starts_more at (m ∷ ns) n =
    let there : at + m + total ns ≡ at + (m + total ns) = omega arith in
    ap (λ (l : List ℕ). at ∷ l) (starts_more (at + m) ns n
    ∙ ap (λ (i : ℕ). starts (at + m) ns ++ (i ∷ [])) there)

pub starts_length : (at : ℕ) (ns : List ℕ) → length (starts at ns) ≡ length ns
unfolding starts
starts_length at [] = refl
starts_length at (n ∷ ns) = ap suc (starts_length (at + n) ns)

-- and is numbered after the others
pub numbered_more : (k : ℕ) (ns : List ℕ) (n : ℕ)
    → numbered k (ns ++ (n ∷ [])) ≡ numbered k ns ++ replicate n (k + length ns)
unfolding numbered
numbered_more k [] n = rw (add-zero, append-nil)
numbered_more k (m ∷ ns) n =
    let there : suc k + length ns ≡ k + suc (length ns) = omega arith in
    ap (λ (l : List ℕ). replicate m k ++ l) (numbered_more (suc k) ns n
    ∙ ap (λ (i : ℕ). numbered (suc k) ns ++ replicate n i) there)
    ∙ sym (append_assoc (replicate m k) (numbered (suc k) ns) (replicate n (k + suc (length ns))))

-- the same number once more
pub replicate_more : (n v : ℕ) → replicate (n + 1) v ≡ replicate n v ++ (v ∷ [])
replicate_more n v = sym (replicate-append-replicate n 1 v)

-- zeros written over the first numbers
pub cleared : (t new : List ℕ) (n : ℕ) → n ≤ length t → new ≡ replicate (length (take n t)) 0
    → take n (new ++ drop n t) ≡ replicate n 0
cleared t new n h e =
    let zeros : List ℕ = replicate n 0 in
    let long : length zeros ≡ n = length-replicate {A = ℕ} n 0 in
    let same : new ≡ zeros = rw e (ap (λ (m : ℕ). replicate m 0) (length-take-le n t h)) in
    rw same
    (take-append-le n zeros (drop n t) (omega arith)
    ∙ ap (λ (m : ℕ). take m zeros) (sym long) ∙ take-length zeros)

-- the first x lengths are summed up
pub record Summed (old new : List ℕ) (x sum : ℕ) : Type 0 where
  pub within : x ≤ length old
  pub sum_is : sum ≡ total (take x old)
  pub written : new ≡ over (starts 0 (take x old)) old

-- at first none is
pub sum_start : (old : List ℕ) → Summed old old 0 0
unfolding total starts
sum_start old = record { within = omega arith; sum_is = refl; written = over_none old }

module _ {old new : List ℕ} {x sum : ℕ} (t : Summed old new x sum) where
  -- as many places are written
  places : length (starts 0 (take x old)) ≡ x
  places = starts_length 0 (take x old) ∙ length-take-le x old t.within

  pub sum_length : length new ≡ length old
  sum_length = ap length t.written ∙ over_length (starts 0 (take x old)) old (omega (arith, places, t.within))

  -- the next length is read as it was
  pub sum_read : get_or new x 0 ≡ get_or old x 0
  sum_read =
      ap (λ (l : List ℕ). get_or l x 0) t.written ∙ over_at_lem (starts 0 (take x old)) old x (omega (arith, places))

  -- and the sum with it is part of the whole
  next_is : x < length old → total (take (x + 1) old) ≡ sum + get_or old x 0
  next_is h =
      rw (add-one, take-suc old x 0 h) (total_more (take x old) (get_or old x 0) ∙ rw (sym t.sum_is))

  pub sum_most : (n : ℕ) → x < n → n ≤ length old → sum + get_or old x 0 ≤ total (take n old)
  sum_most n h few =
      let all : x + 1 + (n - (x + 1)) ≡ n = omega arith in
      let parts = rw all at (take-add (x + 1) (n - (x + 1)) old) in
      omega (
        arith,
        next_is (omega arith),
        ap total parts,
        total_append (take (x + 1) old) (take (n - (x + 1)) (drop (x + 1) old)),
      )

  -- one length more
  pub sum_one : x < length old → (n : ℕ) → n ≡ get_or new x 0 → Summed old (set new x sum) (x + 1) (sum + n)
  sum_one h n e =
      record {
        within = omega arith;
        sum_is = omega (arith, next_is h, e, sum_read);
        written =
            let longer : starts 0 (take (x + 1) old) ≡ starts 0 (take x old) ++ (sum ∷ []) =
            rw (add-one, take-suc old x 0 h, starts_more, zero-add, t.sum_is) in
            let here = over_one (starts 0 (take x old)) old sum (omega (arith, places)) in
            rw (longer, t.written) (rw places at here);
      }

  -- with the sum past them they are the bounds
  pub sum_end : (n : ℕ) → n ≡ x → n < length old → take (suc n) (set new x sum) ≡ bounds (take n old)
  unfolding bounds
  sum_end n e h =
      rw e
      (take-suc-set new x sum (omega (arith, sum_length))
      ∙ rw (t.written, over_back (starts 0 (take x old)) old x (sym places), ← t.sum_is))
