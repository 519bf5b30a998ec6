-- The bytes of two-byte numbers, what a run of stores leaves as it was, and a row written to its place in a book's
-- bytes. Assumes nothing.
use mathlib.Core.Path.{◌≡◌, refl, sym, ap, ap₂, ◌∙◌}
use mathlib.Core.List.{List, [], ◌∷◌, ◌++◌}
use Prim.Native.Nat.{ℕ, zero, suc, ◌+◌, ◌*◌, ◌≤◌, ◌<◌}
use native.Mathlib.Nat.{add-zero}
use native.Mathlib.Decide.{dec_lt}
use native.Mathlib.Omega.{arith}
use lib.ListN.{length, get_or, take, drop, set, length-set}
use lib.Seq.{sets, length-sets, get_or-set_same, get_or-set_other, take-set-le, drop-set-lt, take-add, drop-drop}
use Rattle.statements.specs.Sets.{joined}
use Rattle.statements.specs.Plants.{Plant}
use Rattle.statements.specs.Books.{two, bytes_of}
use Rattle.sets.proofs.Pieces.{two_at}
use Rattle.decoding.proofs.Sizes.{bytes_length, bytes_append, two_of, row_within}
use Rattle.solve.specs.Rows.{row_size, rows_long, number_at, Around}

-- of lists put one after the other
pub bytes_joined : (part : ℕ → List ℕ) (n x : ℕ) → bytes_of (joined n x part) ≡ joined n x (λ k. bytes_of (part k))
unfolding joined bytes_of
bytes_joined part zero x = refl
bytes_joined part (suc n) x =
    bytes_append (part x) _ ∙ ap (λ (ys : List ℕ). bytes_of (part x) ++ ys) (bytes_joined part n (suc x))

-- number j of a list, read from its bytes
bytes_at : (xs : List ℕ) (j : ℕ) → j < length xs
    → get_or (bytes_of xs) (2 * j) 0 + 256 * get_or (bytes_of xs) (2 * j + 1) 0 ≡ get_or xs j 0
unfolding bytes_of two
bytes_at [] j h = absurd (omega arith)
bytes_at (x ∷ xs) zero h = omega arith
bytes_at (x ∷ xs) (suc j) h =
    let high : 2 * suc j + 1 ≡ suc (suc (2 * j + 1)) = omega arith in
    let low : 2 * suc j ≡ suc (suc (2 * j)) = omega arith in
    rw (high, low) (bytes_at xs j (omega arith))

-- bytes in which a list's numbers are read are the list's bytes
pub bytes_read : (xs l : List ℕ) (at : ℕ) → at + 2 * length xs ≤ length l
    → ((k : ℕ) → k < length l → get_or l k 0 < 256)
    → ((j : ℕ) → j < length xs → get_or l (at + 2 * j) 0 + 256 * get_or l (at + 2 * j + 1) 0 ≡ get_or xs j 0)
    → take (2 * length xs) (drop at l) ≡ bytes_of xs
unfolding bytes_of
bytes_read [] l at room small same = refl
bytes_read (x ∷ xs) l at room small same =
    let more : 2 * suc (length xs) ≡ 2 + 2 * length xs = omega arith in
    let here : get_or l at 0 + 256 * get_or l (at + 1) 0 ≡ x = rw add-zero at (same 0 (omega arith)) in
    let word : take 2 (drop at l) ≡ two x =
    two_at l at (omega arith) ∙ sym (two_of _ (get_or l (at + 1) 0) (small at (omega arith))) ∙ ap two here in
    let later = bytes_read xs l (at + 2) (omega arith) small
    (λ j h.
    let low : at + 2 + 2 * j ≡ at + 2 * suc j = omega arith in
    let high : at + 2 + 2 * j + 1 ≡ at + 2 * suc j + 1 = omega arith in
    ap₂ (λ (a b : ℕ). get_or l a 0 + 256 * get_or l b 0) low high ∙ same (suc j) (omega arith)) in
    rw (more, take-add, word, drop-drop, later)

-- stores from a place on leave what stands before it
sets_low : (l : List ℕ) (at : ℕ) (vs : List ℕ) (k : ℕ) → k < at → get_or (sets l at vs) k 0 ≡ get_or l k 0
sets_low l at [] k h = refl
sets_low l at (v ∷ vs) k h =
    sets_low (set l at v) (suc at) vs k (omega arith) ∙ get_or-set_other l at k v 0 (λ e. omega arith)

-- and what stands past the last
sets_high : (l : List ℕ) (at : ℕ) (vs : List ℕ) (k : ℕ) → at + length vs ≤ k → get_or (sets l at vs) k 0 ≡ get_or l k 0
sets_high l at [] k h = refl
sets_high l at (v ∷ vs) k h =
    sets_high (set l at v) (suc at) vs k (omega arith) ∙ get_or-set_other l at k v 0 (λ e. omega arith)

-- what is stored is read back
sets_in : (l : List ℕ) (at : ℕ) (vs : List ℕ) (k : ℕ) → at + length vs ≤ length l → k < length vs
    → get_or (sets l at vs) (at + k) 0 ≡ get_or vs k 0
sets_in l at [] k r h = absurd (omega arith)
sets_in l at (v ∷ vs) zero r h =
    rw add-zero (sets_low (set l at v) (suc at) vs at (omega arith) ∙ get_or-set_same l at v 0 (omega arith))
sets_in l at (v ∷ vs) (suc k) r h =
    let there : at + suc k ≡ suc at + k = omega arith in
    rw there (sets_in (set l at v) (suc at) vs k (omega (arith, length-set l at v)) (omega arith))

-- the front before the place stays
sets_take : (l : List ℕ) (at : ℕ) (vs : List ℕ) (n : ℕ) → n ≤ at → take n (sets l at vs) ≡ take n l
sets_take l at [] n h = refl
sets_take l at (v ∷ vs) n h = sets_take (set l at v) (suc at) vs n (omega arith) ∙ take-set-le n l at v h

-- and the rest past the last
sets_drop : (l : List ℕ) (at : ℕ) (vs : List ℕ) (n : ℕ) → at + length vs ≤ n → drop n (sets l at vs) ≡ drop n l
sets_drop l at [] n h = refl
sets_drop l at (v ∷ vs) n h =
    sets_drop (set l at v) (suc at) vs n (omega arith) ∙ drop-set-lt n l at v (omega arith)

-- nothing is written
pub around_none : {p : Plant} {l : List ℕ} → Around p l l
around_none = record { long = refl; head = refl; rest = refl }

-- one writing after another
pub around_next : {p : Plant} {a b c : List ℕ} → Around p a b → Around p b c → Around p a c
around_next r s =
    record { long = s.long ∙ r.long; head = s.head ∙ r.head; rest = s.rest ∙ r.rest }

-- a row written to its place
module _ (size x : ℕ) (row out : List ℕ) (long : length row ≡ size) where
  abbrev put : List ℕ
  put = sets out (16 + 2 * (x * size)) (bytes_of row)

  -- its numbers are read there
  pub row_here : 16 + 2 * (x * size + size) ≤ length out → (j : ℕ) → j < size
      → number_at put (x * size + j) ≡ get_or row j 0
  unfolding number_at
  row_here room j h =
      let at = 16 + 2 * (x * size) in
      let many = bytes_length row in
      let low : 16 + 2 * (x * size + j) ≡ at + 2 * j = omega arith in
      let high : 16 + 2 * (x * size + j) + 1 ≡ at + (2 * j + 1) = omega arith in
      ap₂ (λ (a b : ℕ). get_or put a 0 + 256 * get_or put b 0) low high
      ∙ ap₂ (λ (a b : ℕ). a + 256 * b) (sets_in out at (bytes_of row) (2 * j) (omega arith) (omega arith))
      (sets_in out at (bytes_of row) (2 * j + 1) (omega arith) (omega arith))
      ∙ bytes_at row j (omega arith)

  -- the rows of other states stay
  pub row_other : (y j : ℕ) → (y ≡ x → ⊥) → j < size → number_at put (y * size + j) ≡ number_at out (y * size + j)
  unfolding number_at
  row_other y j d h =
      let at = 16 + 2 * (x * size) in
      let many = bytes_length row in
      let here = 16 + 2 * (y * size + j) in
      elim (dec_lt y x) [
        | yes l ↦
            let apart = row_within {s = x} y size l in
            ap₂ (λ (a b : ℕ). a + 256 * b) (sets_low out at (bytes_of row) here (omega arith))
            (sets_low out at (bytes_of row) (here + 1) (omega arith))
        | no l ↦
            let apart = row_within {s = y} x size (omega arith) in
            ap₂ (λ (a b : ℕ). a + 256 * b) (sets_high out at (bytes_of row) here (omega arith))
            (sets_high out at (bytes_of row) (here + 1) (omega arith))
      ]

  -- and so does all that is no row
  pub row_around : (p : Plant) → size ≡ row_size p → x < p.states → Around p out put
  unfolding rows_long
  row_around p e h =
      let at = 16 + 2 * (x * size) in
      let inside = row_within {s = p.states} x size h in
      let all : p.states * size ≡ p.states * row_size p = ap (λ (n : ℕ). p.states * n) e in
      record {
        long = length-sets out at (bytes_of row);
        head = sets_take out at (bytes_of row) 16 (omega arith);
        rest = sets_drop out at (bytes_of row) (16 + 2 * rows_long p) (omega (arith, bytes_length row));
      }
