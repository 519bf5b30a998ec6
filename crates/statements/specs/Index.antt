-- The index of a plant's arrows by where they end: its bytes, the order of its numbers, and refusal 10.
use Rattle.std.specs.Prelude.{◌≡◌, ◌↔◌, Bool, true, false, ◌&&◌, not, List, [], ◌∷◌, ◌++◌, ℕ, suc, ◌+◌, ◌*◌, ◌<◌, eqb, length, get_or}
use Rattle.statements.specs.Sets.{cons_if, joined, is_in}
use Rattle.statements.specs.Plants.{Arrow, Plant, when}
use Rattle.statements.specs.Books.{two, bytes_of}

-- the numbers of the arrows of a list that end in state y, when its first arrow has number k
unfoldable pub arrows_to : List Arrow → ℕ → ℕ → List ℕ
arrows_to [] k y = []
arrows_to (a ∷ rest) k y = cons_if (eqb a.to y) k (arrows_to rest (suc k) y)

-- all arrow numbers, from 0 in stored order, by end state and then by number
unfoldable pub by_end : Plant → List ℕ
by_end p = joined p.states 0 (arrows_to p.arrows 0)

-- the length of an index of e arrows
unfoldable pub index_long : ℕ → ℕ
index_long e = 8 + 2 * e

-- its bytes: S, E, the offset 8 and the length, then those numbers
unfoldable pub index_bytes : Plant → List ℕ
index_bytes p =
    two p.states ++
    (two (length p.arrows) ++ (two 8 ++ (two (index_long (length p.arrows)) ++ bytes_of (by_end p))))

-- two lists of bytes are the same
unfoldable pub same_bytes : List ℕ → List ℕ → Bool
same_bytes [] [] = true
same_bytes [] (y ∷ ys) = false
same_bytes (x ∷ xs) [] = false
same_bytes (x ∷ xs) (y ∷ ys) = eqb x y && same_bytes xs ys

-- answer 10, or 0: the bytes lent as index are exactly the plant's
unfoldable pub index_fault : Plant → List ℕ → ℕ
index_fault p index = when (not (same_bytes index (index_bytes p))) 10

-- the state in which arrow e ends
abbrev pub end_of : Plant → ℕ → ℕ
end_of p e = (get_or p.arrows e (record { from = 0; move = 0; to = 0 })).to

-- the order in document 02's words: every arrow number stands there, and they strictly rise by end state, then by
-- number, so that each stands there once
pub record Ordered (p : Plant) : Type 0 where
  pub each : (e : ℕ) → (is_in e (by_end p) ≡ true) ↔ (e < length p.arrows)
  pub rises : (j k : ℕ) → j < k → k < length (by_end p) →
      let d = get_or (by_end p) j 0 in
      let e = get_or (by_end p) k 0 in
      65536 * end_of p d + d < 65536 * end_of p e + e
