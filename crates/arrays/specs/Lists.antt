-- What each loop over slices of 16-bit numbers leaves in its slice, as a list.
use Rattle.std.specs.Prelude.{Bool, true, ◌&&◌, List, [], ◌∷◌, ℕ, suc, ltb, leb, length, set}
use Rattle.statements.specs.Sets.{pick, is_in}

-- a list that fits over another; none where it is longer
unfoldable pub fitting : List ℕ → List ℕ → List ℕ
fitting xs old = pick (leb (length xs) (length old)) xs []

-- 0 at each listed place
unfoldable pub zeroed : List ℕ → List ℕ → List ℕ
zeroed [] old = old
zeroed (x ∷ xs) old = zeroed xs (set old x 0)

-- the numbers of a list, as a test
unfoldable pub among : List ℕ → ℕ → Bool
among xs x = is_in x xs

-- the numbers of a list strictly rise, from one number on and below another
unfoldable pub rising : ℕ → ℕ → List ℕ → Bool
rising least limit [] = true
rising least limit (x ∷ xs) = leb least x && (ltb x limit && rising (suc x) limit xs)
