-- What the functions of this crate hand on to each other.
use Rattle.std.specs.Prelude.{◌&&◌, List, ◌∷◌, ℕ, ◌+◌, ◌*◌, ltb, leb, length}
use Rattle.statements.specs.Sets.{pick}
use Rattle.statements.specs.Plants.{Plant}
use Rattle.statements.specs.Index.{by_end, index_long}
use Rattle.format.specs.Arrows.{arrow_in}

-- the key of an arrow, read from a plant's bytes
unfoldable pub key_in : List ℕ → ℕ → ℕ
key_in s n = 65536 * (arrow_in s n).to + n

-- the least key that the number after n may have; 0 if n is no arrow's number or its key is below the least
unfoldable pub least_next : List ℕ → ℕ → ℕ → ℕ → ℕ
least_next s count least n = pick (ltb n count && leb least (key_in s n)) (key_in s n + 1) 0

-- the numbers of a plant's index: the header's, then the arrows'
unfoldable pub index_numbers : Plant → List ℕ
index_numbers p =
    p.states ∷ (length p.arrows ∷ (8 ∷ (index_long (length p.arrows) ∷ by_end p)))
