-- The check of an index as a loop makes it: the length, the header, and the order of its numbers. Of an accepted plant
-- it is exact: see proofs/Exact.antt.
use Rattle.std.specs.Prelude.{Bool, true, ◌&&◌, List, [], ◌∷◌, ℕ, suc, ◌+◌, ◌*◌, eqb, ltb, leb, length, drop}
use Rattle.statements.specs.Plants.{word, words, Plant}
use Rattle.statements.specs.Index.{index_long, end_of}

-- the number by which arrows are ordered: by end state, then by number
unfoldable pub key_of : Plant → ℕ → ℕ
key_of p n = 65536 * end_of p n + n

-- each is the number of an arrow, and their keys strictly rise from at least the one given
unfoldable pub climbs : Plant → ℕ → List ℕ → Bool
climbs p least [] = true
climbs p least (n ∷ rest) =
    (ltb n (length p.arrows) && leb least (key_of p n)) && climbs p (suc (key_of p n)) rest

-- an index of e arrows is as long as it has to be, and opens with the four numbers
unfoldable pub opens_well : ℕ → ℕ → List ℕ → Bool
opens_well states e index =
    eqb (length index) (index_long e) &&
    (eqb (word 0 index) states && (eqb (word 1 index) e && (eqb (word 2 index) 8 && eqb (word 3 index) (index_long e))))

-- the numbers of an index, after its header
abbrev pub numbers_in : Plant → List ℕ → List ℕ
numbers_in p index = words (length p.arrows) (drop 8 index)

-- the header is good, and the numbers climb
unfoldable pub ascends : Plant → List ℕ → Bool
ascends p index = opens_well p.states (length p.arrows) index && climbs p 0 (numbers_in p index)
