-- What is gathered by an index: for each of its numbers in turn the value of that arrow.
use Rattle.std.specs.Prelude.{Bool, ◌&&◌, List, [], ◌∷◌, map, ℕ, suc, ltb, leb, length, get_or}
use Rattle.statements.specs.Sets.{pick}
use Rattle.statements.specs.Plants.{Plant, plant_of, head_ok}
use Rattle.index.specs.Checked.{key_of, climbs, opens_well, numbers_in}

-- the numbers before the first that does not climb
unfoldable pub climbed : Plant → ℕ → List ℕ → List ℕ
climbed p least [] = []
climbed p least (n ∷ rest) =
    pick (ltb n (length p.arrows) && leb least (key_of p n)) (n ∷ climbed p (suc (key_of p n)) rest) []

-- the values of some arrows in turn
unfoldable pub taken : List ℕ → List ℕ → List ℕ
taken by ns = map (λ n. get_or by n 0) ns

-- plant and index have good headers, every arrow has a value, and there is room for as many
unfoldable pub ready : List ℕ → List ℕ → List ℕ → List ℕ → Bool
ready s index by out =
    let e = length (plant_of s).arrows in
    (head_ok s && opens_well (plant_of s).states e index) && (leb e (length by) && leb e (length out))

-- and the numbers climb
unfoldable pub gathers : List ℕ → List ℕ → List ℕ → List ℕ → Bool
gathers s index by out = ready s index by out && climbs (plant_of s) 0 (numbers_in (plant_of s) index)
