-- The arrow that stands at a place among a plant's arrows, and the arrows from a place on.
use Rattle.std.specs.Prelude.{List, ℕ, ◌+◌, ◌*◌, drop}
use Rattle.statements.specs.Plants.{word, Arrow as PlantArrow, plant_of}
use Rattle.format.specs.declared.arrows.Arrow.{Arrow}

-- the arrow whose six bytes start at a place
unfoldable pub arrow_from : List ℕ → ℕ → Arrow
arrow_from s place =
    record { from = word 0 (drop place s); action = word 0 (drop (place + 2) s); to = word 0 (drop (place + 4) s) }

-- an arrow that was read, as an arrow of a plant
abbrev pub plant_arrow : Arrow → PlantArrow
plant_arrow a = record { from = a.from; move = a.action; to = a.to }

-- arrow k: three numbers, six bytes, past the header and the labels
unfoldable pub arrow_in : List ℕ → ℕ → Arrow
arrow_in s k =
    let place = 16 + 2 * word 0 s + 6 * k in
    record { from = word 0 (drop place s); action = word 0 (drop (place + 2) s); to = word 0 (drop (place + 4) s) }

-- the arrows from arrow k on
unfoldable pub arrows_left : List ℕ → ℕ → List PlantArrow
arrows_left s k = drop k (plant_of s).arrows
