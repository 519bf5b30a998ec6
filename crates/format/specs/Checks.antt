-- Parts of the check of a plant: its labels, its arrows, and one arrow after another.
use Rattle.std.specs.Prelude.{Bool, ◌&&◌, ◌||◌, not, List, ℕ, ◌+◌, ◌*◌, ltb, leb, length}
use Rattle.statements.specs.Sets.{pick}
use Rattle.statements.specs.Plants.{Plant, word, labels_ok, arrows_ok}
use Rattle.format.specs.declared.arrows.Arrow.{Arrow}

-- the bytes of a plant's labels are there, and a list has room for all of them
unfoldable pub labels_fit : List ℕ → List ℕ → Bool
labels_fit s to = not (ltb (length s) (16 + 2 * word 0 s) || ltb (length to) (word 0 s))

-- every label of a plant is in range
abbrev pub labels_fine : Plant → Bool
labels_fine p = labels_ok p.settles p.goals p.labels

-- every arrow of a plant is in range, and the arrows strictly ascend
abbrev pub arrows_fine : Plant → Bool
arrows_fine p = arrows_ok p.states p.moves 0 p.arrows

-- the least rank that the arrow after this one may have; 0 if this one is out of range or its rank is below the least
unfoldable pub least_after : ℕ → ℕ → ℕ → Arrow → ℕ
least_after states moves least a =
    let rank = 65536 * (65536 * a.from) + (65536 * a.action + a.to) in
    pick (ltb a.from states && (ltb a.action moves && (ltb a.to states && leb least rank))) (rank + 1) 0
