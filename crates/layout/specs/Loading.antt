-- What the loading of a layout tells. Assumes nothing.
use Rattle.std.specs.Prelude.{ℕ, length}
use Rattle.statements.specs.Plants.{Plant}
use Rattle.layout.specs.declared.Loaded.{Loaded}
use Rattle.layout.specs.Layout.{group_states, group_ends}

-- how many groups the layout of a plant has, and how many ends these have
abbrev pub loaded_of : Plant → ℕ → Loaded
loaded_of p mask = record { groups = length (group_states p mask); arrows = length (group_ends p mask) }
