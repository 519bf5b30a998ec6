-- The first three numbers of a plant and of a book are their sizes.
use mathlib.Core.Path.{ap₂}
use mathlib.Core.Bool.{Bool, ◌&&◌}
use lib.Dec.{eqb}
use Rattle.statements.specs.Plants.{plant_of}
use Rattle.statements.specs.Books.{book_states, book_moves, book_goals, book_total}
use Rattle.statements.specs.Calls.{alike}
use Rattle.refusals.proofs.alike.Goals as goal

pub returns : goal.returns
unfolding alike plant_of book_states book_moves book_goals book_total
returns c =
    ap₂ (λ (t u : Bool). t && u) (ap₂ eqb c.number.ensures c.number-2.ensures)
    (ap₂ (λ (t u : Bool). t && u)
    (ap₂ eqb c.number-3.ensures c.number-4.ensures)
    (ap₂ (λ (t u : Bool). t && u) (ap₂ eqb c.number-5.ensures c.number-6.ensures)
    (ap₂ eqb c.number-7.ensures c.book_long.ensures)))
