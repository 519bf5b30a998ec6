-- The plant's own answer; 4 for a bad header or a book unlike the plant; or the book's own answer.
use mathlib.Core.Path.{◌≡◌, refl, sym, ap₂, ◌∙◌}
use mathlib.Core.Bool.{Bool, true, false, ◌||◌, not}
use Prim.Native.Nat.{ℕ}
use lib.Dec.{eqb}
use Rattle.std.proofs.Common.{rules}
use Rattle.statements.specs.Plants.{plant_of}
use Rattle.statements.specs.Calls.{alike, lent_fault}
use Rattle.refusals.proofs.Refusals.{first_err, first_ok}
use Rattle.refusals.proofs.lent.Goals as goal

pub returns-in_err-check_plant : goal.returns-in_err-check_plant
unfolding lent_fault
returns-in_err-check_plant c = search (rules, first_err, c.in_err-check_plant.ensures)

pub returns-then-not-fits : goal.returns-then-not-fits
unfolding lent_fault
returns-then-not-fits c =
    search (rules, first_ok, first_err, c.in_ok-check_plant.ensures)

pub returns : goal.returns
unfolding lent_fault
returns c = search (rules, first_ok, c.in_ok-check_plant.ensures)
