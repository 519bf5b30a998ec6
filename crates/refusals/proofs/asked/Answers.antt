-- 8 or 0, by the numbers of states and goals.
use mathlib.Core.Path.{sym, ap, ap₂, ◌∙◌}
use mathlib.Core.Bool.{Bool, ◌||◌}
use Prim.Native.Nat.{ℕ}
use lib.Dec.{leb}
use Rattle.statements.specs.Plants.{when}
use Rattle.statements.specs.Books.{book_states, book_goals}
use Rattle.statements.specs.Calls.{number_fault}
use Rattle.refusals.proofs.asked.Goals as goal

pub returns-then-states-state : goal.returns-then-states-state
unfolding number_fault book_states book_goals
returns-then-states-state c =
    let a = c.args in
    sym
    (ap₂ (λ (s n : ℕ). when (leb s a.state || leb n a.goal) 8) (sym c.number-states.ensures) (sym c.number-goals.ensures)
    ∙ ap (λ (t : Bool). when t 8) c.if-states-state.true)

pub returns : goal.returns
unfolding number_fault book_states book_goals
returns c =
    let a = c.args in
    sym
    (ap₂ (λ (s n : ℕ). when (leb s a.state || leb n a.goal) 8) (sym c.number-states.ensures) (sym c.number-goals.ensures)
    ∙ ap (λ (t : Bool). when t 8) c.if-states-state.false)
