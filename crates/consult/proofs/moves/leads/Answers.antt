-- The first arrow that is not of a lower rank is the one, or there is none.
use Rattle.std.proofs.Common.{◌∙◌, arith}
use mathlib.Core.Path.{ap₂}
use lib.Dec.{eqb}
use Rattle.decoding.proofs.Faults.{states_few}
use Rattle.consult.proofs.Leading.{leads_none, leads_here}
use Rattle.consult.proofs.moves.leads.Goals as goal

pub overflow_cast-state : goal.overflow_cast-state
overflow_cast-state c = omega (arith, c.requires.from_low, states_few c.args.plant.now c.requires.fine)

pub overflow_cast-end : goal.overflow_cast-end
overflow_cast-end c = omega (arith, c.requires.end_low, states_few c.args.plant.now c.requires.fine)

pub returns-then-number-k : goal.returns-then-number-k
returns-then-number-k c =
    leads_none c.args.plant.now c.args.state c.args.action c.args.end (rw c.rank_of-rank.ensures at c.first_at-k.ensures)
    (omega (arith, c.number.ensures, c.if-number-k.true))

pub returns : goal.returns
returns c =
    let a = c.args in
    ap₂ eqb c.rank_at.ensures c.rank_of-rank.ensures
    ∙ leads_here a.plant.now a.state a.action a.end (rw c.rank_of-rank.ensures at c.first_at-k.ensures) c.requires.fine
    (omega (arith, c.number.ensures, c.if-number-k.false)) (omega arith)
    (omega (arith, c.requires.end_low, states_few a.plant.now c.requires.fine))
