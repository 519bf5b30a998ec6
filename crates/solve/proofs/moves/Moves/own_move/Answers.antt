-- The search looks at the first column alone.
use Rattle.std.proofs.Common.{ℕ, unwrap_or, ap, ◌∙◌, arith}
use Rattle.statements.specs.Plants.{plant_of}
use Rattle.decoding.proofs.Faults.{plant_ok}
use Rattle.decoding.proofs.Sizes.{row_within}
use Rattle.solve.proofs.RowEntries.{own_away, own_found}
use Rattle.solve.proofs.moves.Moves.own_move.Goals as goal

pub returns-then-away-self : goal.returns-then-away-self
returns-then-away-self c =
    own_away _ c.args.self.now.frame.mask c.args.leave.now c.args.waits.now c.args.state
    c.args.self.now.given.none_is c.if-away-self.true

pub search-requires-clause-waits_long : goal.search-requires-clause-waits_long
search-requires-clause-waits_long c =
    let p = plant_of c.args.self.now.plant.now in
    let goals = (plant_ok c.args.self.now.plant.now c.args.self.now.given.accepted).sizes.goals_least in
    omega (arith, row_within {s = p.goals} 0 p.states goals, c.requires.long.1)

pub returns : goal.returns
returns c =
    own_found _ c.args.self.now.frame.mask c.args.leave.now c.args.waits.now c.args.state
    c.args.self.now.given.none_is c.if-away-self.false
    (c.unwrap_or.ensures ∙ ap (λ (n : ℕ). unwrap_or c.search.result n) c.args.self.now.given.none_is
    ∙ c.search.ensures.first)
