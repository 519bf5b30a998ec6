-- The one game from the start leaves the kept states, and the rows placed from its waits are those of the book.
use Rattle.std.proofs.Common.{List, ℕ, length, ap, refl, ◌∙◌, subst, replicate, arith}
use Rattle.statements.specs.Plants.{plant_of}
use Rattle.decoding.proofs.Faults.{plant_ok}
use Rattle.solve.specs.Rows.{Columns}
use Rattle.solve.proofs.Worked.{columns_room}
use Rattle.solve.proofs.Plain.{plain_kept, plain_rows}
use Rattle.solve.proofs.moves.Moves.at_once.Goals as goal

pub play-kept-requires-clause-exits : goal.play-kept-requires-clause-exits
play-kept-requires-clause-exits c = (replicate 1024 65535, c.requires.graphed.1)

pub place-requires-clause-long : goal.place-requires-clause-long
place-requires-clause-long c =
    let p = plant_of c.args.self.now.plant.now in
    let small = (plant_ok c.args.self.now.plant.now c.args.self.now.given.accepted).sizes.states_most in
    let wide = columns_room c.args.self.now.plant.now c.args.self.now.given.accepted p.states p.goals refl refl in
    (omega (arith, wide, c.play-kept.auto.waits), small, small)

pub returns : goal.returns
returns c =
    let s = c.args.self.now in
    let p = plant_of s.plant.now in
    let sizes = (plant_ok s.plant.now s.given.accepted).sizes in
    let leave : List ℕ = replicate 1024 65535 in
    let is = plain_kept p s.frame.mask c.args.start.now c.requires.plain c.requires.set sizes.states_most
    sizes.moves_most leave refl in
    let game = c.play-kept.ensures leave c.requires.graphed.1 in
    let columns = subst (λ (ys : List ℕ). Columns p s.frame.mask leave ys c.play-kept.new.waits) is game.1 in
    record {
      count = game.0 ∙ ap length is;
      rows = λ old rows.
          plain_rows p s.frame.mask c.args.start.now c.requires.plain c.requires.set sizes.states_most
          sizes.moves_most leave refl sizes.goals_least _ columns 1 leave old _ _ _ refl rows c.place.ensures;
    }
