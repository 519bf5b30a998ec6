-- Refused, or all moves of the entry of the goal arrived at.
use Rattle.std.proofs.Common.{rules, sym, ap, ◌∙◌}
use Rattle.statements.specs.Plants.{plant_of}
use Rattle.statements.specs.Books.{good_moves}
use Rattle.decoding.proofs.Asked.{moves_fine}
use Rattle.promises.proofs.Demands.{of_moves}
use Rattle.consult.proofs.Consulted.{moves_given, refused_moves}
use Rattle.consult.proofs.good_moves.Goals as goal

pub returns-in_err-moves : goal.returns-in_err-moves
returns-in_err-moves c =
    record {
      moves_says = refused_moves _ _ (search rules) c.in_err-moves.ensures;
      moves_arriving = of_moves.0;
      moves_walks = of_moves.1.0;
      moves_determined = of_moves.1.1;
    }

pub arrive-at-requires : goal.arrive-at-requires
arrive-at-requires c = (moves_fine c.args.book.now c.args.state c.args.goal c.args.plant.now (sym c.in_ok-moves.ensures)).goal

pub good-requires-clause-fine : goal.good-requires-clause-fine
good-requires-clause-fine c =
    (moves_given c.args.plant.now c.args.book.now c.args.state c.args.goal (sym c.in_ok-moves.ensures)).0

pub good-requires-clause-within : goal.good-requires-clause-within
good-requires-clause-within c =
    (moves_given c.args.plant.now c.args.book.now c.args.state c.args.goal (sym c.in_ok-moves.ensures)).1

pub returns : goal.returns
returns c =
    let a = c.args in
    record {
      moves_says =
          record {
            number = c.in_ok-moves.ensures;
            mask = c.good.ensures ∙ ap (good_moves (plant_of a.plant.now) a.book.now a.state) c.arrive-at.ensures;
          };
      moves_arriving = of_moves.0;
      moves_walks = of_moves.1.0;
      moves_determined = of_moves.1.1;
    }
