-- Eight numbers, one after the other, are the header, and those of an accepted plant fit.
use Rattle.std.proofs.Common.{sym, ◌∙◌, arith}
use Rattle.statements.specs.Plants.{plant_of}
use Rattle.decoding.proofs.Faults.{long_few}
use Rattle.format.proofs.Stores.{all_fit}
use Rattle.writing.proofs.Written.{head_stored}
use Rattle.writing.proofs.head.Goals as goal

pub overflow_cast-long : goal.overflow_cast-long
overflow_cast-long c = omega (arith, c.book_long-long.ensures, long_few c.args.plant.now c.requires.accepted)

pub returns : goal.returns
unfolding plant_of
returns c states e =
    head_stored (plant_of c.args.plant.now) c.args.mask states c.args.out.now c.number-states.result
    c.number-moves.result c.number-goals.result c.args.kept c.number-states.ensures c.number-moves.ensures
    c.number-goals.ensures (sym e) _ c.book_long-long.ensures
    (c.put_all.ensures ∙ all_fit _ c.args.out.now (omega arith))
