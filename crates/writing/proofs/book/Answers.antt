-- Where the solver has no number nothing is written; otherwise it leaves the rows of the states kept, and the header with
-- their number before these makes them the book.
use Rattle.std.proofs.Common.{◌≡◌, ◌∙◌, arith, rules, None, is_some}
use Rattle.statements.specs.Plants.{plant_of}
use Rattle.decoding.proofs.Faults.{long_few}
use Rattle.graph.specs.Packed.{accepts_by, lent_bytes}
use Rattle.solve.proofs.Answers.{book_rows, accepts_fine}
use Rattle.writing.proofs.Solved.{writable_fine, room_of, has_solved, none_unwritten, book_done}
use Rattle.writing.proofs.book.Goals as goal

pub returns-in_err-kept : goal.returns-in_err-kept
returns-in_err-kept c =
    let none = none_unwritten (accepts_by c.args.way.index c.args.plant.now) c.args.plant.now c.args.way.mask c.args.start.now
    c.args.out.now c.in_err-kept.ensures.count c.in_err-kept.ensures.rows in
    let is : c.from_residual.result ≡ None = search rules in
    record { long = is ∙ none.0; bytes = none.1 }

pub head-requires : goal.head-requires
head-requires c =
    let can = has_solved (accepts_by c.args.way.index c.args.plant.now) c.args.plant.now c.args.way.mask c.args.start.now
    c.args.out.now c.in_ok-kept.ensures.count in
    let room = room_of _ c.args.plant.now c.args.start.now c.args.out.now can in
    record {
      accepted =
          accepts_fine (is_some c.args.way.index) (lent_bytes c.args.way.index) c.args.plant.now
          (writable_fine _ c.args.plant.now c.args.start.now c.args.out.now can);
      room = omega (arith, book_rows (plant_of c.args.plant.now));
    }

pub overflow_cast-result : goal.overflow_cast-result
overflow_cast-result c =
    let can = has_solved (accepts_by c.args.way.index c.args.plant.now) c.args.plant.now c.args.way.mask c.args.start.now
    c.args.out.now c.in_ok-kept.ensures.count in
    let fine = accepts_fine (is_some c.args.way.index) (lent_bytes c.args.way.index) c.args.plant.now
    (writable_fine _ c.args.plant.now c.args.start.now c.args.out.now can) in
    omega (arith, long_few c.args.plant.now fine)

pub returns : goal.returns
returns c =
    let done = book_done (accepts_by c.args.way.index c.args.plant.now) c.args.plant.now c.args.way.mask c.args.start.now
    c.args.out.now c.in_ok-kept.ensures.count c.in_ok-kept.ensures.rows c.book_long.ensures c.head.ensures in
    record { long = done.0; bytes = done.1 }
