-- Without room nothing is written; with it the bytes of the index's numbers are.
use Rattle.std.proofs.Common.{◌+◌, arith, sym, ◌∙◌}
use lib.Seq.{length-take-le}
use Rattle.refusal.proofs.Refused.{accepted}
use Rattle.decoding.proofs.Order.{count_few}
use Rattle.format.proofs.Stores.{all_fit}
use Rattle.index.proofs.Filling.{no_room, written}
use Rattle.index.proofs.write.Goals as goal

pub returns-then-out-last-clause-fits : goal.returns-then-out-last-clause-fits
returns-then-out-last-clause-fits c =
    (no_room c.args.plant.now c.args.out.now c.number.result c.number.ensures c.if-out-last.true).0

pub returns-then-out-last-clause-bytes : goal.returns-then-out-last-clause-bytes
returns-then-out-last-clause-bytes c =
    (no_room c.args.plant.now c.args.out.now c.number.result c.number.ensures c.if-out-last.true).1

pub fill-requires-clause-room : goal.fill-requires-clause-room
fill-requires-clause-room c =
    let fine = accepted _ c.check_plant.ensures c.is_err.ensures.value c.if-is_err.false in
    omega (arith, count_few _ fine)

pub slice_bounds-numbers-end : goal.slice_bounds-numbers-end
slice_bounds-numbers-end c =
    let fine = accepted _ c.check_plant.ensures c.is_err.ensures.value c.if-is_err.false in
    omega (arith, c.number.ensures, count_few _ fine, c.fill.auto.numbers)

pub slice_bounds-put_all-end : goal.slice_bounds-put_all-end
slice_bounds-put_all-end c =
    let fine = accepted _ c.check_plant.ensures c.is_err.ensures.value c.if-is_err.false in
    sym (length-take-le _ _ (omega (arith, c.number.ensures, count_few _ fine, c.fill.auto.numbers)))

pub returns-clause-fits : goal.returns-clause-fits
returns-clause-fits c =
    let fine = accepted _ c.check_plant.ensures c.is_err.ensures.value c.if-is_err.false in
    let long = length-take-le (4 + c.number.result) c.fill.new.numbers
    (omega (arith, c.number.ensures, count_few _ fine, c.fill.auto.numbers)) in
    (written c.args.plant.now c.args.out.now c.number.result c.fill.new.numbers c.put_all.new.out fine c.number.ensures
    c.if-out-last.false c.fill.ensures (c.put_all.ensures ∙ all_fit _ c.args.out.now (omega (arith, long)))).0

pub returns-clause-bytes : goal.returns-clause-bytes
returns-clause-bytes c =
    let fine = accepted _ c.check_plant.ensures c.is_err.ensures.value c.if-is_err.false in
    let long = length-take-le (4 + c.number.result) c.fill.new.numbers
    (omega (arith, c.number.ensures, count_few _ fine, c.fill.auto.numbers)) in
    (written c.args.plant.now c.args.out.now c.number.result c.fill.new.numbers c.put_all.new.out fine c.number.ensures
    c.if-out-last.false c.fill.ensures (c.put_all.ensures ∙ all_fit _ c.args.out.now (omega (arith, long)))).1
