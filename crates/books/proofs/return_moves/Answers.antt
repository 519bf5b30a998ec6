-- A call that passes the checks ahead of loading writes the book of a make with the old mask and the moves returned, and
-- lists the states that it keeps and the old book loses; any other is refused and changes nothing.
use Rattle.std.proofs.Common.{false, [], sym, ◌∙◌, arith, length-take-le}
use Rattle.books.proofs.Made.{ready, made_fits}
use Rattle.books.proofs.Answered.{withdraw_refused, return_none, return_done}
use Rattle.books.proofs.return_moves.Goals as goal

pub returns-then-not-withdraw_ahead-clause-return_says : goal.returns-then-not-withdraw_ahead-clause-return_says
returns-then-not-withdraw_ahead-clause-return_says c =
    record {
      writes =
          withdraw_refused false [] c.args.plant.now c.args.book.now c.args.mask c.args.out.now c.args.gained.now _
          c.refused.ensures c.withdraw.ensures (sym c.withdraw_ahead.ensures ∙ c.if-not-withdraw_ahead.true);
    }

pub book-requires : goal.book-requires
book-requires c =
    let lent = ready _ _ _ _ _ (sym c.withdraw_ahead.ensures ∙ c.if-not-withdraw_ahead.false) in
    record { head = lent.head; room = lent.room }

pub returns-in_default-clause-return_says : goal.returns-in_default-clause-return_says
returns-in_default-clause-return_says c =
    return_none [] c.args.plant.now c.args.book.now c.args.mask c.args.out.now c.args.gained.now _
    (sym c.withdraw_ahead.ensures ∙ c.if-not-withdraw_ahead.false) c.mask-old.ensures c.in_default.ensures.bytes _
    c.in_default.ensures.long c.refused-in_default.ensures c.withdraw-in_default.ensures

pub slice_bounds-dropped-end : goal.slice_bounds-dropped-end
slice_bounds-dropped-end c =
    let lent = ready _ _ _ _ _ (sym c.withdraw_ahead.ensures ∙ c.if-not-withdraw_ahead.false) in
    omega (arith, c.book.auto.out, made_fits _ _ _ _ lent.room c.in-Some.ensures.long)

pub slice_bounds-dropped-end-2 : goal.slice_bounds-dropped-end-2
slice_bounds-dropped-end-2 c =
    let lent = ready _ _ _ _ _ (sym c.withdraw_ahead.ensures ∙ c.if-not-withdraw_ahead.false) in
    sym
    (length-take-le _ _
    (omega (arith, c.book.auto.out, made_fits _ _ _ _ lent.room c.in-Some.ensures.long)))

pub returns-clause-return_says : goal.returns-clause-return_says
returns-clause-return_says c =
    return_done [] c.args.plant.now c.args.book.now c.args.mask c.args.out.now c.args.gained.now _
    (sym c.withdraw_ahead.ensures ∙ c.if-not-withdraw_ahead.false) c.mask-old.ensures c.in-Some.ensures.bytes
    c.in-Some.ensures.long c.dropped-count.ensures.count c.dropped-count.ensures.bytes
