-- The states that the old book keeps and that are allowed: the book within them is that of the withdrawal, and the states
-- that it loses are listed.
use Rattle.std.proofs.Common.{is_some, sym, arith, length-take-le}
use Rattle.decoding.proofs.Sizes.{kept_few}
use Rattle.writing.proofs.Solved.{written_fits}
use Rattle.graph.specs.Packed.{lent_bytes}
use Rattle.books.proofs.Made.{ready, withdrawn_struck}
use Rattle.books.proofs.Answered.{withdraw_none, withdraw_done}
use Rattle.books.proofs.withdraw.carry_out.Goals as goal

pub kept-before-requires : goal.kept-before-requires
kept-before-requires c =
    let lent = ready _ _ _ _ _ c.requires in
    record { accepted = lent.accepted; room = lent.few }

pub allowed-kept-requires : goal.allowed-kept-requires
allowed-kept-requires c =
    let lent = ready _ _ _ _ _ c.requires in
    record {
      head = lent.head;
      room =
          omega (arith, c.kept-before.ensures.number, kept_few c.args.book.now, lent.few, c.kept-before.auto.list);
    }

pub returns-in_default : goal.returns-in_default
returns-in_default c =
    let a = c.args in
    let w = withdrawn_struck (is_some a.index) (lent_bytes a.index) a.plant.now a.book.now a.gone _ a.out.now c.allowed-kept.new.list _ c.requires
    c.kept-before.ensures.number c.kept-before.ensures.list (omega (arith, c.kept-before.auto.list))
    c.allowed-kept.auto.list c.allowed-kept.ensures.number c.allowed-kept.ensures.still c.mask-old.ensures
    c.in_default.ensures.long c.in_default.ensures.bytes in
    withdraw_none (is_some a.index) (lent_bytes a.index) a.plant.now a.book.now a.gone a.out.now a.drops.now c.requires w.1 _ w.0
    c.refused.ensures c.check.ensures

pub slice_bounds-dropped-end : goal.slice_bounds-dropped-end
slice_bounds-dropped-end c =
    omega (arith, c.book.auto.out, written_fits _ _ _ _ c.in-Some.ensures.long)

pub slice_bounds-dropped-end-2 : goal.slice_bounds-dropped-end-2
slice_bounds-dropped-end-2 c =
    sym (length-take-le _ _ (omega (arith, c.book.auto.out, written_fits _ _ _ _ c.in-Some.ensures.long)))

pub returns : goal.returns
returns c =
    let a = c.args in
    let w = withdrawn_struck (is_some a.index) (lent_bytes a.index) a.plant.now a.book.now a.gone _ a.out.now c.allowed-kept.new.list _ c.requires
    c.kept-before.ensures.number c.kept-before.ensures.list (omega (arith, c.kept-before.auto.list))
    c.allowed-kept.auto.list c.allowed-kept.ensures.number c.allowed-kept.ensures.still c.mask-old.ensures
    c.in-Some.ensures.long c.in-Some.ensures.bytes in
    withdraw_done (is_some a.index) (lent_bytes a.index) a.plant.now a.book.now a.gone a.out.now a.drops.now c.requires w.1 w.0
    c.dropped-count.ensures.count c.dropped-count.ensures.bytes
