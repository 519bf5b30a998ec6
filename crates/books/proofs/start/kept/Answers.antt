-- The list is filled from its last place down, by as many states as the header says.
use Rattle.std.proofs.Common.{◌≡◌, ◌+◌, ◌-◌, not, sym, ap, ◌∙◌, arith}
use Rattle.statements.specs.Books.{book_states, book_count, book_kept}
use Rattle.decoding.proofs.Faults.{book_ok}
use Rattle.rows.proofs.Rows.{lost_known}
use Rattle.books.proofs.Started.{fill_start, fill_place, fill_yes, fill_no, fill_end}
use Rattle.books.proofs.start.kept.Goals as goal

pub loop-x-init : goal.loop-x-init
unfolding book_states book_count book_kept
loop-x-init c =
    let ok = book_ok c.args.book.now c.requires.accepted in
    rw c.number-x.ensures
    (fill_start _ _ _ _ ok.sizes.states_most c.requires.room (c.from-count.ensures ∙ c.number.ensures ∙ ok.count))

pub overflow_sub-at : goal.overflow_sub-at
overflow_sub-at c =
    let l = c.loop-x in
    let is = lost_known c.args.book.now (l.x - 1) _ c.lost_in-lost.result c.staged-stages.ensures
    (rw c.from.ensures at c.lost_in-lost.ensures) in
    (fill_place _ _ _ _ l.x l.at (l.x - 1) l.invariant (omega arith) (ap not (sym is) ∙ ap not c.if-not-lost.true)).0

pub offset_bounds-list-at : goal.offset_bounds-list-at
offset_bounds-list-at c =
    let l = c.loop-x in
    let is = lost_known c.args.book.now (l.x - 1) _ c.lost_in-lost.result c.staged-stages.ensures
    (rw c.from.ensures at c.lost_in-lost.ensures) in
    omega (
      arith,
      (fill_place _ _ _ _ l.x l.at (l.x - 1) l.invariant (omega arith) (ap not (sym is) ∙ ap not c.if-not-lost.true)).1,
    )

pub bounds-list-at : goal.bounds-list-at
bounds-list-at c =
    let l = c.loop-x in
    let is = lost_known c.args.book.now (l.x - 1) _ c.lost_in-lost.result c.staged-stages.ensures
    (rw c.from.ensures at c.lost_in-lost.ensures) in
    let there = fill_place _ _ _ _ l.x l.at (l.x - 1) l.invariant (omega arith) (ap not (sym is) ∙ ap not c.if-not-lost.true) in
    omega (arith, there.0, there.1, l.auto.list)

pub loop-x-preserved-then-not-lost : goal.loop-x-preserved-then-not-lost
loop-x-preserved-then-not-lost c =
    let l = c.loop-x in
    let is = lost_known c.args.book.now (l.x - 1) _ c.lost_in-lost.result c.staged-stages.ensures
    (rw c.from.ensures at c.lost_in-lost.ensures) in
    fill_yes _ _ _ _ l.x l.at (l.x - 1) l.invariant (omega arith) (ap not (sym is) ∙ ap not c.if-not-lost.true)

pub loop-x-preserved : goal.loop-x-preserved
loop-x-preserved c =
    let l = c.loop-x in
    let is = lost_known c.args.book.now (l.x - 1) _ c.lost_in-lost.result c.staged-stages.ensures
    (rw c.from.ensures at c.lost_in-lost.ensures) in
    fill_no _ _ _ _ l.x l.at (l.x - 1) l.invariant (omega arith) (ap not (sym is) ∙ ap not c.if-not-lost.false)

pub returns-clause-number : goal.returns-clause-number
unfolding book_count book_kept
returns-clause-number c = c.from-count.ensures ∙ c.number.ensures ∙ (book_ok c.args.book.now c.requires.accepted).count

pub returns-clause-list : goal.returns-clause-list
unfolding book_kept
returns-clause-list c =
    let l = c.loop-x in
    let end : l.x ≡ 0 = omega arith in
    fill_end _ _ _ _ _ (rw end at l.invariant)
