use Rattle.std.proofs.Common.{sym, ◌∙◌}
use Rattle.statements.specs.Plants.{plant_of}
use Rattle.reply.proofs.Turns.{turned_refused, turned_made}
use Rattle.reply.proofs.in_turn.Goals as goal

-- the test of all masks is one of the plant's moves
pub returns-then-not-mask_ok : goal.returns-then-not-mask_ok
unfolding plant_of
returns-then-not-mask_ok c =
    let moves = c.from.ensures ∙ c.number.ensures in
    let test = rw (moves, c.union-all.ensures) at c.mask_ok.ensures in
    turned_refused c.requires.ready _ c.requires.good c.union-all.ensures (sym test ∙ c.if-not-mask_ok.true)
    c.make_book.ensures.make_says

pub returns : goal.returns
unfolding plant_of
returns c =
    let moves = c.from.ensures ∙ c.number.ensures in
    let test = rw (moves, c.union-all.ensures) at c.mask_ok.ensures in
    turned_made c.requires.ready _ c.requires.good (sym test ∙ c.if-not-mask_ok.false) c.mask_at-first.ensures
    c.union-gone.ensures c.make_book-2.ensures.make_says
