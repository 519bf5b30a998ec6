use Rattle.std.proofs.Common.{◌≡◌, ◌^◌, ◌∙◌, refl, arith, rules}
use Rattle.statements.specs.Sets.{joined}
use Rattle.statements.specs.Books.{book_states}
use Rattle.listing.specs.Text.{state_text, book_text}
use Rattle.listing.proofs.Writing.{wrote_none, wrote_then, joined_turn, joined_room}
use Rattle.listing.proofs.Texts.{book_long_lem}
use Rattle.listing.proofs.text.put_book.Goals as goal

pub loop-state-init : goal.loop-state-init
unfolding joined
loop-state-init c = record { same = refl; wrote = wrote_none _ _ }

pub state-requires : goal.state-requires
unfolding book_states
state-requires c =
    let all = book_long_lem c.args.book.now _ (c.from-state-end.ensures ∙ c.number.ensures) in
    joined_room (state_text c.args.book.now) _ c.loop-state.state (2 ^ 64) c.loop-state-test.true
    c.loop-state.invariant.wrote (omega (arith, all, c.requires, c.head.ensures.wrote.place))

pub loop-state-preserved : goal.loop-state-preserved
loop-state-preserved c = record {
  same = c.state.ensures.same ∙ c.loop-state.invariant.same;
  wrote = joined_turn (state_text c.args.book.now) c.loop-state.state c.loop-state.invariant.wrote c.state.ensures.wrote;
}

pub returns : goal.returns
unfolding book_text book_states
returns c =
    let last : c.loop-state.state ≡ c.from-state-end.result = omega arith in
    let states = last ∙ c.from-state-end.ensures ∙ c.number.ensures in
    let whole = rw states at (wrote_then c.head.ensures.wrote c.loop-state.invariant.wrote) in
    search (rules, whole)
