use Rattle.std.proofs.Common.{◌≡◌, ◌^◌, sym, ◌∙◌, refl, arith}
use Rattle.statements.specs.Sets.{joined}
use Rattle.statements.specs.Books.{book_goals}
use Rattle.listing.specs.Text.{line_text}
use Rattle.listing.proofs.Writing.{wrote_none, joined_turn, joined_room}
use Rattle.listing.proofs.Texts.{state_held}
use Rattle.listing.proofs.text.Printer.state.Goals as goal

pub loop-goal-init : goal.loop-goal-init
unfolding joined
loop-goal-init c = record { same = refl; wrote = wrote_none _ _ }

pub line-requires : goal.line-requires
unfolding book_goals
line-requires c =
    let goals = c.from-goal-end.ensures ∙ c.number.ensures in
    let text = state_held c.args.book.now c.args.state _ (sym c.is_lost.ensures ∙ c.if-is_lost.false) goals in
    joined_room (line_text c.args.book.now c.args.state) _ c.loop-goal.goal (2 ^ 64) c.loop-goal-test.true
    c.loop-goal.invariant.wrote (rw text at c.requires)

pub loop-goal-preserved : goal.loop-goal-preserved
loop-goal-preserved c = record {
  same = c.line.ensures.same ∙ c.loop-goal.invariant.same;
  wrote =
      joined_turn (line_text c.args.book.now c.args.state) c.loop-goal.goal c.loop-goal.invariant.wrote c.line.ensures.wrote;
}

pub returns-clause-wrote : goal.returns-clause-wrote
unfolding book_goals
returns-clause-wrote c =
    let goals = c.from-goal-end.ensures ∙ c.number.ensures in
    let last : c.loop-goal.goal ≡ c.from-goal-end.result = omega arith in
    rw (state_held c.args.book.now c.args.state _ (sym c.is_lost.ensures ∙ c.if-is_lost.false) (last ∙ goals))
    c.loop-goal.invariant.wrote
