use Rattle.std.proofs.Common.{◌≡◌, ◌^◌, ap, ◌∙◌, refl, arith}
use Rattle.statements.specs.Sets.{every}
use Rattle.statements.specs.Books.{book_moves}
use Rattle.rows.specs.Checks.{entry_in}
use Rattle.format.proofs.Words.{power}
use Rattle.rows.proofs.Rows.{head_given, entries_within, entry_next, held_each}
use Rattle.rows.proofs.Gathered.{gathered, gathered_none, gathered_next}
use Rattle.rows.proofs.GoodRows.entries_held.Goals as goal

pub loop-goal-init : goal.loop-goal-init
unfolding every
loop-goal-init c = gathered_none c.mask-mask.result

-- the entries that are read stand within the book
pub word_in-action-requires : goal.word_in-action-requires
word_in-action-requires c =
    let good = c.args.self.now in
    omega (
      arith,
      entries_within good.rows.book.now c.args.state good.rows.stages _ _ good.sort (head_given _ good.head) c.requires
          c.entry-start.ensures.place (c.from-goal-end.ensures ∙ c.number.ensures),
    )

pub word_in-waits-requires : goal.word_in-waits-requires
word_in-waits-requires c =
    let good = c.args.self.now in
    omega (
      arith,
      entries_within good.rows.book.now c.args.state good.rows.stages _ _ good.sort (head_given _ good.head) c.requires
          c.entry-start.ensures.place (c.from-goal-end.ensures ∙ c.number.ensures),
    )

pub loop-goal-preserved : goal.loop-goal-preserved
loop-goal-preserved c =
    let good = c.args.self.now in
    let b = good.rows.book.now in
    let place = entry_in good.rows.stages b c.args.state in
    let head = head_given b good.head in
    let one = power c.from.result (omega (arith, c.from.ensures)) ∙ ap (λ k. 2 ^ k) c.from.ensures in
    gathered_next b (book_moves b) c.mask-mask.result c.loop-goal.goal c.loop-goal.waits c.loop-goal.moves c.loop-goal.set
    place (omega arith) (rw c.mask-mask.ensures head.mask_ok_lem) c.loop-goal.invariant
    (entry_next good.rows.stages b c.args.state c.loop-goal.goal c.entry-start.ensures.place) c.word_in-waits.ensures
    c.word_in-action.ensures one

pub returns : goal.returns
unfolding gathered
returns c =
    let good = c.args.self.now in
    let b = good.rows.book.now in
    let goals = c.from-goal-end.ensures ∙ c.number.ensures in
    let last : c.loop-goal.goal ≡ c.from-goal-end.result = omega arith in
    c.loop-goal.invariant ∙ held_each good.rows.stages b c.args.state _ _ _ (last ∙ goals) refl c.mask-mask.ensures
