-- The withdrawal is made in memory of the call's own, which is long enough for every book.
use Rattle.std.proofs.Common.{rules, refl, ◌∙◌}
use Rattle.statements.specs.Plants.{word}
use Rattle.statements.specs.Books.{book_count}
use Rattle.books.proofs.Previewing.{preview_done, preview_refused}
use Rattle.books.proofs.preview_withdrawal.Goals as goal

pub returns-in_err-written-clause-preview_says : goal.returns-in_err-written-clause-preview_says
returns-in_err-written-clause-preview_says c =
    preview_refused _ _ (search rules) c.in_err-written.ensures.withdraw_says refl

pub returns-clause-preview_says : goal.returns-clause-preview_says
unfolding book_count word
returns-clause-preview_says c =
    preview_done c.from.result c.in_ok-written.ensures.withdraw_says refl refl (c.from.ensures ∙ c.number.ensures)
