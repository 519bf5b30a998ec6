use Rattle.std.proofs.Common.{◌∙◌}
use Rattle.statements.specs.Books.{book_states, book_count}
use Rattle.listing.specs.Text.{head_text, of_text, kept_text, moves_text}
use Rattle.listing.proofs.Writing.{wrote_then}
use Rattle.listing.proofs.text.Printer.head.Goals as goal

pub returns-clause-wrote : goal.returns-clause-wrote
unfolding head_text of_text kept_text moves_text book_count book_states
returns-clause-wrote c =
    let kept = c.from-kept.ensures ∙ c.number.ensures in
    let states = c.from-states.ensures ∙ c.number-2.ensures in
    rw (← kept, ← states, ← c.mask-served.ensures)
    (wrote_then c.figure.ensures.wrote (wrote_then c.figure-2.ensures.wrote c.figure-3.ensures.wrote))
