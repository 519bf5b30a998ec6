use Rattle.std.proofs.Common.{◌∙◌}
use Rattle.listing.specs.Text.{line_text, space, newline}
use Rattle.listing.proofs.Writing.{wrote_then}
use Rattle.listing.proofs.text.Printer.line.Goals as goal

pub returns-clause-wrote : goal.returns-clause-wrote
unfolding line_text space newline
returns-clause-wrote c =
    let wait = c.from-wait.ensures ∙ c.wait_at.ensures in
    let action = c.from-action.ensures ∙ c.move_at.ensures in
    rw (← wait, ← action)
    (wrote_then c.figure.ensures.wrote
    (wrote_then c.figure-2.ensures.wrote (wrote_then c.figure-3.ensures.wrote c.figure-4.ensures.wrote)))
