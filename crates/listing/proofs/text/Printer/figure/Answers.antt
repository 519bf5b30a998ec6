use Rattle.listing.specs.Text.{figure}
use Rattle.listing.proofs.Writing.{wrote_then}
use Rattle.listing.proofs.text.Printer.figure.Goals as goal

pub returns-clause-wrote : goal.returns-clause-wrote
unfolding figure
returns-clause-wrote c = wrote_then c.digits.ensures.wrote c.text.ensures.wrote
