use Rattle.listing.specs.Text.{last_digit}
use Rattle.listing.proofs.Writing.{wrote_then}
use Rattle.listing.proofs.Digits.{digits_one, digits_more}
use Rattle.listing.proofs.text.Printer.+digits.Goals as goal
use Rattle.listing.proofs.text.Printer.+digits.Goals.{then-v-ge10, else-v-ge10}

pub returns-clause-wrote : goal.returns-clause-wrote
unfolding last_digit
returns-clause-wrote t c =
    elim c.if-v-ge10.branch [
      | then-v-ge10 w ↦
          rw (digits_more c.args.v w.if-v-ge10.true)
          (wrote_then w.digits.ensures.wrote (rw w.self-is at c.byte.ensures.wrote))
      | else-v-ge10 w ↦ rw (digits_one c.args.v w.if-v-ge10.false) (rw w.self-is at c.byte.ensures.wrote)
    ]
