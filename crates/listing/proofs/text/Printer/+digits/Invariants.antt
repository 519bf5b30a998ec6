use Rattle.listing.proofs.text.Printer.+digits.Given as goal

-- the digits of a number are those of its tenth, and then the last
abbrev pub decreases-digits : goal.decreases-digits
decreases-digits l = l.v
