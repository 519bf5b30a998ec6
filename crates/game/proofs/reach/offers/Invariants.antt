use Rattle.game.specs.Cuts.{Offers}
use Rattle.game.proofs.reach.offers.Given as goal

-- what the nodes so far offer is written
abbrev pub invariant-loop-x : goal.invariant-loop-x
invariant-loop-x l = Offers l.labels l.member l.x l.bits
