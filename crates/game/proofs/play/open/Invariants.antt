-- The nodes so far are marked where they have a group.
use Rattle.game.proofs.Opening.{Opening}
use Rattle.game.proofs.play.open.Given as goal

abbrev pub invariant-loop-x : goal.invariant-loop-x
invariant-loop-x l = Opening l.live l.member l.n l.x
