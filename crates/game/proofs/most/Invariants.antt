use Rattle.std.proofs.Common.{◌≡◌, length}
use Rattle.game.specs.Steps.{possible}
use Rattle.game.proofs.most.Given as goal

-- the nodes so far are counted
abbrev pub invariant-loop-x : goal.invariant-loop-x
invariant-loop-x l = l.count ≡ length (possible l.x l.member l.waits)
