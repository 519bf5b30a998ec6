-- The first nodes of the list are on the worklist, and their marks are taken away.
use Rattle.std.proofs.Common.{◌≡◌, take}
use Rattle.game.specs.Draining.{Unmarked}
use Rattle.game.proofs.worklist.load.Given as goal

abbrev pub invariant-loop-node : goal.invariant-loop-node
invariant-loop-node l =
    (l.tail ≡ l.node-index)
    × ((take l.node-index l.list ≡ take l.node-index l.gone) × Unmarked (take l.node-index l.gone) l.fn.member l.member)
