use Rattle.game.proofs.Strikes.{Struck}
use Rattle.game.proofs.links.Links.strike.Given as goal

-- the nodes so far are struck out
abbrev pub invariant-loop-node : goal.invariant-loop-node
invariant-loop-node l =
    Struck l.self.gs.now l.self.starts.now l.self.rev.now l.gone l.fn.member l.fn.live l.fn.dead l.member l.live l.dead l.node-index
