use Rattle.std.proofs.Common.{◌-◌}
use Rattle.game.specs.Walked.{nodes}
use Rattle.game.specs.Steps.{Rooms, Walking}
use Rattle.game.proofs.links.Links.spread.Given as goal

-- the walk has taken the first nodes of the queue
abbrev pub invariant-loop-head : goal.invariant-loop-head
invariant-loop-head l =
    let s = l.self in
    record {
      walking : Walking s.rev.now s.starts.now s.gs.now l.member l.fn.waits l.counts l.waits l.queue l.head l.tail;
      rooms : Rooms s.starts.now s.gs.now l.member l.counts l.waits l.queue;
    }

abbrev pub decreases-loop-head : goal.decreases-loop-head
decreases-loop-head l = nodes l.self.starts.now - l.head
