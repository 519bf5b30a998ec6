use Rattle.std.proofs.Common.{◌+◌, get_or}
use Rattle.game.proofs.Pass.{Pass}
use Rattle.game.proofs.links.Links.pop.Given as goal

-- the node's positions so far are passed
abbrev pub invariant-loop-group : goal.invariant-loop-group
invariant-loop-group l =
    let t = get_or l.fn.queue l.fn.line.head 0 in
    let s = l.self in
    Pass s.rev.now s.starts.now s.gs.now l.member l.fn.waits l.fn.queue l.fn.line.head t (get_or l.fn.waits t 0)
    l.counts l.waits l.queue l.end (get_or s.starts.now t 0 + l.group-index)
