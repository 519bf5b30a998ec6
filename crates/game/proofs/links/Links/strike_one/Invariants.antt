use Rattle.std.proofs.Common.{◌+◌, get_or}
use Rattle.game.proofs.Strikes.{Striking}
use Rattle.game.proofs.links.Links.strike_one.Given as goal

-- the groups with an end at one of the positions passed are dead
abbrev pub invariant-loop-group : goal.invariant-loop-group
invariant-loop-group l =
    let s = l.self in
    Striking s.gs.now s.starts.now s.rev.now l.node l.initial.member l.initial.live l.initial.dead
    l.member l.live l.dead (get_or s.starts.now l.node 0 + l.group-index)
