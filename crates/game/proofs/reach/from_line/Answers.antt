-- The waits before the walk are those of the targets in line, and the walk's parts are those of the game.
use Rattle.std.proofs.Common.{ℕ, length, arith, ap, ◌∙◌, take}
use Rattle.std.proofs.Math.ListN.{length-replicate}
use Rattle.arrays.specs.Lists.{zeroed}
use Rattle.game.proofs.Parts.{groups_length, starts_nodes}
use Rattle.game.proofs.Begun.{reach_start, reach_end}
use Rattle.game.proofs.reach.from_line.Goals as goal

pub spread-requires-clause-rooms : goal.spread-requires-clause-rooms
spread-requires-clause-rooms c =
    let s = c.args in
    let l = c.requires.lined in
    let gl = groups_length s.graph.now l.fits in
    let nl = starts_nodes s.graph.now l.fits in
    rw (c.of.ensures.starts, c.of.ensures.gs)
    (record {
      member_long = omega (arith, nl, l.member_long);
      cnt_long = omega (arith, gl, c.copy.auto.to, l.counts_long);
      w_long = omega (arith, nl, c.mark.auto.to, ap length c.requires.waits, length-replicate {A = ℕ} s.game.nodes 65535);
      q_long = omega (arith, nl, l.queue_long);
    })

pub spread-requires-clause-walking : goal.spread-requires-clause-walking
spread-requires-clause-walking c =
    let s = c.args in
    let l = c.requires.lined in
    let gl = groups_length s.graph.now l.fits in
    let nl = starts_nodes s.graph.now l.fits in
    let waits = c.mark.ensures ∙ ap (zeroed (take s.tail s.queue.now)) c.requires.waits in
    rw (c.of.ensures.rev, c.of.ensures.starts, c.of.ensures.gs)
    (reach_start s.game.nodes s.queue.now s.tail l.number l.sifted _ waits _ _ _ _ s.sizes.now s.counts.now _ s.game.groups nl (omega arith)
    l.sized.long l.counts_long l.sized.counted c.copy.ensures)

pub returns : goal.returns
returns c =
    let s = c.args in
    let waits = c.mark.ensures ∙ ap (zeroed (take s.tail s.queue.now)) c.requires.waits in
    reach_end _ _ _ _ (take s.tail s.queue.now) s.game.nodes (starts_nodes s.graph.now c.requires.lined.fits) waits
    (rw (c.of.ensures.rev, c.of.ensures.starts, c.of.ensures.gs) at c.spread.ensures)
