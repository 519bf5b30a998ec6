-- A round leaves the nodes from which each goal is forced, and the last one all of its set.
use Rattle.std.proofs.Common.{ℕ, ◌≤◌, ◌∙◌, ap, length, take, arith}
use Rattle.std.proofs.lemmas.List.{length-take-le}
use lib.ListN.{length-replicate}
use Rattle.game.proofs.Parts.{fresh_made}
use Rattle.game.proofs.Plays.{standing, first_round, next_round_lem, last_played, rest_more}
use Rattle.game.proofs.play.rounds.Goals as goal

pub begin-requires-clause-member : goal.begin-requires-clause-member
begin-requires-clause-member c = fresh_made _ 65535 1024 c.requires.ready.fits.few_nodes

pub begin-requires-clause-live : goal.begin-requires-clause-live
begin-requires-clause-live c = fresh_made _ 0 1024 c.requires.ready.fits.few_nodes

pub loop-kept-init : goal.loop-kept-init
loop-kept-init c = first_round _ _ _ _ _ c.requires.ready _ _ _ _ _ _ _ _ c.requires.start_rises c.begin.ensures
    (omega (arith, c.begin.auto.member)) (omega (arith, c.begin.auto.live)) c.requires.no_targets
    (length-replicate {A = ℕ} 1024 0) c.copy.ensures

pub seek-requires-clause-member : goal.seek-requires-clause-member
seek-requires-clause-member c = standing _ _ _ _ _ c.requires.ready _ _ _ _ c.loop-kept.invariant.marked

pub returns-then-kept-left : goal.returns-then-kept-left
returns-then-kept-left c =
    let l = c.loop-kept in
    let left = c.shrink-left.ensures in
    let size = length-take-le l.kept l.list l.invariant.room in
    let still : length (take l.kept l.list) ≤ length (take c.shrink-left.result c.shrink-left.new.list) =
    omega (arith, size, c.if-kept-left.true, left.number, ap length left.still) in
    last_played _ _ _ _ _ c.requires.ready _ _ _ _ _ _ l.invariant.round c.seek.ensures.sought _ left.still still _ _ size
    c.requires.room (rest_more l.invariant.rest c.seek.ensures.rest)

pub loop-kept-preserved : goal.loop-kept-preserved
loop-kept-preserved c =
    let l = c.loop-kept in
    let left = c.shrink-left.ensures in
    record {
      room = omega (arith, c.if-kept-left.false, c.shrink-left.auto.list, l.invariant.room);
      marked = left.marked;
      round =
          next_round_lem _ _ _ _ _ c.requires.ready _ _ _ _ _ _ l.invariant.round c.seek.ensures.sought _ left.still;
      rest = rest_more l.invariant.rest c.seek.ensures.rest;
      scratch_long = omega (arith, c.seek.auto.scratch, l.invariant.scratch_long);
      queue_long = c.shrink-left.auto.gone ∙ (c.seek.auto.queue ∙ l.invariant.queue_long);
      list_long = omega (arith, c.shrink-left.auto.list, l.invariant.list_long);
      member_long = omega (arith, c.shrink-left.auto.member, l.invariant.member_long);
      live_long = omega (arith, c.shrink-left.auto.live, l.invariant.live_long);
    }
