-- A turn leaves the nodes from which its goal is forced and that then go on, and after as many quiet turns as there are
-- goals the set is what is left.
use Rattle.std.proofs.Common.{◌≡◌, ◌≤◌, ◌<◌, ◌+◌, ◌-◌, ◌*◌, ◌∙◌, ℕ, ap, not, length, get_or, drop, arith}
use Rattle.std.proofs.Math.Nat.{mul-le-mul_right}
use Rattle.std.proofs.lemmas.List.{length-take-le, length-drop}
use lib.Dec.{eqb}
use Rattle.game.specs.Playing.{last_eight}
use lib.ListN.{length-replicate}
use Rattle.game.proofs.Parts.{fresh_made}
use Rattle.game.proofs.Plays.{standing, first_round, all_played, rest_more}
use Rattle.game.proofs.Goals.{quiet_none, quiet_all, ready_fewer, rest_from, turn_less, turn_on, turn_round, turn_few}
use Rattle.game.proofs.Goals.{turn_quiet}
use Rattle.game.proofs.play.turns.Goals as goal

pub begin-requires-clause-member : goal.begin-requires-clause-member
begin-requires-clause-member c = fresh_made _ 65535 1024 c.requires.ready.fits.few_nodes

pub begin-requires-clause-live : goal.begin-requires-clause-live
begin-requires-clause-live c = fresh_made _ 0 1024 c.requires.ready.fits.few_nodes

pub loop-still-init : goal.loop-still-init
loop-still-init c = record {
  outset = first_round _ _ _ _ _ c.requires.ready _ _ _ _ _ _ _ _ c.requires.start_rises c.begin.ensures
      (omega (arith, c.begin.auto.member)) (omega (arith, c.begin.auto.live)) c.requires.no_targets
      (length-replicate {A = ℕ} 1024 0) c.copy.ensures;
  quiet = quiet_none _ _ _ _ _ _ _ _ 0 c.requires.ready.some_goal;
}

pub seek-requires-clause-member : goal.seek-requires-clause-member
seek-requires-clause-member c = standing _ _ _ _ _ c.requires.ready _ _ _ _ c.loop-still.invariant.outset.marked

pub narrow-left-requires : goal.narrow-left-requires
narrow-left-requires c =
    let l = c.loop-still in
    let p = c.requires in
    let out = l.invariant.outset in
    let quiet = l.invariant.quiet in
    let sought = c.seek.ensures.sought in
    let ends = mul-le-mul_right {m = l.goal + 1} {n = c.args.game.goals} c.args.game.nodes (omega (arith, quiet.low)) in
    let rest = rest_more out.rest (rest_from ends c.seek.ensures.rest) in
    let n = c.args.game.nodes in
    let from = l.goal * n in
    let room : from + n ≤ length c.seek.new.waits = omega (arith, ends, p.room, rest.long) in
    let long = length-take-le (from + n - from) (drop from c.seek.new.waits)
    (omega (arith, length-drop from c.seek.new.waits, room)) in
    record {
      ready = ready_fewer 1 (omega arith) p.ready.some_goal p.ready;
      front = out.room;
      sifted = out.round.sifted;
      columns = omega (arith, long);
      room = omega (arith, p.ready.fits.few_nodes, c.seek.auto.queue, out.queue_long);
      marked = out.marked;
      goes = turn_on _ _ _ _ _ p.ready _ _ _ _ _ _ _ _ out.round quiet sought _ _ _ out.marked;
    }

pub loop-still-smaller : goal.loop-still-smaller
loop-still-smaller c =
    let l = c.loop-still in
    let p = c.requires in
    let out = l.invariant.outset in
    let quiet = l.invariant.quiet in
    let sought = c.seek.ensures.sought in
    let anew : not (eqb c.noted.result c.noted-was.result)
    ≡ not (eqb (get_or (last_eight c.seek.new.scratch) l.goal 0) (get_or (last_eight l.scratch) l.goal 0)) =
    ap (λ (v : ℕ). not (eqb v c.noted-was.result)) c.noted.ensures
    ∙ ap (λ (v : ℕ). not (eqb (get_or (last_eight c.seek.new.scratch) l.goal 0) v)) c.noted-was.ensures in
    let left = c.narrow-left.ensures in
    let size = length-take-le l.kept l.list out.room in
    let few =
    turn_few _ _ _ _ _ p.ready _ _ _ _ _ _ _ _ out.round quiet sought _ anew _ left.still in
    let fewer : c.narrow-left.result ≤ l.kept = omega (arith, few, size, left.number) in
    let low : l.still < 8 = omega (arith, p.ready.few_goals, c.loop-still-test.true) in
    rw c.still_after-still.ensures (turn_less l.kept c.narrow-left.result l.still fewer low)

pub loop-still-preserved : goal.loop-still-preserved
loop-still-preserved c =
    let l = c.loop-still in
    let p = c.requires in
    let out = l.invariant.outset in
    let quiet = l.invariant.quiet in
    let sought = c.seek.ensures.sought in
    let ends = mul-le-mul_right {m = l.goal + 1} {n = c.args.game.goals} c.args.game.nodes (omega (arith, quiet.low)) in
    let rest = rest_more out.rest (rest_from ends c.seek.ensures.rest) in
    let anew : not (eqb c.noted.result c.noted-was.result)
    ≡ not (eqb (get_or (last_eight c.seek.new.scratch) l.goal 0) (get_or (last_eight l.scratch) l.goal 0)) =
    ap (λ (v : ℕ). not (eqb v c.noted-was.result)) c.noted.ensures
    ∙ ap (λ (v : ℕ). not (eqb (get_or (last_eight c.seek.new.scratch) l.goal 0) v)) c.noted-was.ensures in
    let left = c.narrow-left.ensures in
    let size = length-take-le l.kept l.list out.room in
    let few =
    turn_few _ _ _ _ _ p.ready _ _ _ _ _ _ _ _ out.round quiet sought _ anew _ left.still in
    let fewer : c.narrow-left.result ≤ l.kept = omega (arith, few, size, left.number) in
    record {
      outset = record {
        room = omega (arith, fewer, c.narrow-left.auto.list, out.room);
        marked = left.marked;
        round = turn_round _ _ _ _ _ p.ready _ _ _ _ _ _ _ _ out.round quiet sought _ anew _ left.still;
        rest = rest;
        scratch_long = omega (arith, c.seek.auto.scratch, out.scratch_long);
        queue_long = c.narrow-left.auto.gone ∙ (c.seek.auto.queue ∙ out.queue_long);
        list_long = omega (arith, c.narrow-left.auto.list, out.list_long);
        member_long = omega (arith, c.narrow-left.auto.member, out.member_long);
        live_long = omega (arith, c.narrow-left.auto.live, out.live_long);
      };
      quiet =
          turn_quiet _ _ _ _ _ p.ready _ _ _ _ _ _ _ _ out.round quiet sought _ anew _ left.still c.loop-still-test.true
          size left.number c.goal_after-goal.ensures c.still_after-still.ensures;
    }

pub returns : goal.returns
returns c =
    let l = c.loop-still in
    let out = l.invariant.outset in
    let all = quiet_all _ _ _ _ _ l.invariant.quiet c.loop-still-test.false in
    let size = length-take-le l.kept l.list out.room in
    all_played _ _ _ _ _ c.requires.ready _ _ _ _ out.round.sifted out.round.same all.0 all.1 _ _ size c.requires.room
    out.rest
