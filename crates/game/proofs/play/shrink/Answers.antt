-- The nodes cut away are at the front, and are struck out.
use Rattle.std.proofs.Common.{◌≡◌, true, Bool, ℕ, List, not, sym, subst, take, arith}
use Rattle.std.proofs.lemmas.List.{length-take-le}
use Rattle.statements.specs.Sets.{is_in}
use Rattle.sets.proofs.Members.{filter_holds}
use Rattle.sets.proofs.Iterate.{sifted_below}
use Rattle.game.specs.Cuts.{waits_all}
use Rattle.game.proofs.Plays.{front_few, front_left, struck}
use Rattle.game.proofs.play.shrink.Goals as goal

pub cut-left-requires-clause-room : goal.cut-left-requires-clause-room
cut-left-requires-clause-room c =
    let p = c.requires in
    (p.set.0, omega (arith, front_few _ c.args.game.kept c.args.list.now p.set.0 p.set.1, p.room.1))

pub cut-left-requires-clause-nodes : goal.cut-left-requires-clause-nodes
cut-left-requires-clause-nodes c =
    sifted_below c.args.game.nodes (take c.args.game.kept c.args.list.now) c.requires.set.1

pub slice_bounds-strike_in-count : goal.slice_bounds-strike_in-count
slice_bounds-strike_in-count c =
    front_left _ c.args.game.kept c.cut-left.result c.args.list.now c.requires.set.0 c.cut-left.ensures.number

pub slice_bounds-strike_in-end : goal.slice_bounds-strike_in-end
slice_bounds-strike_in-end c =
    let p = c.requires in
    let a = c.args in
    let less = front_left _ a.game.kept c.cut-left.result a.list.now p.set.0 c.cut-left.ensures.number in
    let few = front_few _ a.game.kept a.list.now p.set.0 p.set.1 in
    omega (arith, few, p.room.1, c.cut-left.auto.gone)

pub slice_bounds-strike_in-length : goal.slice_bounds-strike_in-length
slice_bounds-strike_in-length c =
    let p = c.requires in
    let a = c.args in
    let less = front_left _ a.game.kept c.cut-left.result a.list.now p.set.0 c.cut-left.ensures.number in
    let few = front_few _ a.game.kept a.list.now p.set.0 p.set.1 in
    sym (length-take-le _ _ (omega (arith, few, p.room.1, c.cut-left.auto.gone)))

pub strike_in-requires-clause-inside : goal.strike_in-requires-clause-inside
strike_in-requires-clause-inside c x m =
    let a = c.args in
    let set = take a.game.kept a.list.now in
    let away : ℕ → Bool = λ y. not (waits_all a.waits.now a.game.nodes a.game.goals y) in
    let there = subst (λ (l : List ℕ). is_in x l ≡ true) c.cut-left.ensures.gone m in
    sifted_below a.game.nodes set c.requires.set.1 x (filter_holds away set x there).0

pub returns-clause-marked : goal.returns-clause-marked
returns-clause-marked c =
    let a = c.args in
    let done = c.cut-left.ensures in
    struck _ _ _ (take a.game.kept a.list.now) _ _ _ _ _ (waits_all a.waits.now a.game.nodes a.game.goals) done.gone
    done.still (c.strike_in.ensures (take a.game.kept a.list.now) c.requires.marked)
