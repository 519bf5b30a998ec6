-- The game of a plant can be played, and leaves the states kept.
use Rattle.std.proofs.Common.{is_some, unwrap_or, ap, sym, ◌∙◌}
use Rattle.solve.proofs.Worked.{worked}
use Rattle.solve.proofs.moves.Moves.play.Goals as goal

pub unwrap-requires : goal.unwrap-requires
unwrap-requires c =
    let s = c.args.self.now in
    let h = c.shape.result in
    let e = c.shape.ensures in
    let played = worked s.plant.now s.given.accepted s.frame.mask s.frame.groups s.frame.positions c.args.graph.now
    c.requires.graphed c.requires.exits.0 c.args.first.now c.requires.set c.requires.exits.1 h.nodes h.groups
    h.positions h.goals (ap (λ x. x.nodes) e ∙ s.states_is) (ap (λ x. x.groups) e) (ap (λ x. x.positions) e)
    (ap (λ x. x.goals) e ∙ s.goals_is) c.work_out.result c.args.waits.now c.work_out.new.waits c.requires.room
    c.work_out.auto.waits c.work_out.ensures.kept c.work_out.ensures.waits in
    ap is_some played.0

pub returns : goal.returns
returns c leave exits =
    let s = c.args.self.now in
    let h = c.shape.result in
    let e = c.shape.ensures in
    let played = worked s.plant.now s.given.accepted s.frame.mask s.frame.groups s.frame.positions c.args.graph.now
    c.requires.graphed leave c.args.first.now c.requires.set exits h.nodes h.groups h.positions h.goals
    (ap (λ x. x.nodes) e ∙ s.states_is) (ap (λ x. x.groups) e) (ap (λ x. x.positions) e)
    (ap (λ x. x.goals) e ∙ s.goals_is) c.work_out.result c.args.waits.now c.work_out.new.waits c.requires.room
    c.work_out.auto.waits c.work_out.ensures.kept c.work_out.ensures.waits in
    (ap (λ o. unwrap_or o 0) (sym c.unwrap.ensures ∙ played.0), played.1)
