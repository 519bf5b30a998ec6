-- The stages end where no state can newly leave, or where one adds no state.
use Rattle.std.proofs.Common.{not, List, ℕ, ◌+◌, ◌≤◌, ltb, length, ap, sym, refl, subst, replicate, ◌∙◌, arith}
use borrow.Author.Tests.{ltb-true, not-true}
use Rattle.statements.specs.Plants.{plant_of}
use Rattle.statements.specs.Kept.{kept_within, stages_to}
use Rattle.sets.proofs.Tests.{and_left, and_right}
use Rattle.decoding.proofs.Faults.{plant_ok}
use Rattle.arrays.specs.Lists.{among}
use Rattle.solve.specs.Rows.{Rowed}
use Rattle.solve.proofs.StageRows.{staged_none, no_stage, upto_few, calm_kept, all_kept, next_kept}
use Rattle.solve.proofs.moves.Moves.by_stages.Goals as goal

pub loop-done-init : goal.loop-done-init
loop-done-init c =
    let p = plant_of c.args.self.now.plant.now in
    let small = (plant_ok c.args.self.now.plant.now c.args.self.now.given.accepted).sizes.states_most in
    record {
      staged = λ old rows.
          staged_none p c.args.self.now.frame.mask c.args.start.now old _ (replicate 1024 65535) small refl rows;
      kept_is = no_stage p c.args.self.now.frame.mask c.args.start.now;
      few = omega arith;
      graphed = c.requires.graphed;
    }

pub returns-then-done-grows-clause-count : goal.returns-then-done-grows-clause-count
returns-then-done-grows-clause-count c =
    let s = c.args.self.now in
    let p = plant_of s.plant.now in
    let sizes = (plant_ok s.plant.now s.given.accepted).sizes in
    let l = c.loop-done in
    let tests = c.if-done-grows.true in
    let some = ltb-true 0 l.done (and_left (ltb 0 l.done) (not c.grows.result) tests) in
    let calm = c.grows.ensures (not-true _ (and_right (ltb 0 l.done) (not c.grows.result) tests)) in
    let enough : l.done ≤ length (stages_to l.done p s.frame.mask (among c.args.start.now)) =
    omega (arith, l.invariant.kept_is, l.invariant.few) in
    l.invariant.kept_is
    ∙ ap length (sym (calm_kept p s.frame.mask c.args.start.now sizes.goals_least c.requires.settling
    sizes.states_most l.done some enough (l.invariant.staged c.requires.marks.0 c.requires.marks.1) calm))

pub returns-then-done-grows-clause-rows : goal.returns-then-done-grows-clause-rows
returns-then-done-grows-clause-rows c = λ old rows.
    let s = c.args.self.now in
    let p = plant_of s.plant.now in
    let sizes = (plant_ok s.plant.now s.given.accepted).sizes in
    let l = c.loop-done in
    let tests = c.if-done-grows.true in
    let some = ltb-true 0 l.done (and_left (ltb 0 l.done) (not c.grows.result) tests) in
    let calm = c.grows.ensures (not-true _ (and_right (ltb 0 l.done) (not c.grows.result) tests)) in
    let enough : l.done ≤ length (stages_to l.done p s.frame.mask (among c.args.start.now)) =
    omega (arith, l.invariant.kept_is, l.invariant.few) in
    let is = calm_kept p s.frame.mask c.args.start.now sizes.goals_least c.requires.settling sizes.states_most l.done
    some enough (l.invariant.staged c.requires.marks.0 c.requires.marks.1) calm in
    subst (λ (ys : List ℕ). Rowed p s.frame.mask (kept_within p s.frame.mask (among c.args.start.now)) ys old l.out)
    (sym is) (l.invariant.staged old rows).rows

pub advance-more-requires-clause-room : goal.advance-more-requires-clause-room
advance-more-requires-clause-room c =
    let s = c.args.self.now in
    let p = plant_of s.plant.now in
    let sizes = (plant_ok s.plant.now s.given.accepted).sizes in
    let most = upto_few p s.frame.mask c.args.start.now sizes.goals_least c.requires.settling sizes.states_most
    c.loop-done.done in (
      omega (arith, c.requires.room, c.loop-done.auto.out),
      omega (arith, sizes.states_most, c.loop-done.array_long),
      omega (arith, c.loop-done.invariant.kept_is, c.loop-done.invariant.few, most, sizes.states_most),
    )

pub returns-then-more-kept-clause-count : goal.returns-then-more-kept-clause-count
returns-then-more-kept-clause-count c =
    let s = c.args.self.now in
    let p = plant_of s.plant.now in
    let sizes = (plant_ok s.plant.now s.given.accepted).sizes in
    let l = c.loop-done in
    let same = c.advance-more.ensures.count _ (l.invariant.staged c.requires.marks.0 c.requires.marks.1) in
    let upto : ℕ → List ℕ = λ n. stages_to n p s.frame.mask (among c.args.start.now) in
    let enough : l.done ≤ length (upto l.done) = omega (arith, l.invariant.kept_is, l.invariant.few) in
    let less : length (upto (l.done + 1)) ≤ length (upto l.done) =
    omega (arith, c.if-more-kept.true, same, l.invariant.kept_is) in
    l.invariant.kept_is
    ∙ ap length (sym (all_kept p s.frame.mask c.args.start.now sizes.goals_least c.requires.settling
    sizes.states_most l.done enough less))

pub returns-then-more-kept-clause-rows : goal.returns-then-more-kept-clause-rows
returns-then-more-kept-clause-rows c = λ old rows.
    let s = c.args.self.now in
    let p = plant_of s.plant.now in
    let sizes = (plant_ok s.plant.now s.given.accepted).sizes in
    let l = c.loop-done in
    let same = c.advance-more.ensures.count _ (l.invariant.staged c.requires.marks.0 c.requires.marks.1) in
    let upto : ℕ → List ℕ = λ n. stages_to n p s.frame.mask (among c.args.start.now) in
    let enough : l.done ≤ length (upto l.done) = omega (arith, l.invariant.kept_is, l.invariant.few) in
    let less : length (upto (l.done + 1)) ≤ length (upto l.done) =
    omega (arith, c.if-more-kept.true, same, l.invariant.kept_is) in
    let is = next_kept p s.frame.mask c.args.start.now sizes.goals_least c.requires.settling sizes.states_most l.done
    enough less in
    subst (λ (ys : List ℕ). Rowed p s.frame.mask (kept_within p s.frame.mask (among c.args.start.now)) ys old
    c.advance-more.new.out) (sym is) (c.advance-more.ensures.staged old (l.invariant.staged old rows)).rows

pub overflow_add-done : goal.overflow_add-done
overflow_add-done c =
    let s = c.args.self.now in
    let p = plant_of s.plant.now in
    let sizes = (plant_ok s.plant.now s.given.accepted).sizes in
    let most = upto_few p s.frame.mask c.args.start.now sizes.goals_least c.requires.settling sizes.states_most
    c.loop-done.done in
    omega (arith, c.loop-done.invariant.kept_is, c.loop-done.invariant.few, most, sizes.states_most)

pub loop-done-smaller : goal.loop-done-smaller
loop-done-smaller c =
    let s = c.args.self.now in
    let p = plant_of s.plant.now in
    let sizes = (plant_ok s.plant.now s.given.accepted).sizes in
    let same = c.advance-more.ensures.count _ (c.loop-done.invariant.staged c.requires.marks.0 c.requires.marks.1) in
    let most = upto_few p s.frame.mask c.args.start.now sizes.goals_least c.requires.settling sizes.states_most
    (c.loop-done.done + 1) in
    omega (arith, c.if-more-kept.false, same, most, sizes.states_most)
