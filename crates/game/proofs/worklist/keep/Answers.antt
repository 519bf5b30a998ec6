-- What is kept passes the closure's test, which is that of `remains`.
use Rattle.std.proofs.Common.{rules, tests}
use Rattle.game.specs.Packed.{over_at}
use Rattle.game.specs.Draining.{remains}
use Rattle.game.proofs.worklist.keep.Goals as goal

pub returns-clause-number : goal.returns-clause-number
unfolding remains over_at
returns-clause-number c =
    c.sift.ensures.number (remains c.args.labels.now c.args.member.now) (λ x b p. search (rules, tests))

pub returns-clause-still : goal.returns-clause-still
unfolding remains over_at
returns-clause-still c =
    c.sift.ensures.still (remains c.args.labels.now c.args.member.now) (λ x b p. search (rules, tests))
