-- The move, the wait and the goal of the goal arrived at.
use Rattle.std.proofs.Common.{arith}
use Rattle.winning.proofs.Goals.{arrive_below}
use Rattle.decoding.proofs.Asked.{fine}
use Rattle.consult.proofs.Consulted.{says_kept}
use Rattle.consult.proofs.goals.advise.Goals as goal

pub arrive-at-requires : goal.arrive-at-requires
arrive-at-requires c = (fine c.args.book.now c.args.state c.args.goal c.requires.fine).goal

pub overflow_cast-result : goal.overflow_cast-result
overflow_cast-result c =
    let f = fine c.args.book.now c.args.state c.args.goal c.requires.fine in
    omega (arith, c.arrive-at.ensures, arrive_below c.args.book.now c.args.state c.args.goal f.goal, f.head.sizes.goals_most)

pub returns : goal.returns
returns c =
    says_kept c.args.book.now c.args.state c.args.goal c.requires.fine c.requires.kept _ _ _ c.move_at.ensures
    c.wait_at.ensures c.arrive-at.ensures
