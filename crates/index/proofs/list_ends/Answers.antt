use Rattle.std.proofs.Common.{ap, arith}
use Rattle.index.proofs.Filling.{list_start, list_next}
use Rattle.index.proofs.list_ends.Goals as goal

pub loop-n-init : goal.loop-n-init
loop-n-init c = list_start c.args.plant.now c.args.count _ _ c.requires.0 c.requires.1

pub loop-n-preserved : goal.loop-n-preserved
loop-n-preserved c =
    rw (c.from.ensures, c.from-in-loop-n.ensures)
    (list_next c.arrow_at.result.to c.loop-n.invariant c.loop-n-test.true (ap (λ a. a.to) c.arrow_at.ensures))

pub returns : goal.returns
returns c =
    let i = c.loop-n.invariant in
    record {
      ends = λ t l. i.ends_are t (omega (arith, c.loop-n-test.false));
      numbers = λ t l. i.numbers_are t (omega (arith, c.loop-n-test.false));
    }
