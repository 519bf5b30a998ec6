-- Each number is stored after those before it.
use Rattle.std.proofs.Common.{arith}
use Rattle.sets.proofs.Over.{over_none}
use Rattle.statements.specs.Books.{bytes_of}
use Rattle.format.proofs.Stores.{put_next}
use Rattle.format.proofs.word.put_all.Goals as goal

pub loop-k-init : goal.loop-k-init
unfolding bytes_of
loop-k-init c = over_none c.args.out.now

pub loop-k-preserved : goal.loop-k-preserved
loop-k-preserved c =
    put_next c.args.numbers.now c.args.out.now c.loop-k.k (omega arith) (omega arith) c.loop-k.invariant
    c.store.ensures
