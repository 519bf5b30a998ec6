-- Where the number fits it is stored.
use Rattle.std.proofs.Common.{sym, ◌∙◌, arith}
use Rattle.format.proofs.Stores.{fits, too_long}
use Rattle.format.proofs.word.put.Goals as goal

pub returns-then-room-lt2 : goal.returns-then-room-lt2
returns-then-room-lt2 c = sym (too_long c.args.out.now c.args.at c.args.v (omega arith))

pub returns : goal.returns
returns c = c.store.ensures ∙ sym (fits c.args.out.now c.args.at c.args.v (omega arith))
