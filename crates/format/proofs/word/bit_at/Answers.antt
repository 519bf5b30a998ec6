use Rattle.std.proofs.Common.{sym}
use Rattle.format.proofs.Words.{no_bit}
use Rattle.format.proofs.word.bit_at.Goals as goal

pub returns-then-i-ge32 : goal.returns-then-i-ge32
returns-then-i-ge32 c = sym (no_bit 32 c.args.i c.args.v c.ranges.v.fits c.if-i-ge32.true)
