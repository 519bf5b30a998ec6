use Rattle.std.proofs.Common.{sym}
use Rattle.format.proofs.Words.{mask_fits}
use Rattle.format.proofs.word.mask_ok.Goals as goal

pub returns-then-moves-ge32 : goal.returns-then-moves-ge32
returns-then-moves-ge32 c = sym (mask_fits 32 c.args.moves c.args.mask c.ranges.mask.fits c.if-moves-ge32.true)
