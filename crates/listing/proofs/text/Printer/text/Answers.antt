use Rattle.std.proofs.Common.{◌∙◌}
use Rattle.listing.proofs.Writing.{text_more}
use Rattle.listing.proofs.text.Printer.text.Goals as goal

pub loop-byte-preserved : goal.loop-byte-preserved
loop-byte-preserved c = record {
  same = c.byte.ensures.same ∙ c.loop-byte.invariant.same;
  wrote = text_more c.args.text.now c.loop-byte.byte-index c.loop-byte-test.true c.loop-byte.invariant.wrote c.byte.ensures.wrote;
}
