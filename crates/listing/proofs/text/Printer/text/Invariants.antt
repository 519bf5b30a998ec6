use Rattle.std.proofs.Common.{◌≡◌, take}
use Rattle.listing.specs.Buffers.{Wrote}
use Rattle.listing.proofs.text.Printer.text.Given as goal

-- the bytes so far are put
abbrev pub invariant-loop-byte : goal.invariant-loop-byte
invariant-loop-byte l = record {
  same : l.self.out.ghost_name ≡ l.fn.self.out.ghost_name;
  wrote : Wrote l.fn.self.out.now l.fn.self.at (take l.byte-index l.text) l.self.at l.self.out.now;
}
