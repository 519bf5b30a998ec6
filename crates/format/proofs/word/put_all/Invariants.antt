-- After k numbers these are written.
use Rattle.std.proofs.Common.{◌≡◌, take}
use Rattle.statements.specs.Sets.{over}
use Rattle.statements.specs.Books.{bytes_of}
use Rattle.format.proofs.word.put_all.Given as goal

abbrev pub invariant-loop-k : goal.invariant-loop-k
invariant-loop-k l = l.out ≡ over (bytes_of (take l.k l.numbers)) l.fn.out
