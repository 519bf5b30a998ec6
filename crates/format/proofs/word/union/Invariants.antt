-- What is joined so far and the masks left are together all of them.
use Rattle.std.proofs.Common.{◌≡◌}
use Rattle.std.specs.Slice.Iter.{chunks_exact_rest, chunks_exact_size}
use Rattle.format.proofs.Unions.{Joined}
use Rattle.format.proofs.word.union.Given as goal

abbrev pub invariant-loop-mask : goal.invariant-loop-mask
invariant-loop-mask l =
    record {
      four : chunks_exact_size l.mask-iterator ≡ 4;
      joined : Joined l.masks l.all (chunks_exact_rest l.mask-iterator);
    }
