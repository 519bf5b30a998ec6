use Rattle.std.proofs.Common.{◌<◌, ◌∙◌, length}
use Rattle.std.specs.Slice.Iter.{chunks_exact_rest}
use Rattle.format.proofs.Unions.{joined_start, joined_more, joined_end}
use Rattle.format.proofs.word.union.Goals as goal

pub loop-mask-init : goal.loop-mask-init
loop-mask-init c =
    let same = c.into_iter-mask-iterator.ensures.into_iter_gives in
    record {
      four = rw same c.chunks_exact-mask-items.ensures.size;
      joined = rw (same, c.chunks_exact-mask-items.ensures.rest) (joined_start c.args.masks.now);
    }

-- the next four bytes are the next mask
pub loop-mask-preserved : goal.loop-mask-preserved
loop-mask-preserved c =
    let so_far = c.loop-mask.invariant in
    let next = c.in-Some.ensures.steps in
    record {
      four = next.0 ∙ so_far.four;
      joined =
          rw c.mask_at-all.ensures
          (joined_more c.args.masks.now c.loop-mask.all (chunks_exact_rest c.loop-mask.mask-iterator) c.in-Some.mask.now
          (chunks_exact_rest c.next.new.self) so_far.joined next.1.0 (next.1.1 ∙ so_far.four));
    }

pub returns : goal.returns
returns c =
    let left = chunks_exact_rest c.loop-mask.mask-iterator in
    let short : length left < 4 = rw c.loop-mask.invariant.four at c.in-None.ensures.steps.1.0 in
    joined_end c.args.masks.now c.loop-mask.all left c.loop-mask.invariant.joined short
