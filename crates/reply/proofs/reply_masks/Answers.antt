use Rattle.std.proofs.Common.{sym, ◌∙◌, arith}
use Rattle.std.proofs.Math.Seq.{length-take-le}
use Rattle.reply.proofs.Parts.{head_long}
use Rattle.reply.proofs.reply_masks.Goals as goal

-- the plant's books are no longer than the buffer
pub slice_bounds-reply_in-end : goal.slice_bounds-reply_in-end
slice_bounds-reply_in-end c =
    sym
    (length-take-le _ _
    (omega (arith, c.book_long-long.ensures, head_long _ c.requires.head, c.book_buffer-book.ensures)))

pub reply_in-requires-clause-ready : goal.reply_in-requires-clause-ready
reply_in-requires-clause-ready c =
    record {
      long =
          length-take-le _ _
          (omega (arith, c.book_long-long.ensures, head_long _ c.requires.head, c.book_buffer-book.ensures))
          ∙ c.book_long-long.ensures;
    }
