-- What the masks come to is written, a refusal or the last book.
use Rattle.std.proofs.Common.{refl}
use Rattle.refusal.proofs.Refused.{some_refusal}
use Rattle.reply.proofs.Parts.{text_refused, text_listed, told}
use Rattle.reply.proofs.reply_in.Goals as goal

pub returns-in-Ok : goal.returns-in-Ok
returns-in-Ok c = told _ (text_listed _ c.in-Ok.ensures refl) (c.list_book.ensures.long, c.list_book.ensures.bytes)

pub returns-in-Err : goal.returns-in-Err
returns-in-Err c =
    told _ (text_refused _ c.in-Err.ensures (some_refusal _))
    (rw c.number.ensures at c.refused_text.ensures.long, rw c.number.ensures at c.refused_text.ensures.bytes)
