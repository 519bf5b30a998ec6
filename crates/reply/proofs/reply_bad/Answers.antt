-- The plant's number, or else the text for bad masks.
use Rattle.std.proofs.Common.{sym}
use borrow.Author.Tests.{eq-eqb, ne_eqb}
use Rattle.refusal.specs.Numbers.{number_of}
use Rattle.refusal.proofs.Refused.{some_refusal}
use Rattle.reply.specs.Steps.{bad_text}
use Rattle.reply.proofs.reply_bad.Goals as goal

pub returns-in-Err-clause-long : goal.returns-in-Err-clause-long
unfolding bad_text
returns-in-Err-clause-long c =
    rw (← c.in-Err.ensures, ne_eqb (number_of c.in-Err.why) 0 (some_refusal c.in-Err.why))
    (rw c.number.ensures at c.refused_text.ensures.long)

pub returns-in-Err-clause-bytes : goal.returns-in-Err-clause-bytes
unfolding bad_text
returns-in-Err-clause-bytes c =
    rw (← c.in-Err.ensures, ne_eqb (number_of c.in-Err.why) 0 (some_refusal c.in-Err.why))
    (rw c.number.ensures at c.refused_text.ensures.bytes)

pub returns-in-Ok-clause-long : goal.returns-in-Ok-clause-long
unfolding bad_text
returns-in-Ok-clause-long c = rw (eq-eqb _ 0 (sym c.in-Ok.ensures)) c.bad_masks_text.ensures.long

pub returns-in-Ok-clause-bytes : goal.returns-in-Ok-clause-bytes
unfolding bad_text
returns-in-Ok-clause-bytes c = rw (eq-eqb _ 0 (sym c.in-Ok.ensures)) c.bad_masks_text.ensures.bytes
