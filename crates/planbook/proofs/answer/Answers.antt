use Rattle.std.proofs.Common.{◌≡◌, length, take, sym, ap, ◌∙◌, arith}
use Rattle.std.proofs.Math.Seq.{length-take-le}
use mathlib.Core.Bool.{true≢false}
use Rattle.reply.specs.Reply.{reply_to}
use Rattle.reply.proofs.Room.{placed_within, placed_all}
use Rattle.planbook.proofs.answer.Goals as goal

pub slice_bounds-result-end : goal.slice_bounds-result-end
slice_bounds-result-end c =
    sym (length-take-le _ _ (omega (arith, placed_within _ _ c.reply-long.ensures.long, c.reply-long.auto.out)))

-- what is written is the answer to the bytes that were read, which decide it
pub returns-in-Ok : goal.returns-in-Ok
returns-in-Ok c =
    let buffer = c.args.buffer.now in
    let read = take c.in-Ok.count buffer in
    let said = c.reply-long.ensures in
    let answered : take c.reply-long.result c.reply-long.new.out ≡ reply_to read =
    placed_all _ _ (omega (arith, said.most read, c.requires.output)) said.long said.bytes
    in
    rw c.in-Ok.is
    (record {
      answer = λ _ whole same. answered ∙ ap reply_to same ∙ said.first (length buffer) whole c.requires.input;
      nothing = λ failed. absurd (true≢false (sym failed));
    })
