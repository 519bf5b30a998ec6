use Rattle.std.proofs.Common.{sym, ◌∙◌, refl}
use Rattle.sets.proofs.Tests.{and_none}
use Rattle.reply.proofs.Parts.{reply_unfit, reply_good}
use Rattle.reply.proofs.Room.{reply_most}
use Rattle.reply.proofs.Long.{reply_first}
use Rattle.reply.proofs.Afresh.{reply_afresh}
use Rattle.reply.proofs.reply.Goals as goal
use Rattle.reply.proofs.reply.Goals.{else-head_ok-via-then-head_ok+else-masks_ok, else-head_ok-via-else-head_ok}

-- the header and the masks are good
pub returns-then-masks_ok : goal.returns-then-masks_ok
returns-then-masks_ok c =
    let text = reply_good c.plant_end-end.ensures (sym c.masks_ok.ensures ∙ c.if-masks_ok.true) in
    record {
      long = rw text c.reply_masks.ensures.long;
      bytes = rw text c.reply_masks.ensures.bytes;
      first = reply_first;
      most = reply_most;
      afresh = reply_afresh;
    }

-- the masks are bad, or the header is
pub returns : goal.returns
returns c =
    let text =
    reply_unfit c.plant_end-end.ensures
    (elim c.else-head_ok.branch [
      | else-head_ok-via-then-head_ok+else-masks_ok w ↦ and_none _ _ (sym w.masks_ok.ensures ∙ w.if-masks_ok.false)
      | else-head_ok-via-else-head_ok w ↦ rw (sym c.head_ok.ensures ∙ w.if-head_ok.false) refl
    ])
    in
    record {
      long = rw text c.reply_bad.ensures.long;
      bytes = rw text c.reply_bad.ensures.bytes;
      first = reply_first;
      most = reply_most;
      afresh = reply_afresh;
    }
