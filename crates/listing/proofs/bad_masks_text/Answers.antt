use Rattle.listing.specs.Text.{bad_masks_text}
use Rattle.listing.proofs.Writing.{placed_none, placed_whole}
use Rattle.listing.proofs.bad_masks_text.Goals as goal

pub returns-then-out-lt10 : goal.returns-then-out-lt10
unfolding bad_masks_text
returns-then-out-lt10 c =
    let w = placed_none bad_masks_text c.args.out.now c.if-out-lt10.true in
    record { long = w.0; bytes = w.1 }

pub returns : goal.returns
unfolding bad_masks_text
returns c =
    let w = placed_whole c.put_text.ensures c.if-out-lt10.false in
    record { long = w.0; bytes = w.1 }
