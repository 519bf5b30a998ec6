use Rattle.listing.proofs.Writing.{counted_short, counted_whole}
use Rattle.listing.proofs.refused_text.Goals as goal

pub returns-then-out-long : goal.returns-then-out-long
returns-then-out-long c =
    let w = counted_short c.args.out.now c.put_refused-long.ensures c.if-out-long.true in
    record { long = w.0; bytes = w.1 }

pub returns : goal.returns
returns c =
    let w = counted_whole c.args.out.now c.put_refused-long.ensures c.if-out-long.false c.put_refused.ensures in
    record { long = w.0; bytes = w.1 }
