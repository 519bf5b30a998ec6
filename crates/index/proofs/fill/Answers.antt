use Rattle.std.proofs.Common.{◌-◌, length, take, arith}
use borrow.Rule.Slice.PartMut.{mid_of, post_of}
use Rattle.decoding.proofs.Order.{count_few}
use Rattle.index.proofs.Filling.{filled}
use Rattle.index.proofs.fill.Goals as goal

pub head-requires : goal.head-requires
head-requires c =
    (omega (arith, c.requires.room), omega (arith, c.number-2.ensures, count_few _ c.requires.accepted))

pub returns : goal.returns
returns c =
    let l = c.head.new.numbers in
    filled c.args.plant.now (take 4 l) c.by_end.new.out (mid_of 4 (length l - 4) l) (post_of 4 (length l - 4) l)
    c.number.result c.number-2.result c.requires.accepted c.number.ensures c.number-2.ensures c.head.ensures
    c.by_end.ensures
