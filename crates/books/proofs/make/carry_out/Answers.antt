-- The book of a making is written, or plant or index is refused, and nothing is written.
use Rattle.std.proofs.Common.{is_some}
use Rattle.refusals.proofs.Ahead.{make_parts}
use Rattle.graph.specs.Packed.{lent_bytes}
use Rattle.books.proofs.Answered.{make_none, make_done}
use Rattle.books.proofs.make.carry_out.Goals as goal

pub book-requires : goal.book-requires
book-requires c = let parts = make_parts _ _ _ c.requires in record { head = parts.0; room = parts.2 }

pub returns-in_default : goal.returns-in_default
returns-in_default c =
    make_none (is_some c.args.way.index) (lent_bytes c.args.way.index) c.args.plant.now c.args.way.mask c.args.out.now c.requires
    c.in_default.ensures.bytes _ c.in_default.ensures.long c.refused.ensures c.check.ensures

pub returns : goal.returns
returns c =
    make_done (is_some c.args.way.index) (lent_bytes c.args.way.index) c.args.plant.now c.args.way.mask c.args.out.now c.requires
    c.in-Some.ensures.bytes c.in-Some.ensures.long
