-- The allowed states are struck out of the list of all states: the book within them is that of a making.
use Rattle.std.proofs.Common.{is_some, arith}
use Rattle.refusals.proofs.Ahead.{plant_few}
use Rattle.graph.specs.Packed.{lent_bytes}
use Rattle.books.proofs.Made.{made_struck}
use Rattle.books.proofs.make.book.Goals as goal

pub states-all-requires : goal.states-all-requires
states-all-requires c = record { room = plant_few c.args.plant.now c.requires.head }

pub allowed-kept-requires : goal.allowed-kept-requires
allowed-kept-requires c =
    record {
      head = c.requires.head;
      room =
          omega (arith, c.states-all.ensures.number, plant_few c.args.plant.now c.requires.head, c.states-all.auto.list);
    }

pub returns : goal.returns
returns c =
    let written = made_struck (is_some c.args.way.index) (lent_bytes c.args.way.index) c.args.plant.now c.args.way.mask c.args.out.now
    c.allowed-kept.new.list _ c.requires.head c.requires.room c.states-all.ensures.number c.states-all.ensures.list (omega (arith, c.states-all.auto.list))
    c.allowed-kept.auto.list c.allowed-kept.ensures.number c.allowed-kept.ensures.still c.book.ensures.long
    c.book.ensures.bytes in
    record { long = written.0; bytes = written.1 }
