-- After k arrows these are passed and laid out in the table, which has room for all.
use Rattle.statements.specs.Plants.{word}
use Rattle.layout.specs.Passing.{Room}
use Rattle.layout.proofs.Storing.{PassedIn}
use Rattle.layout.proofs.pass.lay.Given as goal

abbrev pub invariant-loop-k : goal.invariant-loop-k
invariant-loop-k l =
    record {
      room : Room (word 3 l.plant) l.room l.table l.states;
      passed : PassedIn l.plant l.mask l.k l.least l.groups l.arrows l.room l.table l.states;
    }
