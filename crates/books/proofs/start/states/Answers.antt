-- A state more is listed.
use Rattle.std.proofs.Common.{◌≡◌, ◌∙◌, arith}
use Rattle.statements.specs.Sets.{numbers}
use Rattle.statements.specs.Plants.{plant_of}
use Rattle.sets.proofs.Over.{over_none}
use Rattle.books.proofs.Started.{states_more}
use Rattle.books.proofs.start.states.Goals as goal

pub loop-x-init : goal.loop-x-init
unfolding plant_of numbers
loop-x-init c =
    record {
      room = omega (arith, c.requires, c.number-count.ensures);
      listed = over_none _;
    }

pub loop-x-preserved : goal.loop-x-preserved
loop-x-preserved c =
    let inv = c.loop-x.invariant in
    record {
      room = inv.room;
      listed = rw c.from.ensures (states_more _ _ c.loop-x.x (omega (arith, inv.room, c.loop-x.auto.list)) inv.listed);
    }

pub returns : goal.returns
unfolding plant_of
returns c =
    let end : c.loop-x.x ≡ c.number-count.result = omega arith in
    record {
      number = c.from-2.ensures ∙ c.number-count.ensures;
      list = rw (end ∙ c.number-count.ensures) at c.loop-x.invariant.listed;
    }
