-- The dropped states among those passed are written.
use Rattle.writing.proofs.Drops.{DropsSoFar}
use Rattle.writing.proofs.dropped.Given as goal

abbrev pub invariant-loop-state : goal.invariant-loop-state
invariant-loop-state l = DropsSoFar l.before l.after l.fn.drops l.drops l.states l.state l.at
