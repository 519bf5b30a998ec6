-- After k turns the front holds those of the first k states whose label has bit 0.
use Rattle.std.proofs.Common.{get_or}
use Rattle.statements.specs.Sets.{bit}
use Rattle.books.proofs.Struck.{Struck}
use Rattle.books.proofs.start.strike_out.Given as goal

abbrev pub invariant-loop-k : goal.invariant-loop-k
invariant-loop-k l = Struck (λ x. bit 0 (get_or l.labels x 0)) l.count l.fn.list l.list l.kept l.k
