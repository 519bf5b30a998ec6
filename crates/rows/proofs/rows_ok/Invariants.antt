use Rattle.rows.proofs.Rows.{RowsFine}
use Rattle.rows.proofs.rows_ok.Given as goal

abbrev pub invariant-loop-state : goal.invariant-loop-state
invariant-loop-state l = RowsFine l.book l.kept l.state
