-- What each public call cites besides its own contract, clause by clause. Assumes nothing.
use Rattle.statements.specs.Demands.{Arriving, Demand2, InTurn, Returning, Demand3}
use Rattle.statements.specs.ByIndex.{ByIndex}
use Rattle.statements.specs.Elsewhere.{Elsewhere}
use Rattle.winning.proofs.Goals.{arriving}
use Rattle.demands.proofs.Demand2.{demand_2}
use Rattle.demands.proofs.Demand3.{demand_3}
use Rattle.demands.proofs.InTurn.{in_turn_lem}
use Rattle.demands.proofs.Returning.{returning}
use Rattle.demands.proofs.ByIndex.{by_index_lem}
use Rattle.demands.proofs.Elsewhere.{elsewhere}
use Rattle.promises.specs.Says.{Listed, Determined}
use Rattle.promises.specs.Rows.{Rows}
use Rattle.promises.specs.Written.{Demand2Written}
use Rattle.promises.specs.Previews.{Previews}
use Rattle.promises.specs.Traces.{Demand3Traced}
use Rattle.promises.specs.InTurn.{InTurnTraced}
use Rattle.promises.specs.Returning.{ReturningTraced}
use Rattle.promises.specs.Indexed.{Indexed}
use Rattle.promises.specs.Elsewhere.{ElsewhereTraced}
use Rattle.promises.specs.Walks.{Walks}
use Rattle.promises.specs.Steps.{Steps}
use Rattle.promises.proofs.Listed.{lists_dropped}
use Rattle.promises.proofs.Rows.{rows}
use Rattle.promises.proofs.Previewed.{previewed}
use Rattle.promises.proofs.Determined.{determined}
use Rattle.promises.proofs.Indexed.{withdrawn_plain, indexed}
use Rattle.promises.proofs.Traces.{demand_3_traced}
use Rattle.promises.proofs.Elsewhere.{elsewhere_traced}
use Rattle.promises.proofs.InTurn.{in_turn_traced}
use Rattle.promises.proofs.Returning.{returning_traced}
use Rattle.promises.proofs.Written.{demand_2_written}
use Rattle.promises.proofs.Steps.{steps}
use Rattle.promises.proofs.Walked.{walks}

-- request (x), and that nothing is left open
of_elsewhere : Elsewhere × (ElsewhereTraced × Determined)
of_elsewhere = (elsewhere, (elsewhere_traced, determined))

pub of_make :
    Demand2 × (Demand2Written × (Demand3 × (Demand3Traced × (Elsewhere × (ElsewhereTraced × Determined)))))
of_make = (demand_2, (demand_2_written, (demand_3, (demand_3_traced, of_elsewhere))))

-- the drop list of a withdrawal, by an index or without one
listed : Listed
listed =
    record { dropped = lists_dropped; dropped_by = λ says z. lists_dropped (withdrawn_plain says z) z }

pub of_withdraw : Demand2 × (Demand2Written × (Demand3 × (Demand3Traced × (Listed × Determined))))
of_withdraw = (demand_2, (demand_2_written, (demand_3, (demand_3_traced, (listed, determined)))))

pub of_withdraw_list :
    Demand2Written × (Demand3 × (Demand3Traced × (InTurn × (InTurnTraced × Determined))))
of_withdraw_list = (demand_2_written, (demand_3, (demand_3_traced, (in_turn_lem, (in_turn_traced, determined)))))

pub of_return :
    Demand2Written × (Demand3 × (Demand3Traced × (Returning × (ReturningTraced × Determined))))
of_return = (demand_2_written, (demand_3, (demand_3_traced, (returning, (returning_traced, determined)))))

pub of_index : ByIndex × (Indexed × Determined)
of_index = (by_index_lem, (indexed, determined))

pub of_make_indexed :
    Demand2 × (Demand2Written × (Demand3 × (Demand3Traced × (ByIndex × (Indexed × (Elsewhere ×
    (ElsewhereTraced × Determined)))))))
of_make_indexed =
    (demand_2, (demand_2_written, (demand_3, (demand_3_traced, (by_index_lem, (indexed, of_elsewhere))))))

pub of_withdraw_indexed :
    Demand2 × (Demand2Written × (Demand3 × (Demand3Traced × (Listed × (ByIndex × (Indexed × Determined))))))
of_withdraw_indexed =
    (demand_2, (demand_2_written, (demand_3, (demand_3_traced, (listed, (by_index_lem, (indexed, determined)))))))

pub of_preview : Previews × Determined
of_preview = (previewed, determined)

pub of_consult : Arriving × (Walks × Determined)
of_consult = (arriving, (walks, determined))

pub of_step : Arriving × (Steps × Determined)
of_step = (arriving, (steps, determined))

pub of_moves : Arriving × (Walks × Determined)
of_moves = (arriving, (walks, determined))

pub of_row : Rows × Determined
of_row = (rows, determined)
