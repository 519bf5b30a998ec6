-- The row that is handed back tells whether the call is accepted, and then it stands within the book.
use Rattle.std.proofs.Common.{arith, ◌∙◌}
use Rattle.planbook_c.proofs.Parts.{row_none, row_some, part_refused, part_given, part_fits}
use Rattle.planbook_c.proofs.planbook_row.Goals as goal

pub returns-then-row-eq0 : goal.returns-then-row-eq0
returns-then-row-eq0 c =
    let a = c.args in
    let row = c.state_row-row in
    part_refused a.book.now a.state _ (c.from.ensures.number ∙ c.consult_book.ensures.consult_says.number)
    (row_none a.book.now a.state row.result.now row.ensures.row_says.empty c.if-row-eq0.true)

pub overflow_cast-result : goal.overflow_cast-result
overflow_cast-result c =
    let a = c.args in
    let row = c.state_row-row in
    let given = row_some a.book.now a.state row.result.now row.ensures.row_says.empty c.if-row-eq0.false in
    omega (
      arith,
      (part_fits a.book.now a.state _ row.result.now given c.row_place.ensures row.ensures.row_says.bytes).0,
    )

pub overflow_cast-result-2 : goal.overflow_cast-result-2
overflow_cast-result-2 c =
    let a = c.args in
    let row = c.state_row-row in
    let given = row_some a.book.now a.state row.result.now row.ensures.row_says.empty c.if-row-eq0.false in
    omega (
      arith,
      (part_fits a.book.now a.state _ row.result.now given c.row_place.ensures row.ensures.row_says.bytes).1,
    )

pub returns : goal.returns
returns c =
    let a = c.args in
    let row = c.state_row-row in
    let given = row_some a.book.now a.state row.result.now row.ensures.row_says.empty c.if-row-eq0.false in
    part_given a.book.now a.state _ row.result.now given c.row_place.ensures row.ensures.row_says.bytes
