use Rattle.std.proofs.Common.{pos}
use Rattle.study_market.proofs.Squares.{cell-here, cell-later}
use Rattle.study_market.proofs.cells.+cell_outside.Goals as goal

pub returns-in-Some-column_of : goal.returns-in-Some-column_of
returns-in-Some-column_of t c =
    cell-here (pos c.args.high) c.args.place c.args.rows.now c.in-Some.row.now c.in-Some.rest.now c.in-Some-column_of.column
    c.in-Some.ensures.cases.0 c.in-Some-column_of.ensures.column

pub returns-in-None-column_of : goal.returns-in-None-column_of
returns-in-None-column_of t c =
    cell-later (pos c.args.high) c.args.place c.args.rows.now c.in-Some.row.now c.in-Some.rest.now c.cell_outside.result
    c.in-Some.ensures.cases.0 c.in-None-column_of.ensures.column c.cell_outside.ensures
