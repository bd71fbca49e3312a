use Rattle.std.proofs.Common.{◌∙◌, ◌++◌, ap}
use Rattle.study_report.specs.Table.{line_of, row_fields}
use Rattle.study_report.proofs.OneMore.{one_text_at}
use Rattle.study_report.proofs.writing.put_rows.Goals as goal

pub loop-row-preserved : goal.loop-row-preserved
loop-row-preserved c =
    let e = c.in_ok-put_line.ensures in
    let old = c.loop-row.writer.wtr.inner.items ++ c.loop-row.writer.wtr.buf in
    let after = e.text ∙ ap (λ fields. old ++ line_of fields) c.in_ok-line.ensures in
    (e.setup, e.fields, e.wrote, one_text_at (λ r. line_of (row_fields r)) c.args.rows.now c.loop-row.row-index c.row-item.result _ _ c.loop-row-test.true c.row-item.is after ∙ c.loop-row.invariant.3)
