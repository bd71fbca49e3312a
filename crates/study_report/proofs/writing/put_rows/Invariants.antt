use Rattle.std.proofs.Common.{◌≡◌, ◌++◌, false, drop}
use Rattle.std.specs.List.{flat_map}
use Rattle.csv.specs.Writing.{default_writer, fields_written, has_written, writer_setup}
use Rattle.study_report.specs.Table.{line_of, row_fields}
use Rattle.study_report.proofs.writing.put_rows.Given as goal

abbrev pub invariant-loop-row : goal.invariant-loop-row
invariant-loop-row l = (writer_setup l.writer ≡ default_writer) × (fields_written l.writer ≡ 0) × (has_written l.writer ≡ false)
    × ((l.writer.wtr.inner.items ++ l.writer.wtr.buf) ++ flat_map (λ r. line_of (row_fields r)) (drop l.row-index l.rows)
    ≡ (l.initial.writer.wtr.inner.items ++ l.initial.writer.wtr.buf) ++ flat_map (λ r. line_of (row_fields r)) l.rows)
