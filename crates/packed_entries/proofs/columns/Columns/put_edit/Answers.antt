use Rattle.std.proofs.Common.{ap, arith}
use Rattle.packed_entries.proofs.columns.Columns.put_edit.Goals as goal

pub returns-clause-room : goal.returns-clause-room
returns-clause-room c = λ n m lt h. record {
  enters = omega (arith, lt, h.enters);
  cancels = omega (arith, lt, h.cancels);
  accepted = omega (arith, lt, h.accepted);
  shorts = omega (arith, lt, h.shorts);
  quotes = omega (arith, lt, h.quotes);
  extras = omega (arith, lt, h.extras, c.put_edit_extra.ensures.room);
  edits = omega (arith, lt, h.edits, ap (λ r. r.spare) c.put.ensures);
}
