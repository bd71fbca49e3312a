use Rattle.std.proofs.Common.{ap, arith}
use Rattle.packed_entries.proofs.columns.Columns.put_event.Goals as goal

pub returns-clause-room : goal.returns-clause-room
returns-clause-room c = λ n m lt h. record {
  enters = omega (arith, lt, h.enters, c.put_body.ensures.enters_room);
  cancels = omega (arith, lt, h.cancels, c.put_body.ensures.cancels_room);
  accepted = omega (arith, lt, h.accepted, c.put_body.ensures.accepted_room);
  shorts = omega (arith, lt, h.shorts, c.put_body.ensures.shorts_room);
  quotes = omega (arith, lt, h.quotes, c.put_body.ensures.quotes_room);
  extras = omega (arith, lt, h.extras, ap (λ r. r.spare) c.put_body.ensures.extras, c.put_extra.ensures.room);
  edits = omega (arith, lt, h.edits, ap (λ r. r.spare) c.put_body.ensures.edits);
}
