use Rattle.std.proofs.Common.{arith}
use Rattle.packed_entries.proofs.columns.Columns.expect.Goals as goal

pub returns-clause-room : goal.returns-clause-room
returns-clause-room c = λ n h. record {
  enters = omega (arith, h.enters, c.reserve.ensures.never_falls);
  cancels = omega (arith, h.cancels, c.reserve-2.ensures.never_falls);
  accepted = omega (arith, h.accepted, c.reserve-3.ensures.never_falls);
  shorts = omega (arith, h.shorts, c.reserve-4.ensures.never_falls);
  quotes = omega (arith, h.quotes, c.reserve-5.ensures.never_falls);
  extras = h.extras;
  edits = h.edits;
}
