use Rattle.std.proofs.Common.{◌≡◌, ◌+◌, drop, length}
use Rattle.wire_fields.specs.Wire.{total_width, bad_at}
use Rattle.wire_fields.proofs.checking.bad_at.Given as goal

-- what is left has room, and has the answer
abbrev pub invariant-loop-kind : goal.invariant-loop-kind
invariant-loop-kind l = record {
  room : l.at + total_width (drop l.kind-index l.kinds) ≡ length l.bytes;
  same : bad_at (drop l.kind-index l.kinds) l.at l.bytes ≡ bad_at l.kinds 1 l.bytes;
}
