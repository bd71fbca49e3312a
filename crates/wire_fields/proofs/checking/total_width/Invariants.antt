use Rattle.std.proofs.Common.{◌≡◌, ◌+◌, drop}
use Rattle.wire_fields.specs.Wire.{total_width}
use Rattle.wire_fields.proofs.checking.total_width.Given as goal

abbrev pub invariant-loop-kind : goal.invariant-loop-kind
invariant-loop-kind l = l.total + total_width (drop l.kind-index l.kinds) ≡ total_width l.kinds
