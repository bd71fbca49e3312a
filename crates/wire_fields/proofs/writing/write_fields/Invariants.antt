use Rattle.std.proofs.Common.{drop, map}
use Rattle.wire_fields.specs.Values.{told}
use Rattle.wire_fields.specs.Wire.{total_width, spelled_fields}
use Rattle.wire_fields.proofs.Tables.{IsWritten}
use Rattle.wire_fields.proofs.writing.write_fields.Given as goal

abbrev pub invariant-loop-i : goal.invariant-loop-i
invariant-loop-i l =
    IsWritten (drop l.i l.kinds) (drop l.i l.values) l.at (spelled_fields l.kinds (map told l.values)) (total_width l.kinds) l.initial.out l.out
