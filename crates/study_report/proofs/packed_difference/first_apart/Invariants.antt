use Rattle.std.proofs.Common.{◌≡◌, length}
use Rattle.study_report.specs.Difference.{first_apart}
use Rattle.study_report.specs.PackedRuns.{left_in}
use Rattle.study_report.proofs.packed_difference.first_apart.Given as goal

abbrev pub invariant-records : goal.invariant-records
invariant-records l = first_apart (left_in l.own) (left_in l.other) ≡ first_apart (left_in l.fn.own) (left_in l.fn.other)

abbrev pub decreases-records : goal.decreases-records
decreases-records l = length (left_in l.own)
