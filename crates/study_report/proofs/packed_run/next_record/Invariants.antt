use Rattle.std.proofs.Common.{◌≡◌, length}
use Rattle.study_report.specs.Difference.{events_in}
use Rattle.study_report.proofs.packed_run.next_record.Given as goal

abbrev pub invariant-entries : goal.invariant-entries
invariant-entries l = events_in l.walk ≡ events_in l.fn.walk

abbrev pub decreases-entries : goal.decreases-entries
decreases-entries l = length l.walk
