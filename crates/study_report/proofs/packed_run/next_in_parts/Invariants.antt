use Rattle.std.proofs.Common.{◌≡◌, ◌++◌, drop}
use Rattle.std.specs.List.{flat_map}
use Rattle.study_report.specs.Difference.{events_in}
use Rattle.study_report.proofs.packed_run.next_in_parts.Given as goal

abbrev pub invariant-loop-i : goal.invariant-loop-i
invariant-loop-i l = events_in (flat_map (λ t. t.now.list) (drop l.i l.parts)) ≡ events_in (l.fn.walk ++ flat_map (λ t. t.now.list) (drop l.fn.place l.parts))
