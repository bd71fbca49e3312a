use Rattle.std.proofs.Common.{◌≡◌, ◌*◌, ◌^◌, ◌≤◌}
use Rattle.trace_bundle.specs.Report.{events_before}
use Rattle.trace_bundle.proofs.ends.events_of_all.Given as goal

abbrev pub invariant-loop-branch : goal.invariant-loop-branch
invariant-loop-branch g l = (l.events ≡ events_before l.course l.branch) × (l.events ≤ l.branch * 2 ^ 32)
