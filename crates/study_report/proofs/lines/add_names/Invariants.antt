use Rattle.std.proofs.Common.{◌≡◌, ◌++◌, [], map, drop}
use Rattle.csv.specs.Records.{fields_of, partial_of}
use Rattle.study_report.proofs.lines.add_names.Given as goal

abbrev pub invariant-loop-probe : goal.invariant-loop-probe
invariant-loop-probe g l =
    (partial_of l.line ≡ [])
    × (fields_of l.line ++ map (λ b. (goal.Probe-dyn g (b.vtable, b.value)).title b.value) (drop l.probe-index l.probes)
    ≡ fields_of l.initial.line ++ map (λ b. (goal.Probe-dyn g (b.vtable, b.value)).title b.value) l.probes)
