use Rattle.std.proofs.Common.{◌≡◌, map}
use Rattle.study_report.specs.Tables.{rows_of}
use Rattle.study_report.proofs.tables.add_rows.Given as goal

abbrev pub invariant-loop-b : goal.invariant-loop-b
invariant-loop-b g l =
    (l.rows.items ≡ rows_of l.course (map (λ p. (goal.Probe-dyn g (p.vtable, p.value)).meaning p.value) l.fn.probes) l.b)
    × (map (λ p. (goal.Probe-dyn g (p.vtable, p.value)).meaning p.value) l.probes
    ≡ map (λ p. (goal.Probe-dyn g (p.vtable, p.value)).meaning p.value) l.fn.probes)
    × (map (λ p. (goal.Probe-dyn g (p.vtable, p.value)).title p.value) l.probes
    ≡ map (λ p. (goal.Probe-dyn g (p.vtable, p.value)).title p.value) l.fn.probes)
