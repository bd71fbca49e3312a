use Rattle.std.proofs.Common.{◌≡◌, map, take}
use Rattle.std.specs.List.{flat_map}
use Rattle.probe_desk.specs.Probe.{seen}
use Rattle.study_report.proofs.branch_row.columns.Given as goal

abbrev pub invariant-loop-part : goal.invariant-loop-part
invariant-loop-part g l =
    (map (λ b. (goal.Probe-dyn g (b.vtable, b.value)).numbers b.value) l.probes
    ≡ map (λ b. seen ((goal.Probe-dyn g (b.vtable, b.value)).meaning b.value) ((goal.Probe-dyn g (b.vtable, b.value)).meaning b.value).opening (flat_map (λ t. t.now.list) (take l.part-index l.part-items))) l.fn.probes)
    × (map (λ b. (goal.Probe-dyn g (b.vtable, b.value)).meaning b.value) l.probes
    ≡ map (λ b. (goal.Probe-dyn g (b.vtable, b.value)).meaning b.value) l.fn.probes)
    × (map (λ b. (goal.Probe-dyn g (b.vtable, b.value)).title b.value) l.probes
    ≡ map (λ b. (goal.Probe-dyn g (b.vtable, b.value)).title b.value) l.fn.probes)
