use Rattle.std.proofs.Common.{◌≡◌, map, take, drop}
use Rattle.probe_desk.specs.Probe.{seen}
use Rattle.probe_desk.proofs.watching.watch.Given as goal

abbrev pub invariant-loop-probe : goal.invariant-loop-probe
invariant-loop-probe g l =
    (map (λ b. (goal.Probe-dyn g (b.vtable, b.value)).numbers b.value) (take l.probe-index l.probes)
    ≡ map (λ b. seen ((goal.Probe-dyn g (b.vtable, b.value)).meaning b.value) ((goal.Probe-dyn g (b.vtable, b.value)).numbers b.value) l.records.list) (take l.probe-index l.fn.probes))
    × (map (λ b. (goal.Probe-dyn g (b.vtable, b.value)).meaning b.value) (take l.probe-index l.probes)
    ≡ map (λ b. (goal.Probe-dyn g (b.vtable, b.value)).meaning b.value) (take l.probe-index l.fn.probes))
    × (map (λ b. (goal.Probe-dyn g (b.vtable, b.value)).title b.value) (take l.probe-index l.probes)
    ≡ map (λ b. (goal.Probe-dyn g (b.vtable, b.value)).title b.value) (take l.probe-index l.fn.probes))
    × (drop l.probe-index l.probes ≡ drop l.probe-index l.fn.probes)
