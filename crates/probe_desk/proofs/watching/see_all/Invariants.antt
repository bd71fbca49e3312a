use Rattle.std.proofs.Common.{◌≡◌, map, take, drop}
use Rattle.market_types.specs.Told.{event_told}
use Rattle.probe_desk.proofs.watching.see_all.Given as goal

abbrev pub invariant-loop-probe : goal.invariant-loop-probe
invariant-loop-probe g l =
    (map (λ b. (goal.Probe-dyn g (b.vtable, b.value)).numbers b.value) (take l.probe-index l.probes)
    ≡ map (λ b. ((goal.Probe-dyn g (b.vtable, b.value)).meaning b.value).after ((goal.Probe-dyn g (b.vtable, b.value)).numbers b.value) (event_told l.event)) (take l.probe-index l.fn.probes))
    × (map (λ b. (goal.Probe-dyn g (b.vtable, b.value)).meaning b.value) (take l.probe-index l.probes)
    ≡ map (λ b. (goal.Probe-dyn g (b.vtable, b.value)).meaning b.value) (take l.probe-index l.fn.probes))
    × (map (λ b. (goal.Probe-dyn g (b.vtable, b.value)).title b.value) (take l.probe-index l.probes)
    ≡ map (λ b. (goal.Probe-dyn g (b.vtable, b.value)).title b.value) (take l.probe-index l.fn.probes))
    × (drop l.probe-index l.probes ≡ drop l.probe-index l.fn.probes)
