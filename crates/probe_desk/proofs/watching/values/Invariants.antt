use Rattle.std.proofs.Common.{◌≡◌, map, take}
use Rattle.probe_desk.proofs.watching.values.Given as goal

abbrev pub invariant-loop-probe : goal.invariant-loop-probe
invariant-loop-probe g l =
    l.all.items ≡ map (λ b. ((goal.Probe-dyn g (b.vtable, b.value)).meaning b.value).value ((goal.Probe-dyn g (b.vtable, b.value)).numbers b.value)) (take l.probe-index l.probes)
