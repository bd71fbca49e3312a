use Rattle.std.proofs.Common.{◌≡◌, length, map}
use Rattle.probe_desk.specs.Probe.{seen}
use Rattle.probe_desk.proofs.watching.watch_rest.Given as goal

abbrev pub invariant-entries : goal.invariant-entries
invariant-entries g l = record {
  numbers : map (λ b. seen ((goal.Probe-dyn g (b.vtable, b.value)).meaning b.value) ((goal.Probe-dyn g (b.vtable, b.value)).numbers b.value) l.walk) l.probes
      ≡ map (λ b. seen ((goal.Probe-dyn g (b.vtable, b.value)).meaning b.value) ((goal.Probe-dyn g (b.vtable, b.value)).numbers b.value) l.fn.walk) l.fn.probes;
  meanings : map (λ b. (goal.Probe-dyn g (b.vtable, b.value)).meaning b.value) l.probes ≡ map (λ b. (goal.Probe-dyn g (b.vtable, b.value)).meaning b.value) l.fn.probes;
  titles : map (λ b. (goal.Probe-dyn g (b.vtable, b.value)).title b.value) l.probes ≡ map (λ b. (goal.Probe-dyn g (b.vtable, b.value)).title b.value) l.fn.probes;
}

abbrev pub decreases-entries : goal.decreases-entries
decreases-entries g l = length l.walk
