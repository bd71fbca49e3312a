use Rattle.std.proofs.Common.{◌≡◌, ◌<◌, ◌^◌, List, map, take}
use Rattle.market_types.specs.Told.{EntryTold}
use Rattle.probe_desk.specs.Probe.{column_of}
use Rattle.probe_desk.specs.Sums.{AreSums, moved}
use Rattle.probe_desk.proofs.watching.values_by_sums.Given as goal

abbrev pub invariant-loop-probe : goal.invariant-loop-probe
invariant-loop-probe g l =
    (es : List EntryTold) → AreSums l.sums es → moved es < 2 ^ 127
    → l.all.items ≡ map (λ b. column_of ((goal.Probe-dyn g (b.vtable, b.value)).meaning b.value) es) (take l.probe-index l.probes)
