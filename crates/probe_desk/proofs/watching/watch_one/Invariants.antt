use Rattle.std.proofs.Common.{◌≡◌, take, map}
use Rattle.market_types.specs.Told.{entry_told}
use Rattle.probe_desk.specs.Probe.{seen}
use Rattle.probe_desk.proofs.watching.watch_one.Given as goal

abbrev pub invariant-loop-entry : goal.invariant-loop-entry
invariant-loop-entry g l =
    let now = goal.Probe-dyn g l.probe.now in
    let first = goal.Probe-dyn g l.fn.probe.now in
    (now.numbers l.probe.now.1 ≡ seen (first.meaning l.fn.probe.now.1) (first.numbers l.fn.probe.now.1) (map entry_told (take l.entry-index l.entries)))
    × (now.meaning l.probe.now.1 ≡ first.meaning l.fn.probe.now.1)
    × (now.title l.probe.now.1 ≡ first.title l.fn.probe.now.1)
