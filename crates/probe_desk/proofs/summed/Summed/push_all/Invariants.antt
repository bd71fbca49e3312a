use Rattle.std.proofs.Common.{◌≡◌, ◌++◌, take, map}
use Rattle.market_types.specs.Told.{entry_told}
use Rattle.probe_desk.proofs.summed.Summed.push_all.Given as goal

abbrev pub invariant-loop-entry : goal.invariant-loop-entry
invariant-loop-entry l = l.self.list ≡ l.fn.self.list ++ map entry_told (take l.entry-index l.entries)
