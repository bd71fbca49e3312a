use Rattle.std.proofs.Common.{◌≡◌, map, take}
use Rattle.market_types.specs.Told.{entry_told}
use Rattle.market_types.proofs.trace.copies_of.Given as goal

abbrev pub invariant-loop-entry : goal.invariant-loop-entry
invariant-loop-entry l = map entry_told l.copies.items ≡ map entry_told (take l.entry-index l.entries)
