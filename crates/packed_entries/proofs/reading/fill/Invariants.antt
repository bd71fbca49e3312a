use Rattle.std.proofs.Common.{◌≡◌, take}
use Rattle.packed_entries.proofs.reading.fill.Given as goal

abbrev pub invariant-loop-message : goal.invariant-loop-message
invariant-loop-message l = l.list.list ≡ take l.message-index l.feed
