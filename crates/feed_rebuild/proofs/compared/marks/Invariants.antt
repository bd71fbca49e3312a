use Rattle.std.proofs.Common.{◌≡◌, map, take}
use Rattle.feed_rebuild.specs.declared.entries.Entry.{Entry}
use Rattle.feed_rebuild.specs.Compared.{is_among}
use Rattle.feed_rebuild.proofs.compared.marks.Given as goal

abbrev pub invariant-loop-order : goal.invariant-loop-order
invariant-loop-order l = l.marks.items ≡ map (λ (e : Entry). is_among (take l.order-index l.live) e.order) l.entries
