use Rattle.std.proofs.Common.{◌≡◌, List, drop, map}
use Rattle.feed_rebuild.specs.declared.entries.Entry.{Entry}
use Rattle.feed_rebuild.specs.declared.shown.Shown.{Shown}
use Rattle.feed_rebuild.specs.Compared.{first_odd, is_among}
use Rattle.feed_rebuild.specs.Entries.{kept}
use Rattle.feed_rebuild.proofs.compared.first_unmarked.Given as goal

abbrev pub invariant-loop-i : goal.invariant-loop-i
invariant-loop-i l = (live : List Shown) → l.marks ≡ map (λ (e : Entry). is_among live e.order) l.entries → first_odd live (kept (drop l.i l.entries)) ≡ first_odd live (kept l.entries)
