use Rattle.std.proofs.Common.{◌≡◌, drop}
use Rattle.feed_rebuild.specs.Compared.{first_odd}
use Rattle.feed_rebuild.specs.Entries.{kept}
use Rattle.feed_rebuild.proofs.compared.first_alone.Given as goal

abbrev pub invariant-loop-entry : goal.invariant-loop-entry
invariant-loop-entry l = first_odd l.live (kept (drop l.entry-index l.entries)) ≡ first_odd l.live (kept l.entries)
