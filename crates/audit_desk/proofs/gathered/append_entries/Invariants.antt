use Rattle.std.proofs.Common.{◌≡◌, ◌++◌, map, drop}
use Rattle.market_types.specs.Told.{entry_told}
use Rattle.feed_rebuild.specs.Feeds.{entries_feed}
use Rattle.audit_desk.proofs.gathered.append_entries.Given as goal

-- what was appended and what is still to come
abbrev pub invariant-loop-entry : goal.invariant-loop-entry
invariant-loop-entry l =
    l.feed.list ++ entries_feed (map entry_told (drop l.entry-index l.entries)) ≡ l.initial.feed.list ++ entries_feed (map entry_told l.entries)
