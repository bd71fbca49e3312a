-- The feed that the entries of a trace tell.
use Rattle.std.specs.Prelude.{List, ◌++◌}
use Rattle.std.specs.List.{flat_map}
use Rattle.market_types.specs.declared.feed.Feed.{Feed}
use Rattle.market_types.specs.Told.{EntryTold, event, edit}

-- an entry's part of it: that of the dated changes before an event and that of the event, or that of an edit
abbrev pub entry_feed : EntryTold → List Feed
entry_feed (event e) = e.before ++ e.after
entry_feed (edit d) = d.feed

-- the feed of entries, one after another
abbrev pub entries_feed : List EntryTold → List Feed
entries_feed entries = flat_map entry_feed entries
