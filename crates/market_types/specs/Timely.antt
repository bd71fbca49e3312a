-- Feed messages whose time a timestamp of six bytes holds.
use Rattle.std.specs.Prelude.{◌<◌, ◌^◌, List, All}
use Rattle.market_types.specs.declared.feed.Feed.{Feed}
use Rattle.market_types.specs.Told.{EntryTold, event, edit}

abbrev pub AreTimely : List Feed → Type 0
AreTimely feed = All (λ f. f.time < 2 ^ 48) feed

-- an entry's feed is timely: that of its dated changes and its own
abbrev pub IsTimely : EntryTold → Type 0
IsTimely (event e) = AreTimely e.before × AreTimely e.after
IsTimely (edit e) = AreTimely e.feed
