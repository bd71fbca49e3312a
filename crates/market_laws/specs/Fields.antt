-- The feed and the edits of a run among the fields that a bundle has for them.
use Rattle.std.specs.Prelude.{◌<◌, ◌≤◌, All}
use Rattle.market_types.specs.Limits.{last_time, most_events}
use Rattle.market_types.specs.declared.feed.Feed.{Feed}
use Rattle.market_types.specs.Told.{EntryTold, EditTold, event, edit}
use Rattle.wire_fields.specs.Wire.{IsInRange}
use Rattle.itch_codec.specs.Messages.{feed_wire}
use Rattle.feed_rebuild.specs.Feeds.{entry_feed}

-- each field of a message is in its range
abbrev pub IsFeedInRange : Feed → Type 0
IsFeedInRange m = IsInRange (feed_wire m)

-- so it is of each message of an entry's feed
abbrev pub HasFeedInRange : EntryTold → Type 0
HasFeedInRange x = All IsFeedInRange (entry_feed x)

-- An edit's mark: after how many events and when it was made, and as which edit of which branch. Its letter is a byte.
pub record IsMark (d : EditTold) : Type 0 where
  pub events : d.events ≤ most_events
  pub time : d.time ≤ last_time
  pub branch : d.branch < 256
  pub index : d.index < 16
  pub letter : d.letter < 256

abbrev pub HasMark : EntryTold → Type 0
HasMark (event e) = Unit {0}
HasMark (edit d) = IsMark d
