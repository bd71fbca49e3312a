-- Entries as reading splits their feed.
use Rattle.std.specs.Prelude.{List, [], ◌∷◌, if◌then◌else◌}
use Rattle.market_types.specs.declared.feed.Feed.{Feed}
use Rattle.market_types.specs.Told.{EntryTold, EditTold, event, edit}
use Rattle.bundle_reader.specs.Order.{belongs}

-- an edit that an event follows before which these messages stand: the first is the edit's where it belongs to the edit
abbrev pub with_first : EditTold → List Feed → EditTold
with_first d [] = d
with_first d (m ∷ rest) = if belongs d m then record d { feed = m ∷ [] } else d

-- the messages that are left before the event
abbrev pub without_first : EditTold → List Feed → List Feed
without_first d [] = []
without_first d (m ∷ rest) = if belongs d m then rest else m ∷ rest

-- Entries as they are read. One thing is read otherwise than it was made: where an event follows a halt or a resume that gave
-- no feed, the first trading action of the event's dated changes is the edit's, if both have one time.
abbrev pub as_read : List EntryTold → List EntryTold
as_read [] = []
as_read (event e ∷ rest) = event e ∷ as_read rest
as_read (edit d ∷ []) = edit d ∷ []
as_read (edit d ∷ edit next ∷ rest) = edit d ∷ as_read (edit next ∷ rest)
as_read (edit d ∷ event e ∷ rest) = edit (with_first d e.before) ∷ event (record e { before = without_first d e.before }) ∷ as_read rest
