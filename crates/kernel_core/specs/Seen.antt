-- What an event tells where it stands, and what a keeper takes of a run.
use Rattle.std.specs.Prelude.{List, [], ◌∷◌, ◌++◌, Option, Some, None}
use Rattle.market_types.specs.declared.feed.Feed.{Feed}
use Rattle.market_types.specs.declared.message.Message.{Message}
use Rattle.market_types.specs.Told.{EntryTold, EventTold, event, edit}
use Rattle.event_queue.specs.Dues.{vacant}
use Rattle.event_queue.specs.Waiting.{least}
use Rattle.kernel_core.specs.declared.keeper.EventSeen.{EventSeen}
use Rattle.kernel_core.specs.State.{State}
use Rattle.kernel_core.specs.Until.{Run}

-- what is seen of an event, with the feed of the dated changes before it and its own
abbrev pub seen_told : EventSeen → List Feed → List Feed → EventTold
seen_told e before after = record {
  number = e.number;
  time = e.time;
  seq = e.seq;
  from = e.from;
  to = e.to;
  put_back = e.put_back;
  until = e.until;
  fee = e.fee;
  body = e.body.now;
  before = before;
  after = after;
}

abbrev pub message_or_vacant : Option Message → Message
message_or_vacant None = vacant
message_or_vacant (Some m) = m

-- the least waiting message, where one waits
abbrev pub first_waiting : State → Message
first_waiting s = message_or_vacant (least s.post.waiting)

-- a state with no entries before it
abbrev pub afresh : State → Run
afresh s = record { state = s; entries = [] }

-- entries with one event more
abbrev pub listed : List EntryTold → EventTold → List EntryTold
listed es e = es ++ event e ∷ []

-- What was taken once the events among these entries came in order, where one event more changes it so. An edit's mark is no
-- event, and changes nothing.
abbrev pub folded : {T : Type 0} → (T → EventTold → T) → T → List EntryTold → T
folded {T} take t [] = t
folded {T} take t (event e ∷ es) = folded take (take t e) es
folded {T} take t (edit m ∷ es) = folded take t es

-- an entry is an event, and no edit's mark
abbrev pub IsEvent : EntryTold → Type 0
IsEvent (event e) = Unit {0}
IsEvent (edit m) = ⊥
