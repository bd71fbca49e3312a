use Rattle.std.specs.Prelude.{ℕ, ℤ, Bool, List}
use Rattle.market_types.specs.declared.message.Body.{Body}
use Rattle.market_types.specs.declared.feed.Feed.{Feed}
use Rattle.market_types.specs.declared.entry.Record.{Record}
use Rattle.market_types.specs.declared.entry.EditMark.{EditMark}
use Rattle.market_types.specs.declared.entry.Entry.{Entry}
use Rattle.market_types.specs.declared.entry.Entry.TheVariants.{Event, Edit}

-- An event of a trace as plain data: its feeds are bare lists, so that two events with equal contents are equal.
pub record EventTold : Type 0 where
  pub number : ℕ
  pub time : ℕ
  pub seq : ℕ
  pub from : ℕ
  pub to : ℕ
  pub put_back : Bool
  pub until : ℕ
  pub fee : ℤ
  pub body : Body
  pub before : List Feed
  pub after : List Feed

-- An edit of a trace as plain data.
pub record EditTold : Type 0 where
  pub events : ℕ
  pub time : ℕ
  pub branch : ℕ
  pub index : ℕ
  pub letter : ℕ
  pub feed : List Feed

-- An entry of a trace as plain data.
pub data EntryTold : Type 0 where
  event : EventTold → EntryTold
  edit : EditTold → EntryTold

-- what a record tells
abbrev pub event_told : Record → EventTold
event_told r = record {
  number = r.number;
  time = r.time;
  seq = r.seq;
  from = r.from;
  to = r.to;
  put_back = r.put_back;
  until = r.until;
  fee = r.fee;
  body = r.body;
  before = r.before.list;
  after = r.after.list;
}

-- what an edit's mark tells
abbrev pub edit_told : EditMark → EditTold
edit_told m = record {
  events = m.events;
  time = m.time;
  branch = m.branch;
  index = m.index;
  letter = m.letter;
  feed = m.feed.list;
}

-- what an entry tells
abbrev pub entry_told : Entry → EntryTold
entry_told (Event r) = event (event_told r)
entry_told (Edit m) = edit (edit_told m)
