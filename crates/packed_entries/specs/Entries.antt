-- The entries that marks and columns are.
use Rattle.std.specs.Prelude.{◌≡◌, ◌<◌, ◌≤◌, ℕ, ◌+◌, ◌^◌, pos, Bool, if◌then◌else◌, List, [], ◌∷◌, length, take, drop, Option, Some, None, slice_get}
use Rattle.market_types.specs.declared.order.Enter.{Enter}
use Rattle.market_types.specs.declared.order.Cancel.{Cancel}
use Rattle.market_types.specs.declared.order.Inbound.TheVariants as inbound
use Rattle.market_types.specs.declared.reply.Reply.TheVariants as reply
use Rattle.market_types.specs.declared.message.Quote.{Quote}
use Rattle.market_types.specs.declared.message.Body.{Body}
use Rattle.market_types.specs.declared.message.Body.TheVariants as body
use Rattle.market_types.specs.declared.feed.Feed.{Feed}
use Rattle.market_types.specs.Told.{EntryTold, EventTold, EditTold, event, edit}
use Rattle.packed_entries.specs.declared.mark.Kind.{Kind}
use Rattle.packed_entries.specs.declared.mark.Kind.TheVariants as kind
use Rattle.packed_entries.specs.declared.mark.Mark.{Mark}
use Rattle.packed_entries.specs.declared.mark.Accepted.{Accepted}
use Rattle.packed_entries.specs.declared.mark.Short.{Short}
use Rattle.packed_entries.specs.declared.mark.Extra.{Extra}
use Rattle.packed_entries.specs.declared.mark.EditHead.{EditHead}
use Rattle.packed_entries.specs.Kinds.{is_edit, enters_in, cancels_in, accepted_in, shorts_in, quotes_in, edits_in}
use Rattle.packed_entries.specs.Parts.{Parts, nothing}

-- what is made of an item, or this where there is none
abbrev pub made_of : {A X : Type 0} → (A → X) → X → Option A → X
made_of f d None = d
made_of f d (Some x) = f x

-- what is made of the first item, or this where there is none
abbrev pub first : {A X : Type 0} → (A → X) → X → List A → X
first f d xs = made_of f d (slice_get xs 0)

-- the same where a flag is set
abbrev pub first_if : {A X : Type 0} → Bool → (A → X) → X → List A → X
first_if b f d xs = if b then first f d xs else d

-- ---- the body of an event, from the first items of the columns

abbrev pub entered : Enter → Body
entered e = body.Order (inbound.Enter e)

abbrev pub cancelled : Cancel → Body
cancelled c = body.Order (inbound.Cancel c)

abbrev pub accepted : Accepted → Body
accepted a = body.Answer (reply.Accepted a.time a.token a.side a.shares a.stock a.price a.tif a.firm a.display a.reference a.capacity a.sweep a.minimum a.cross a.state a.bbo)

abbrev pub system : Short → Body
system s = body.Answer (reply.System s.time s.letter)

abbrev pub lowered : Short → Body
lowered s = body.Answer (reply.Canceled s.time s.token s.shares s.letter)

abbrev pub executed : Short → Body
executed s = body.Answer (reply.Executed s.time s.token s.shares s.price s.letter s.number)

abbrev pub rejected : Short → Body
rejected s = body.Answer (reply.Rejected s.time s.token s.letter)

abbrev pub quoted : Quote → Body
quoted q = body.Quote q

abbrev pub body_in : Kind → ℕ → Parts → Body
body_in kind.Wake stock p = body.Wake
body_in kind.Ask stock p = body.Ask stock
body_in kind.Enter stock p = first entered body.Wake p.enters
body_in kind.Cancel stock p = first cancelled body.Wake p.cancels
body_in kind.Quote stock p = first quoted body.Wake p.quotes
body_in kind.System stock p = first system body.Wake p.shorts
body_in kind.Accepted stock p = first accepted body.Wake p.accepted
body_in kind.Canceled stock p = first lowered body.Wake p.shorts
body_in kind.Executed stock p = first executed body.Wake p.shorts
body_in kind.Rejected stock p = first rejected body.Wake p.shorts
body_in kind.Edit stock p = body.Wake

-- ---- the numbers of an entry that stand in its mark, or elsewhere

-- from the mark alone
abbrev pub short : Mark → Extra
short m = record { seq = m.seq; until = m.time + m.later; fee = pos 0; before = m.before; after = m.after }

abbrev pub extra_in : Mark → List Extra → Extra
extra_in m xs = first_if m.is_more (λ (x : Extra). x) (short m) xs

abbrev pub extras_in : Bool → ℕ
extras_in more = if more then 1 else 0

-- ---- the first entry, and the columns behind it

abbrev pub event_with : Mark → Extra → Body → List Feed → List Feed → EventTold
event_with m x body before after = record {
  number = m.number;
  time = m.time;
  seq = x.seq;
  from = m.from;
  to = m.to;
  put_back = m.put_back;
  until = x.until;
  fee = x.fee;
  body = body;
  before = before;
  after = after;
}

-- the messages of the feed before an event, of the event itself, and those behind them
abbrev pub feed_before : Extra → List Feed → List Feed
feed_before x feed = take x.before feed

abbrev pub feed_after : Extra → List Feed → List Feed
feed_after x feed = take x.after (drop x.before feed)

abbrev pub feed_behind : Extra → List Feed → List Feed
feed_behind x feed = drop x.after (drop x.before feed)

abbrev pub event_in : Mark → Parts → EventTold
event_in m p = event_with m (extra_in m p.extras) (body_in m.kind m.stock p) (feed_before (extra_in m p.extras) p.feed) (feed_after (extra_in m p.extras) p.feed)

abbrev pub with_feed : List Feed → EditHead → EditTold
with_feed feed d = record { events = d.events; time = d.time; branch = d.branch; index = d.index; letter = d.letter; feed = feed }

abbrev pub no_edit : EditTold
no_edit = record { events = 0; time = 0; branch = 0; index = 0; letter = 0; feed = [] }

abbrev pub edit_in : Mark → Parts → EditTold
edit_in m p = first (with_feed (feed_before (extra_in m p.extras) p.feed)) no_edit p.edits

abbrev pub entry_in : Mark → Parts → EntryTold
entry_in m p = if is_edit m.kind then edit (edit_in m p) else event (event_in m p)

abbrev pub left_by : Mark → Parts → Parts
left_by m p = record {
  enters = drop (enters_in m.kind) p.enters;
  cancels = drop (cancels_in m.kind) p.cancels;
  accepted = drop (accepted_in m.kind) p.accepted;
  shorts = drop (shorts_in m.kind) p.shorts;
  quotes = drop (quotes_in m.kind) p.quotes;
  extras = drop (extras_in m.is_more) p.extras;
  edits = drop (edits_in m.kind) p.edits;
  feed = feed_behind (extra_in m p.extras) p.feed;
}

-- the columns have what a mark's entry has of them
pub record HasFor (m : Mark) (p : Parts) : Type 0 where
  pub enters : enters_in m.kind ≤ length p.enters
  pub cancels : cancels_in m.kind ≤ length p.cancels
  pub accepted : accepted_in m.kind ≤ length p.accepted
  pub shorts : shorts_in m.kind ≤ length p.shorts
  pub quotes : quotes_in m.kind ≤ length p.quotes
  pub extras : extras_in m.is_more ≤ length p.extras
  pub edits : edits_in m.kind ≤ length p.edits
  pub feed : (extra_in m p.extras).before + (extra_in m p.extras).after ≤ length p.feed
  pub until : m.time + m.later < 2 ^ 64

-- ---- all entries

abbrev pub entries_of : List Mark → Parts → List EntryTold
entries_of [] p = []
entries_of (m ∷ ms) p = entry_in m p ∷ entries_of ms (left_by m p)

-- the columns have what the entries have, and no more
abbrev pub IsWhole : List Mark → Parts → Type 0
IsWhole [] p = p ≡ nothing
IsWhole (m ∷ ms) p = HasFor m p × IsWhole ms (left_by m p)
