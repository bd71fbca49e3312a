-- The mark and the parts of one entry.
use Rattle.std.specs.Prelude.{ℕ, ◌-◌, pos, Bool, false, if◌then◌else◌, List, [], ◌∷◌, ◌++◌, length, replicate}
use Rattle.market_types.specs.declared.order.Enter.{Enter}
use Rattle.market_types.specs.declared.order.Cancel.{Cancel}
use Rattle.market_types.specs.declared.order.Inbound.{Inbound}
use Rattle.market_types.specs.declared.order.Inbound.TheVariants as inbound
use Rattle.market_types.specs.declared.reply.Reply.{Reply}
use Rattle.market_types.specs.declared.reply.Reply.TheVariants as reply
use Rattle.market_types.specs.declared.message.Quote.{Quote}
use Rattle.market_types.specs.declared.message.Body.{Body}
use Rattle.market_types.specs.declared.message.Body.TheVariants as body
use Rattle.market_types.specs.Told.{EventTold, EditTold}
use Rattle.packed_entries.specs.declared.mark.Kind.{Kind}
use Rattle.packed_entries.specs.declared.mark.Kind.TheVariants as kind
use Rattle.packed_entries.specs.declared.mark.Mark.{Mark}
use Rattle.packed_entries.specs.declared.mark.Accepted.{Accepted}
use Rattle.packed_entries.specs.declared.mark.Short.{Short}
use Rattle.packed_entries.specs.declared.mark.Extra.{Extra}
use Rattle.packed_entries.specs.declared.mark.EditHead.{EditHead}
use Rattle.packed_entries.specs.Parts.{Parts}

abbrev pub kind_of_order : Inbound → Kind
kind_of_order (inbound.Enter e) = kind.Enter
kind_of_order (inbound.Cancel c) = kind.Cancel

abbrev pub kind_of_reply : Reply → Kind
kind_of_reply (reply.System time code) = kind.System
kind_of_reply (reply.Accepted time token side shares stock price tif firm display reference capacity sweep minimum cross state bbo) = kind.Accepted
kind_of_reply (reply.Canceled time token decrement reason) = kind.Canceled
kind_of_reply (reply.Executed time token shares price flag number) = kind.Executed
kind_of_reply (reply.Rejected time token reason) = kind.Rejected

abbrev pub kind_of : Body → Kind
kind_of body.Wake = kind.Wake
kind_of (body.Order order) = kind_of_order order
kind_of (body.Answer reply) = kind_of_reply reply
kind_of (body.Ask stock) = kind.Ask
kind_of (body.Quote quote) = kind.Quote

abbrev pub stock_of : Body → ℕ
stock_of body.Wake = 0
stock_of (body.Order order) = 0
stock_of (body.Answer reply) = 0
stock_of (body.Ask stock) = stock
stock_of (body.Quote quote) = 0

-- ---- what a body has of each column

abbrev pub enters_sent : Inbound → List Enter
enters_sent (inbound.Enter e) = e ∷ []
enters_sent (inbound.Cancel c) = []

abbrev pub enters_of : Body → List Enter
enters_of body.Wake = []
enters_of (body.Order order) = enters_sent order
enters_of (body.Answer reply) = []
enters_of (body.Ask stock) = []
enters_of (body.Quote quote) = []

abbrev pub cancels_sent : Inbound → List Cancel
cancels_sent (inbound.Enter e) = []
cancels_sent (inbound.Cancel c) = c ∷ []

abbrev pub cancels_of : Body → List Cancel
cancels_of body.Wake = []
cancels_of (body.Order order) = cancels_sent order
cancels_of (body.Answer reply) = []
cancels_of (body.Ask stock) = []
cancels_of (body.Quote quote) = []

abbrev pub accepted_told : Reply → List Accepted
accepted_told (reply.System time code) = []
accepted_told (reply.Accepted time token side shares stock price tif firm display reference capacity sweep minimum cross state bbo) = record {
  time = time;
  reference = reference;
  shares = shares;
  price = price;
  tif = tif;
  minimum = minimum;
  token = token;
  stock = stock;
  firm = firm;
  side = side;
  display = display;
  capacity = capacity;
  sweep = sweep;
  cross = cross;
  state = state;
  bbo = bbo;
} ∷ []
accepted_told (reply.Canceled time token decrement reason) = []
accepted_told (reply.Executed time token shares price flag number) = []
accepted_told (reply.Rejected time token reason) = []

abbrev pub accepted_of : Body → List Accepted
accepted_of body.Wake = []
accepted_of (body.Order order) = []
accepted_of (body.Answer reply) = accepted_told reply
accepted_of (body.Ask stock) = []
accepted_of (body.Quote quote) = []

abbrev pub shorts_told : Reply → List Short
shorts_told (reply.System time code) = record { time = time; number = 0; shares = 0; price = 0; token = record { 0 = replicate 14 0 }; letter = code } ∷ []
shorts_told (reply.Accepted time token side shares stock price tif firm display reference capacity sweep minimum cross state bbo) = []
shorts_told (reply.Canceled time token decrement reason) = record { time = time; number = 0; shares = decrement; price = 0; token = token; letter = reason } ∷ []
shorts_told (reply.Executed time token shares price flag number) = record { time = time; number = number; shares = shares; price = price; token = token; letter = flag } ∷ []
shorts_told (reply.Rejected time token reason) = record { time = time; number = 0; shares = 0; price = 0; token = token; letter = reason } ∷ []

abbrev pub shorts_of : Body → List Short
shorts_of body.Wake = []
shorts_of (body.Order order) = []
shorts_of (body.Answer reply) = shorts_told reply
shorts_of (body.Ask stock) = []
shorts_of (body.Quote quote) = []

abbrev pub quotes_of : Body → List Quote
quotes_of body.Wake = []
quotes_of (body.Order order) = []
quotes_of (body.Answer reply) = []
quotes_of (body.Ask stock) = []
quotes_of (body.Quote quote) = quote ∷ []

-- ---- an event, and an edit, with a flag that says whether it has more than its mark has room for

-- a number in a mark, unless it stands elsewhere
abbrev pub low : Bool → ℕ → ℕ
low more n = if more then 0 else n

abbrev pub mark_of : Bool → EventTold → Mark
mark_of more e = record {
  time = e.time;
  number = e.number;
  seq = low more e.seq;
  later = low more (e.until - e.time);
  from = e.from;
  to = e.to;
  stock = stock_of e.body;
  before = low more (length e.before);
  after = low more (length e.after);
  kind = kind_of e.body;
  put_back = e.put_back;
  is_more = more;
}

abbrev pub extra_of : EventTold → Extra
extra_of e = record { seq = e.seq; until = e.until; fee = e.fee; before = length e.before; after = length e.after }

abbrev pub own_parts : Bool → EventTold → Parts
own_parts more e = record {
  enters = enters_of e.body;
  cancels = cancels_of e.body;
  accepted = accepted_of e.body;
  shorts = shorts_of e.body;
  quotes = quotes_of e.body;
  extras = if more then extra_of e ∷ [] else [];
  edits = [];
  feed = e.before ++ e.after;
}

abbrev pub edit_mark : Bool → EditTold → Mark
edit_mark more d = record {
  time = 0;
  number = 0;
  seq = 0;
  later = 0;
  from = 0;
  to = 0;
  stock = 0;
  before = low more (length d.feed);
  after = 0;
  kind = kind.Edit;
  put_back = false;
  is_more = more;
}

abbrev pub edit_head : EditTold → EditHead
edit_head d = record { events = d.events; time = d.time; branch = d.branch; index = d.index; letter = d.letter }

abbrev pub edit_extra : EditTold → Extra
edit_extra d = record { seq = 0; until = 0; fee = pos 0; before = length d.feed; after = 0 }

abbrev pub edit_parts : Bool → EditTold → Parts
edit_parts more d = record {
  enters = [];
  cancels = [];
  accepted = [];
  shorts = [];
  quotes = [];
  extras = if more then edit_extra d ∷ [] else [];
  edits = edit_head d ∷ [];
  feed = d.feed;
}
