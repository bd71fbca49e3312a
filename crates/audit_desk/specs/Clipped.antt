-- A bundle with each number as its field holds it. A field of so many bytes keeps a number's last ones, so a bundle and what
-- is clipped of it are written as the same bytes.
use Rattle.std.specs.Prelude.{◌<◌, ◌%◌, ◌^◌, ℕ, ℤ, map, length, All}
use Rattle.std.specs.Int.{cast_signed, cast_unsigned, w64, w128}
use Rattle.market_types.specs.declared.feed.Feed.{Feed}
use Rattle.market_types.specs.declared.feed.What.{What}
use Rattle.market_types.specs.declared.feed.What.TheVariants as what
use Rattle.market_types.specs.declared.message.Body.{Body}
use Rattle.market_types.specs.declared.message.Body.TheVariants as body
use Rattle.market_types.specs.declared.message.Quote.{Quote}
use Rattle.market_types.specs.declared.order.Inbound.{Inbound}
use Rattle.market_types.specs.declared.order.Inbound.TheVariants as inbound
use Rattle.market_types.specs.declared.reply.Reply.{Reply}
use Rattle.market_types.specs.declared.reply.Reply.TheVariants as reply
use Rattle.market_types.specs.Told.{EntryTold, EventTold, EditTold, event, edit}
use Rattle.bundle_frames.specs.declared.closing.Closing.{Closing}
use Rattle.bundle_frames.specs.declared.closing.ClosingAgent.{ClosingAgent}
use Rattle.bundle_frames.specs.declared.closing.ClosingCounts.{ClosingCounts}
use Rattle.bundle_frames.specs.declared.closing.ClosingOrder.{ClosingOrder}
use Rattle.bundle_frames.specs.declared.closing.ClosingStock.{ClosingStock}
use Rattle.branch_tree.specs.declared.branch.Branch.{Branch}
use Rattle.branch_tree.specs.Names.{IsNameLength}
use Rattle.kernel_copy.specs.Courses.{CourseTold}
use Rattle.bundle_reader.specs.Told.{BranchTold, BundleTold}

-- ---- numbers

-- a number as a field of so many bytes holds it
abbrev pub clipped_number : ℕ → ℕ → ℕ
clipped_number width n = n % 256 ^ width

-- a signed number as eight bytes in two's complement hold it
abbrev pub clipped_signed : ℤ → ℤ
clipped_signed z = cast_signed w64 (cast_unsigned w64 z % 2 ^ 64)

-- a signed number as sixteen bytes in two's complement hold it
abbrev pub clipped_wide : ℤ → ℤ
clipped_wide z = cast_signed w128 (cast_unsigned w128 z % 2 ^ 128)

-- ---- the feed

-- what a message says; texts and letters stay
abbrev pub clipped_what : What → What
clipped_what (what.System code) = what.System code
clipped_what (what.Directory stock category financial lot lots_only class sub_type authenticity short_sale ipo tier etp leverage inverse) =
    what.Directory stock category financial (clipped_number 4 lot) lots_only class sub_type authenticity short_sale ipo tier etp
    (clipped_number 4 leverage) inverse
clipped_what (what.Trading stock state reserved reason) = what.Trading stock state reserved reason
clipped_what (what.Add reference side shares stock price) =
    what.Add (clipped_number 8 reference) side (clipped_number 4 shares) stock (clipped_number 4 price)
clipped_what (what.Executed reference shares match_number) =
    what.Executed (clipped_number 8 reference) (clipped_number 4 shares) (clipped_number 8 match_number)
clipped_what (what.Cancel reference shares) = what.Cancel (clipped_number 8 reference) (clipped_number 4 shares)
clipped_what (what.Delete reference) = what.Delete (clipped_number 8 reference)
clipped_what (what.Trade reference side shares stock price match_number) =
    what.Trade (clipped_number 8 reference) side (clipped_number 4 shares) stock (clipped_number 4 price) (clipped_number 8 match_number)
clipped_what (what.Cross shares stock price match_number kind) =
    what.Cross (clipped_number 8 shares) stock (clipped_number 4 price) (clipped_number 8 match_number) kind

-- a message of the feed
abbrev pub clipped_feed : Feed → Feed
clipped_feed m = record {
  locate = clipped_number 2 m.locate;
  tracking = clipped_number 2 m.tracking;
  time = clipped_number 6 m.time;
  what = clipped_what m.what;
}

-- ---- the bodies of messages

-- an order to the exchange
abbrev pub clipped_inbound : Inbound → Inbound
clipped_inbound (inbound.Enter m) = inbound.Enter (record m {
  shares = clipped_number 4 m.shares;
  price = clipped_number 4 m.price;
  tif = clipped_number 4 m.tif;
  minimum = clipped_number 4 m.minimum;
})
clipped_inbound (inbound.Cancel m) = inbound.Cancel (record m { shares = clipped_number 4 m.shares })

-- a reply of the exchange
abbrev pub clipped_reply : Reply → Reply
clipped_reply (reply.System time code) = reply.System (clipped_number 8 time) code
clipped_reply (reply.Accepted time token side shares stock price tif firm display reference capacity sweep minimum cross state bbo) =
    reply.Accepted (clipped_number 8 time) token side (clipped_number 4 shares) stock (clipped_number 4 price) (clipped_number 4 tif) firm display
    (clipped_number 8 reference) capacity sweep (clipped_number 4 minimum) cross state bbo
clipped_reply (reply.Canceled time token decrement reason) =
    reply.Canceled (clipped_number 8 time) token (clipped_number 4 decrement) reason
clipped_reply (reply.Executed time token shares price flag match_number) =
    reply.Executed (clipped_number 8 time) token (clipped_number 4 shares) (clipped_number 4 price) flag (clipped_number 8 match_number)
clipped_reply (reply.Rejected time token reason) = reply.Rejected (clipped_number 8 time) token reason

-- a quote
abbrev pub clipped_quote : Quote → Quote
clipped_quote q = record {
  stock = clipped_number 2 q.stock;
  state = q.state;
  bid = clipped_number 4 q.bid;
  bid_shares = clipped_number 8 q.bid_shares;
  ask = clipped_number 4 q.ask;
  ask_shares = clipped_number 8 q.ask_shares;
  last = clipped_number 4 q.last;
}

abbrev pub clipped_body : Body → Body
clipped_body body.Wake = body.Wake
clipped_body (body.Order order) = body.Order (clipped_inbound order)
clipped_body (body.Answer answer) = body.Answer (clipped_reply answer)
clipped_body (body.Ask stock) = body.Ask (clipped_number 2 stock)
clipped_body (body.Quote quote) = body.Quote (clipped_quote quote)

-- ---- entries

abbrev pub clipped_event : EventTold → EventTold
clipped_event e = record {
  number = clipped_number 4 e.number;
  time = clipped_number 8 e.time;
  seq = clipped_number 8 e.seq;
  from = clipped_number 2 e.from;
  to = clipped_number 2 e.to;
  put_back = e.put_back;
  until = clipped_number 8 e.until;
  fee = clipped_signed e.fee;
  body = clipped_body e.body;
  before = map clipped_feed e.before;
  after = map clipped_feed e.after;
}

abbrev pub clipped_edit : EditTold → EditTold
clipped_edit d = record {
  events = clipped_number 4 d.events;
  time = clipped_number 8 d.time;
  branch = clipped_number 2 d.branch;
  index = clipped_number 2 d.index;
  letter = d.letter;
  feed = map clipped_feed d.feed;
}

abbrev pub clipped_entry : EntryTold → EntryTold
clipped_entry (event e) = event (clipped_event e)
clipped_entry (edit d) = edit (clipped_edit d)

-- ---- a closing

-- the counters
abbrev pub clipped_counts : ClosingCounts → ClosingCounts
clipped_counts c = record {
  end = c.end;
  events = clipped_number 4 c.events;
  time = clipped_number 8 c.time;
  next_seq = clipped_number 8 c.next_seq;
  waiting = clipped_number 4 c.waiting;
  dropped = clipped_number 8 c.dropped;
  enters = clipped_number 8 c.enters;
  cancels = clipped_number 8 c.cancels;
  orders = clipped_number 8 c.orders;
  matches = clipped_number 8 c.matches;
}

-- a stock
abbrev pub clipped_stock : ClosingStock → ClosingStock
clipped_stock s = record {
  stock = clipped_number 2 s.stock;
  state = s.state;
  last = clipped_number 4 s.last;
  matched = clipped_number 8 s.matched;
  fees = clipped_wide s.fees;
  offset = clipped_signed s.offset;
  live = clipped_number 4 s.live;
}

-- a live order
abbrev pub clipped_order : ClosingOrder → ClosingOrder
clipped_order o = record {
  reference = clipped_number 8 o.reference;
  agent = clipped_number 2 o.agent;
  token = o.token;
  side = o.side;
  intended = clipped_number 4 o.intended;
  left = clipped_number 4 o.left;
  stock = clipped_number 2 o.stock;
  price = clipped_number 4 o.price;
  tif = clipped_number 4 o.tif;
  shown = o.shown;
}

-- an agent with its settled positions
abbrev pub clipped_agent : ClosingAgent → ClosingAgent
clipped_agent a = record {
  agent = clipped_number 2 a.agent;
  silenced = a.silenced;
  time = clipped_number 8 a.time;
  tokens = clipped_number 4 a.tokens;
  draws = clipped_number 8 a.draws;
  cash = clipped_wide a.cash;
  own_cash = clipped_wide a.own_cash;
  own_position = clipped_signed a.own_position;
  live = clipped_number 2 a.live;
  quotes = clipped_number 4 a.quotes;
  positions = map clipped_signed a.positions;
}

abbrev pub clipped_closing : Closing → Closing
clipped_closing c = record {
  counts = clipped_counts c.counts;
  stocks = map clipped_stock c.stocks;
  orders = map clipped_order c.orders;
  agents = map clipped_agent c.agents;
}

-- ---- a bundle

-- a branch; its name stays
abbrev pub clipped_branch : BranchTold → BranchTold
clipped_branch b = record {
  name = b.name;
  parent = clipped_number 2 b.parent;
  stop = clipped_number 4 b.stop;
  opening = map clipped_feed b.opening;
  entries = map clipped_entry b.entries;
  ended = clipped_feed b.ended;
  closing = clipped_closing b.closing;
}

-- the bundle; its branches keep their count and their order
abbrev pub clipped : BundleTold → BundleTold
clipped b = record {
  agents = clipped_number 2 b.agents;
  stocks = clipped_number 2 b.stocks;
  branches = map clipped_branch b.branches;
}

-- ---- what fits

-- the numbers by which a message tells the books fit their fields
abbrev pub HasBookNumbers : What → Type 0
HasBookNumbers (what.Add reference side shares stock price) = (reference < 2 ^ 64) × (shares < 2 ^ 32) × (price < 2 ^ 32)
HasBookNumbers (what.Executed reference shares match_number) = (reference < 2 ^ 64) × (shares < 2 ^ 32)
HasBookNumbers (what.Cancel reference shares) = (reference < 2 ^ 64) × (shares < 2 ^ 32)
HasBookNumbers (what.Delete reference) = reference < 2 ^ 64
HasBookNumbers w = Unit {0}

-- so do its locate and they
pub record TellsBooks (m : Feed) : Type 0 where
  pub locate : m.locate < 2 ^ 16
  pub numbers : HasBookNumbers m.what

-- the numbers of a live order that are compared with the books fit their fields
pub record IsComparable (o : ClosingOrder) : Type 0 where
  pub stock : o.stock < 2 ^ 16
  pub reference : o.reference < 2 ^ 64
  pub left : o.left < 2 ^ 32
  pub price : o.price < 2 ^ 32

-- each branch has a name of 1 to 32 bytes
abbrev pub AreNamed : CourseTold → Type 0
AreNamed c = All (λ (b : Branch). IsNameLength (length b.name)) c.plan.branches
