-- The frame that bytes behind a length are, as a function.
use Rattle.std.specs.Prelude.{ℕ, ℤ, zero, suc, ◌+◌, ◌*◌, ◌%◌, ◌^◌, ◌==◌, ◌&&◌, List, [], ◌∷◌, length, take, drop, slice_index, Option, Some, None, option_map, bytes_eq, if◌then◌else◌}
use Rattle.std.specs.Int.{cast_signed, w64, w128}
use Rattle.market_types.specs.declared.feed.Feed.{Feed}
use Rattle.market_types.specs.declared.message.Body.{Body}
use Rattle.market_types.specs.declared.message.Body.TheVariants as body
use Rattle.wire_fields.specs.declared.kind.Kind.{Kind}
use Rattle.wire_fields.specs.Numbers.{number_of}
use Rattle.wire_fields.specs.Wire.{total_width}
use Rattle.itch_codec.specs.Messages.{feed_wire, feed_layout}
use Rattle.itch_codec.specs.Back.{feed_of}
use Rattle.ouch_codec.specs.Inbound.{inbound_wire, inbound_layout}
use Rattle.ouch_codec.specs.InboundBack.{inbound_of}
use Rattle.ouch_codec.specs.Outbound.{reply_wire, reply_layout}
use Rattle.ouch_codec.specs.OutboundBack.{reply_of}
use Rattle.branch_tree.specs.Names.{name_of}
use Rattle.bundle_frames.specs.Wires.{positions_bytes}
use Rattle.bundle_reader.specs.declared.market_body.MarketBody.{MarketBody}
use Rattle.bundle_reader.specs.declared.market_body.MarketBody.TheVariants.{Ask, Quote}
use Rattle.bundle_reader.specs.declared.head.Head.{Head}
use Rattle.bundle_reader.specs.declared.head.Head.TheVariants as head
use Rattle.bundle_reader.specs.declared.head.BranchHead.{BranchHead}
use Rattle.bundle_reader.specs.declared.head.EventHead.{EventHead}
use Rattle.bundle_reader.specs.declared.head.StockHead.{StockHead}
use Rattle.bundle_reader.specs.declared.head.AgentHead.{AgentHead}
use Rattle.bundle_reader.specs.declared.head.WaitingHead.{WaitingHead}
use Rattle.bundle_reader.specs.declared.frame.Frame.{Frame}
use Rattle.bundle_reader.specs.declared.frame.Frame.TheVariants as frame
use Rattle.bundle_reader.specs.Bodies.{market_wire, market_layout}
use Rattle.bundle_reader.specs.BodiesBack.{market_of}
use Rattle.bundle_reader.specs.Heads.{head_wire, head_layout}
use Rattle.bundle_reader.specs.Back.{head_of}
use Rattle.bundle_reader.specs.Parts.{count_of, is_none}
use Rattle.bundle_reader.specs.Messages.{message_in}

-- ---- bodies of messages

abbrev pub market_body : MarketBody → Body
market_body (Ask stock) = body.Ask stock
market_body (Quote quote) = body.Quote quote

-- the body behind a letter: nothing behind a wakeup's, an order, an answer, or a question or a quote
abbrev pub body_behind : ℕ → List ℕ → Option Body
body_behind letter rest =
    if letter == 119 then (if is_none rest then Some body.Wake else None) else
    (if letter == 105 then option_map body.Order (message_in inbound_wire inbound_of inbound_layout rest) else
    (if letter == 111 then option_map body.Answer (message_in reply_wire reply_of reply_layout rest) else
    option_map market_body (message_in market_wire market_of market_layout (letter ∷ rest))))

-- ---- numbers in two's complement

-- of sixteen bytes, by their halves
abbrev pub joined : ℕ → ℕ → ℤ
joined high low = cast_signed w128 (high * 2 ^ 64 + low)

-- so many of eight bytes, one after another
abbrev pub positions_in : ℕ → List ℕ → List ℤ
positions_in zero bytes = []
positions_in (suc n) bytes = cast_signed w64 (number_of (take 8 bytes) % 2 ^ 64) ∷ positions_in n (drop 8 bytes)

-- ---- frames by their heads

abbrev pub branch_of : BranchHead → List ℕ → Frame
branch_of h name = frame.Branch (record { branch = h.branch; parent = h.parent; stop = h.stop; name = name })

abbrev pub event_of : EventHead → Body → Frame
event_of h b = frame.Event (record {
  number = h.number;
  time = h.time;
  seq = h.seq;
  from = h.from;
  to = h.to;
  put_back = h.delivery == 80;
  until = h.until;
  fee = cast_signed w64 h.fee;
  body = b;
})

abbrev pub stock_of : StockHead → Frame
stock_of h = frame.Stock (record {
  stock = h.stock;
  state = h.state;
  last = h.last;
  matched = h.matched;
  fees = joined h.fees_high h.fees_low;
  offset = cast_signed w64 h.offset;
  live = h.live;
})

abbrev pub agent_of : AgentHead → List ℤ → Frame
agent_of h positions = frame.Agent (record {
  agent = h.agent;
  silenced = h.silenced == 89;
  time = h.time;
  tokens = h.tokens;
  draws = h.draws;
  cash = joined h.cash_high h.cash_low;
  own_cash = joined h.own_cash_high h.own_cash_low;
  own_position = cast_signed w64 h.own_position;
  live = h.live;
  quotes = h.quotes;
  positions = positions;
})

-- an agent, where these positions are all that follows its head
abbrev pub agent_with : AgentHead → List ℕ → List ℤ → Option Frame
agent_with h rest positions = if bytes_eq (positions_bytes positions) rest then Some (agent_of h positions) else None

abbrev pub waiting_of : WaitingHead → Body → Frame
waiting_of h b = frame.Waiting (record { time = h.time; seq = h.seq; from = h.from; to = h.to; body = b })

-- a frame that ends with its head
abbrev pub alone : Frame → List ℕ → Option Frame
alone f rest = if is_none rest then Some f else None

-- The frame of a head and of what follows it, in a bundle of so many stocks, where that is known. A header is of version 1.
-- A branch has a name, as long as its head says. The head of an event or of a waiting message ends with the letter of the
-- body that follows. An agent has a position in each stock.
abbrev pub headed : Option ℕ → Head → List ℕ → Option Frame
headed stocks (head.Header h) rest =
    if (h.version == 1) && is_none rest
    then Some (frame.Header (record { agents = h.agents; stocks = h.stocks; branches = h.branches }))
    else None
headed stocks (head.Branch h) rest = if length rest == h.name_length then option_map (branch_of h) (name_of rest) else None
headed stocks (head.Event h) rest = option_map (event_of h) (body_behind h.body rest)
headed stocks (head.Edit h) rest = alone (frame.Edit h) rest
headed stocks (head.Counts h) rest = alone (frame.Counts h) rest
headed stocks (head.Stock h) rest = alone (stock_of h) rest
headed stocks (head.Order h) rest = alone (frame.Order h) rest
headed stocks (head.Agent h) rest = agent_with h rest (positions_in (count_of stocks (length rest)) rest)
headed stocks (head.Waiting h) rest = option_map (waiting_of h) (body_behind h.body rest)
headed stocks (head.End branches) rest = alone (frame.End branches) rest

-- ---- frames

-- how many bytes a head has, by its fields
abbrev pub size_by : Option (List Kind) → ℕ
size_by None = 0
size_by (Some kinds) = 1 + total_width kinds

-- how many bytes the head has with which these bytes begin, by its letter
abbrev pub head_size : List ℕ → ℕ
head_size bytes = size_by (head_layout (slice_index bytes 0))

-- the head with which bytes begin
abbrev pub head_in : List ℕ → Option Head
head_in bytes = message_in head_wire head_of head_layout (take (head_size bytes) bytes)

abbrev pub frame_by : Option ℕ → List ℕ → Option Head → Option Frame
frame_by stocks rest None = None
frame_by stocks rest (Some h) = headed stocks h rest

abbrev pub message_or : Option Feed → Option Frame → Option Frame
message_or (Some m) other = Some (frame.Message m)
message_or None other = other

-- The frame that these bytes are, if they are one, in a bundle of so many stocks, where that is known: a message of the
-- feed, or a frame with a head.
unfoldable pub frame_in : Option ℕ → List ℕ → Option Frame
frame_in stocks bytes =
    message_or (message_in feed_wire feed_of feed_layout bytes) (frame_by stocks (drop (head_size bytes) bytes) (head_in bytes))
