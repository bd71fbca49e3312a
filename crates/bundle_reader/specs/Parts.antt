-- A frame as its head, the fixed fields with which it begins, and what follows them.
use Rattle.std.specs.Prelude.{◌≡◌, ◌/◌, ◌%◌, ◌^◌, ℕ, Bool, true, false, List, [], ◌∷◌, length, Option, Some, None}
use Rattle.std.specs.Int.{cast_unsigned, w64, w128}
use Rattle.bundle_frames.specs.Wires.{letter_of_delivery, letter_of_body, letter_of_silence, body_bytes, positions_bytes}
use Rattle.bundle_frames.specs.declared.closing.ClosingStock.{ClosingStock}
use Rattle.bundle_frames.specs.declared.closing.ClosingAgent.{ClosingAgent}
use Rattle.bundle_reader.specs.declared.head.Head.{Head}
use Rattle.bundle_reader.specs.declared.head.Head.TheVariants as head
use Rattle.bundle_reader.specs.declared.head.HeaderHead.{HeaderHead}
use Rattle.bundle_reader.specs.declared.head.BranchHead.{BranchHead}
use Rattle.bundle_reader.specs.declared.head.EventHead.{EventHead}
use Rattle.bundle_reader.specs.declared.head.StockHead.{StockHead}
use Rattle.bundle_reader.specs.declared.head.AgentHead.{AgentHead}
use Rattle.bundle_reader.specs.declared.head.WaitingHead.{WaitingHead}
use Rattle.bundle_reader.specs.declared.frame.Frame.{Frame}
use Rattle.bundle_reader.specs.declared.frame.Frame.TheVariants.{Header, Branch, Message, Event, Edit, Counts, Stock, Order, Agent, Waiting, End}
use Rattle.bundle_reader.specs.declared.frame.HeaderFrame.{HeaderFrame}
use Rattle.bundle_reader.specs.declared.frame.BranchFrame.{BranchFrame}
use Rattle.bundle_reader.specs.declared.frame.EventFrame.{EventFrame}
use Rattle.bundle_reader.specs.declared.frame.WaitingFrame.{WaitingFrame}
use Rattle.bundle_reader.specs.Frames.{HasRanges}

abbrev pub header_part : HeaderFrame → HeaderHead
header_part h = record { version = 1; agents = h.agents; stocks = h.stocks; branches = h.branches }

abbrev pub branch_part : BranchFrame → BranchHead
branch_part b = record { branch = b.branch; parent = b.parent; stop = b.stop; name_length = length b.name }

abbrev pub event_part : EventFrame → EventHead
event_part e = record {
  number = e.number;
  time = e.time;
  seq = e.seq;
  from = e.from;
  to = e.to;
  delivery = letter_of_delivery e.put_back;
  until = e.until;
  fee = cast_unsigned w64 e.fee;
  body = letter_of_body e.body;
}

abbrev pub stock_part : ClosingStock → StockHead
stock_part s = record {
  stock = s.stock;
  state = s.state;
  last = s.last;
  matched = s.matched;
  fees_high = cast_unsigned w128 s.fees / 2 ^ 64;
  fees_low = cast_unsigned w128 s.fees % 2 ^ 64;
  offset = cast_unsigned w64 s.offset;
  live = s.live;
}

abbrev pub agent_part : ClosingAgent → AgentHead
agent_part a = record {
  agent = a.agent;
  silenced = letter_of_silence a.silenced;
  time = a.time;
  tokens = a.tokens;
  draws = a.draws;
  cash_high = cast_unsigned w128 a.cash / 2 ^ 64;
  cash_low = cast_unsigned w128 a.cash % 2 ^ 64;
  own_cash_high = cast_unsigned w128 a.own_cash / 2 ^ 64;
  own_cash_low = cast_unsigned w128 a.own_cash % 2 ^ 64;
  own_position = cast_unsigned w64 a.own_position;
  live = a.live;
  quotes = a.quotes;
}

abbrev pub waiting_part : WaitingFrame → WaitingHead
waiting_part w = record { time = w.time; seq = w.seq; from = w.from; to = w.to; body = letter_of_body w.body }

-- the head of a frame; a message of the feed has none
abbrev pub head_part : Frame → Option Head
head_part (Header h) = Some (head.Header (header_part h))
head_part (Branch b) = Some (head.Branch (branch_part b))
head_part (Message m) = None
head_part (Event e) = Some (head.Event (event_part e))
head_part (Edit d) = Some (head.Edit d)
head_part (Counts c) = Some (head.Counts c)
head_part (Stock s) = Some (head.Stock (stock_part s))
head_part (Order o) = Some (head.Order o)
head_part (Agent a) = Some (head.Agent (agent_part a))
head_part (Waiting w) = Some (head.Waiting (waiting_part w))
head_part (End branches) = Some (head.End branches)

-- what follows the head
abbrev pub rest_part : Frame → List ℕ
rest_part (Header h) = []
rest_part (Branch b) = b.name
rest_part (Message m) = []
rest_part (Event e) = body_bytes e.body
rest_part (Edit d) = []
rest_part (Counts c) = []
rest_part (Stock s) = []
rest_part (Order o) = []
rest_part (Agent a) = positions_bytes a.positions
rest_part (Waiting w) = body_bytes w.body
rest_part (End branches) = []

-- how many positions an agent has in so many bytes: one for each stock, where the stocks are known
abbrev pub count_of : Option ℕ → ℕ → ℕ
count_of None bytes = bytes / 8
count_of (Some stocks) bytes = stocks

-- whether nothing follows
abbrev pub is_none : List ℕ → Bool
is_none [] = true
is_none (b ∷ bytes) = false

-- A frame has this head, this rest, and each field in its range.
pub record IsOf (stocks : Option ℕ) (h : Head) (rest : List ℕ) (f : Frame) : Type 0 where
  pub first : head_part f ≡ Some h
  pub after : rest_part f ≡ rest
  pub ranges : HasRanges stocks f
