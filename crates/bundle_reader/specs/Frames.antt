-- The frames of a bundle, each behind its length. What a frame is written as is said by the crate that writes them.
use Rattle.std.specs.Prelude.{◌≡◌, ◌≤◌, ℕ, ℤ, List, [], ◌∷◌, ◌++◌, length, Option, Some, None, All}
use Rattle.bundle_frames.specs.Layouts.{waiting_kinds}
use Rattle.std.specs.Int.{w64, w128}
use Rattle.std.specs.Int.RustNames.{FitsSigned}
use Rattle.market_types.specs.declared.feed.Feed.{Feed}
use Rattle.market_types.specs.Told.{EventTold, EditTold}
use Rattle.wire_fields.specs.Values.{number}
use Rattle.wire_fields.specs.Wire.{Wire, IsInRange, spelling}
use Rattle.itch_codec.specs.Frames.{framed}
use Rattle.itch_codec.specs.Messages.{feed_wire}
use Rattle.branch_tree.specs.Names.{IsNameLength}
use Rattle.bundle_frames.specs.Wires.{header_wire, branch_wire, event_wire, edit_wire, counts_wire, stock_wire, order_wire, agent_wire, end_wire, positions_bytes, body_bytes, letter_of_body, byte}
use Rattle.bundle_reader.specs.Bodies.{HasRanges as HasBodyRanges}
use Rattle.bundle_reader.specs.declared.head.EditHead.{EditHead}
use Rattle.bundle_reader.specs.declared.frame.Frame.{Frame}
use Rattle.bundle_reader.specs.declared.frame.Frame.TheVariants.{Header, Branch, Message, Event, Edit, Counts, Stock, Order, Agent, Waiting, End}
use Rattle.bundle_reader.specs.declared.frame.EventFrame.{EventFrame}
use Rattle.bundle_reader.specs.declared.frame.WaitingFrame.{WaitingFrame}

-- an event with the feed around it
abbrev pub event_with : EventFrame → List Feed → List Feed → EventTold
event_with e before after = record {
  number = e.number;
  time = e.time;
  seq = e.seq;
  from = e.from;
  to = e.to;
  put_back = e.put_back;
  until = e.until;
  fee = e.fee;
  body = e.body;
  before = before;
  after = after;
}

-- an edit with its feed
abbrev pub edit_with : EditHead → List Feed → EditTold
edit_with d feed = record { events = d.events; time = d.time; branch = d.branch; index = d.index; letter = d.letter; feed = feed }

-- a waiting message before its body
abbrev pub waiting_wire : WaitingFrame → Wire
waiting_wire w = record {
  letter = 119;
  kinds = waiting_kinds;
  values = number w.time ∷ number w.seq ∷ number w.from ∷ number w.to ∷ byte (letter_of_body w.body) ∷ [];
}

-- the bytes of a frame behind its length
abbrev pub payload : Frame → List ℕ
payload (Header h) = spelling (header_wire h.agents h.stocks h.branches)
payload (Branch b) = spelling (branch_wire b.branch b.parent b.stop b.name) ++ b.name
payload (Message m) = spelling (feed_wire m)
payload (Event e) = spelling (event_wire (event_with e [] [])) ++ body_bytes e.body
payload (Edit d) = spelling (edit_wire (edit_with d []))
payload (Counts c) = spelling (counts_wire c)
payload (Stock s) = spelling (stock_wire s)
payload (Order o) = spelling (order_wire o)
payload (Agent a) = spelling (agent_wire a) ++ positions_bytes a.positions
payload (Waiting w) = spelling (waiting_wire w) ++ body_bytes w.body
payload (End branches) = spelling (end_wire branches)

-- an agent has a position in each stock, of which there are so many where that is known
abbrev pub HasPositions : Option ℕ → List ℤ → Type 0
HasPositions None positions = Unit {0}
HasPositions (Some stocks) positions = length positions ≡ stocks

-- Each field is in its range. A name has 1 to 32 bytes.
abbrev pub HasRanges : Option ℕ → Frame → Type 0
HasRanges stocks (Header h) = IsInRange (header_wire h.agents h.stocks h.branches)
HasRanges stocks (Branch b) = IsInRange (branch_wire b.branch b.parent b.stop b.name) × IsNameLength (length b.name)
HasRanges stocks (Message m) = IsInRange (feed_wire m)
HasRanges stocks (Event e) = IsInRange (event_wire (event_with e [] [])) × FitsSigned w64 e.fee × HasBodyRanges e.body
HasRanges stocks (Edit d) = IsInRange (edit_wire (edit_with d []))
HasRanges stocks (Counts c) = IsInRange (counts_wire c)
HasRanges stocks (Stock s) = IsInRange (stock_wire s) × FitsSigned w128 s.fees × FitsSigned w64 s.offset
HasRanges stocks (Order o) = IsInRange (order_wire o)
HasRanges stocks (Agent a) =
    IsInRange (agent_wire a) × FitsSigned w128 a.cash × FitsSigned w128 a.own_cash × FitsSigned w64 a.own_position
    × All (FitsSigned w64) a.positions × HasPositions stocks a.positions
HasRanges stocks (Waiting w) = IsInRange (waiting_wire w) × HasBodyRanges w.body
HasRanges stocks (End branches) = IsInRange (end_wire branches)

-- These bytes are what follows a frame's length, each of whose fields is in its range.
pub record IsFrame (stocks : Option ℕ) (bytes : List ℕ) (f : Frame) : Type 0 where
  pub same : bytes ≡ payload f
  pub ranges : HasRanges stocks f

-- These bytes begin with this frame, and the rest follows. A length has two bytes.
pub record Begins (stocks : Option ℕ) (bytes : List ℕ) (f : Frame) (rest : List ℕ) : Type 0 where
  pub same : bytes ≡ framed (payload f) ++ rest
  pub short : length (payload f) ≤ 65535
  pub ranges : HasRanges stocks f
