-- The frames of a bundle, each behind its length.
use Rattle.std.specs.Prelude.{ℕ, ◌≤◌, List, ◌++◌, length}
use Rattle.std.specs.List.{flat_map}
use Rattle.market_types.specs.declared.feed.Feed.{Feed}
use Rattle.market_types.specs.declared.message.Message.{Message}
use Rattle.market_types.specs.Told.{EntryTold, EventTold, EditTold, event, edit}
use Rattle.wire_fields.specs.Wire.{spelling}
use Rattle.itch_codec.specs.Frames.{framed}
use Rattle.itch_codec.specs.Messages.{feed_wire}
use Rattle.bundle_frames.specs.declared.closing.Closing.{Closing}
use Rattle.bundle_frames.specs.declared.closing.ClosingCounts.{ClosingCounts}
use Rattle.bundle_frames.specs.declared.closing.ClosingStock.{ClosingStock}
use Rattle.bundle_frames.specs.declared.closing.ClosingOrder.{ClosingOrder}
use Rattle.bundle_frames.specs.declared.closing.ClosingAgent.{ClosingAgent}
use Rattle.bundle_frames.specs.Wires.{header_wire, branch_wire, event_wire, edit_wire, counts_wire, stock_wire, order_wire, agent_wire, positions_bytes, end_wire, waiting_wire, body_bytes}

-- an agent has positions in at most sixteen stocks
abbrev pub HasFewPositions : ClosingAgent → Type 0
HasFewPositions a = length a.positions ≤ 16

-- a message of the feed
unfoldable pub message_frame : Feed → List ℕ
message_frame f = framed (spelling (feed_wire f))

-- an event, without its feed
unfoldable pub event_frame : EventTold → List ℕ
event_frame e = framed (spelling (event_wire e) ++ body_bytes e.body)

-- an edit, without its feed
unfoldable pub edit_frame : EditTold → List ℕ
edit_frame e = framed (spelling (edit_wire e))

-- the counters of a closing
unfoldable pub counts_frame : ClosingCounts → List ℕ
counts_frame c = framed (spelling (counts_wire c))

-- a stock of a closing
unfoldable pub stock_frame : ClosingStock → List ℕ
stock_frame s = framed (spelling (stock_wire s))

-- a live order of a closing
unfoldable pub order_frame : ClosingOrder → List ℕ
order_frame o = framed (spelling (order_wire o))

-- an agent with its settled positions
unfoldable pub agent_frame : ClosingAgent → List ℕ
agent_frame a = framed (spelling (agent_wire a) ++ positions_bytes a.positions)

-- a branch with its name
unfoldable pub branch_frame : ℕ → ℕ → ℕ → List ℕ → List ℕ
branch_frame branch parent stop name = framed (spelling (branch_wire branch parent stop name) ++ name)

-- the header, for so many agents with the exchange, stocks and branches
unfoldable pub header_frame : ℕ → ℕ → ℕ → List ℕ
header_frame agents stocks branches = framed (spelling (header_wire agents stocks branches))

-- the end, after so many branches
unfoldable pub end_frame : ℕ → List ℕ
end_frame branches = framed (spelling (end_wire branches))

-- a message that waits, with its body
unfoldable pub waiting_frame : Message → List ℕ
waiting_frame m = framed (spelling (waiting_wire m) ++ body_bytes m.body)

-- messages that wait, in this order
abbrev pub waiting_frames : List Message → List ℕ
waiting_frames = flat_map waiting_frame

-- messages of the feed in order
abbrev pub feed_frames : List Feed → List ℕ
feed_frames = flat_map message_frame

-- The feed of the dated changes that came with an event stands before it, its own feed behind it.
abbrev pub event_frames : EventTold → List ℕ
event_frames e = feed_frames e.before ++ event_frame e ++ feed_frames e.after

-- an edit comes before its feed
abbrev pub edit_frames : EditTold → List ℕ
edit_frames e = edit_frame e ++ feed_frames e.feed

-- an entry with its feed
abbrev pub entry_frames : EntryTold → List ℕ
entry_frames (event e) = event_frames e
entry_frames (edit e) = edit_frames e

-- the counters, then each stock, each live order and each agent
abbrev pub closing_frames : Closing → List ℕ
closing_frames c =
    counts_frame c.counts ++ flat_map stock_frame c.stocks ++ flat_map order_frame c.orders ++ flat_map agent_frame c.agents
