-- The frames of a bundle as messages, before what follows their fixed fields.
use Rattle.std.specs.Prelude.{ℕ, ℤ, ◌/◌, ◌%◌, ◌^◌, Bool, List, [], ◌∷◌, length, if◌then◌else◌}
use Rattle.std.specs.List.{flat_map}
use Rattle.std.specs.Int.{cast_unsigned, w64, w128}
use Rattle.market_types.specs.declared.message.Body.{Body}
use Rattle.market_types.specs.declared.message.Body.TheVariants as body
use Rattle.market_types.specs.declared.message.Message.{Message}
use Rattle.market_types.specs.declared.message.Quote.{Quote}
use Rattle.market_types.specs.Told.{EventTold, EditTold}
use Rattle.wire_fields.specs.Values.{FieldValue, number, bytes, side_letter}
use Rattle.wire_fields.specs.Wire.{Wire, spelling, spelled_fields}
use Rattle.ouch_codec.specs.Inbound.{inbound_wire}
use Rattle.ouch_codec.specs.Outbound.{reply_wire}
use Rattle.bundle_frames.specs.Layouts.{header_kinds, branch_kinds, event_kinds, ask_kinds, quote_kinds, edit_kinds, counts_kinds, stock_kinds, order_kinds, agent_kinds, position_kinds, end_kinds, waiting_kinds}
use Rattle.bundle_frames.specs.declared.closing.ClosingAgent.{ClosingAgent}
use Rattle.bundle_frames.specs.declared.closing.ClosingCounts.{ClosingCounts}
use Rattle.bundle_frames.specs.declared.closing.ClosingStock.{ClosingStock}
use Rattle.bundle_frames.specs.declared.closing.ClosingOrder.{ClosingOrder}
use Rattle.bundle_frames.specs.declared.head.EventHead.{EventHead}

-- a signed number of eight bytes in two's complement
abbrev pub signed : ℤ → FieldValue
signed z = number (cast_unsigned w64 z)

-- the higher and the lower half of a signed number of sixteen bytes in two's complement
abbrev pub high_half : ℤ → FieldValue
high_half z = number (cast_unsigned w128 z / 2 ^ 64)

abbrev pub low_half : ℤ → FieldValue
low_half z = number (cast_unsigned w128 z % 2 ^ 64)

-- one byte
abbrev pub byte : ℕ → FieldValue
byte b = bytes (b ∷ [])

-- `h`: the version is 1
abbrev pub header_wire : ℕ → ℕ → ℕ → Wire
header_wire agents stocks branches = record {
  letter = 104;
  kinds = header_kinds;
  values = number 1 ∷ number agents ∷ number stocks ∷ number branches ∷ [];
}

-- `b`, before the name
abbrev pub branch_wire : ℕ → ℕ → ℕ → List ℕ → Wire
branch_wire branch parent stop name = record {
  letter = 98;
  kinds = branch_kinds;
  values = number branch ∷ number parent ∷ number stop ∷ byte (length name) ∷ [];
}

-- `D` is delivered, `P` is put back
abbrev pub letter_of_delivery : Bool → ℕ
letter_of_delivery put_back = if put_back then 80 else 68

-- the letter of a body: a wakeup, an order inbound, its answer outbound, an ask, a quote
abbrev pub letter_of_body : Body → ℕ
letter_of_body body.Wake = 119
letter_of_body (body.Order inbound) = 105
letter_of_body (body.Answer reply) = 111
letter_of_body (body.Ask stock) = 97
letter_of_body (body.Quote quote) = 113

-- the values of a quote
abbrev pub quote_values : Quote → List FieldValue
quote_values q =
    number q.stock ∷ byte q.state ∷ number q.bid ∷ number q.bid_shares ∷ number q.ask ∷ number q.ask_shares ∷ number q.last ∷ []

-- `e`, before the body
abbrev pub event_wire : EventTold → Wire
event_wire e = record {
  letter = 101;
  kinds = event_kinds;
  values =
      number e.number ∷ number e.time ∷ number e.seq ∷ number e.from ∷ number e.to ∷ byte (letter_of_delivery e.put_back)
      ∷ number e.until ∷ signed e.fee ∷ byte (letter_of_body e.body) ∷ [];
}

-- the same of this head, and of the body whose letter this is
abbrev pub head_wire : EventHead → ℕ → Wire
head_wire h letter = record {
  letter = 101;
  kinds = event_kinds;
  values =
      number h.number ∷ number h.time ∷ number h.seq ∷ number h.from ∷ number h.to ∷ byte (letter_of_delivery h.put_back)
      ∷ number h.until ∷ signed h.fee ∷ byte letter ∷ [];
}

-- `w`, before the body
abbrev pub waiting_wire : Message → Wire
waiting_wire m = record {
  letter = 119;
  kinds = waiting_kinds;
  values = number m.time ∷ number m.seq ∷ number m.from ∷ number m.to ∷ byte (letter_of_body m.body) ∷ [];
}

-- `d`
abbrev pub edit_wire : EditTold → Wire
edit_wire e = record {
  letter = 100;
  kinds = edit_kinds;
  values =
      number e.events ∷ number e.time ∷ number e.branch ∷ number e.index ∷ byte e.letter ∷ [];
}

-- `c`
abbrev pub counts_wire : ClosingCounts → Wire
counts_wire c = record {
  letter = 99;
  kinds = counts_kinds;
  values =
      byte c.end ∷ number c.events ∷ number c.time ∷ number c.next_seq ∷ number c.waiting ∷ number c.dropped
      ∷ number c.enters ∷ number c.cancels ∷ number c.orders ∷ number c.matches ∷ [];
}

-- `s`
abbrev pub stock_wire : ClosingStock → Wire
stock_wire s = record {
  letter = 115;
  kinds = stock_kinds;
  values =
      number s.stock ∷ byte s.state ∷ number s.last ∷ number s.matched ∷ high_half s.fees ∷ low_half s.fees
      ∷ signed s.offset ∷ number s.live ∷ [];
}

-- `l` is a shown order, `n` a hidden one
abbrev pub letter_of_order : Bool → ℕ
letter_of_order shown = if shown then 108 else 110

-- `l` or `n`
abbrev pub order_wire : ClosingOrder → Wire
order_wire o = record {
  letter = letter_of_order o.shown;
  kinds = order_kinds;
  values =
      number o.reference ∷ number o.agent ∷ bytes o.token.0 ∷ byte (side_letter o.side) ∷ number o.intended ∷ number o.left
      ∷ number o.stock ∷ number o.price ∷ number o.tif ∷ [];
}

-- `Y` is silenced, `N` is not
abbrev pub letter_of_silence : Bool → ℕ
letter_of_silence silenced = if silenced then 89 else 78

-- `a`, before the positions
abbrev pub agent_wire : ClosingAgent → Wire
agent_wire a = record {
  letter = 97;
  kinds = agent_kinds;
  values =
      number a.agent ∷ byte (letter_of_silence a.silenced) ∷ number a.time ∷ number a.tokens ∷ number a.draws
      ∷ high_half a.cash ∷ low_half a.cash ∷ high_half a.own_cash ∷ low_half a.own_cash ∷ signed a.own_position
      ∷ number a.live ∷ number a.quotes ∷ [];
}

-- a position in eight bytes
unfoldable pub position_bytes : ℤ → List ℕ
position_bytes p = spelled_fields position_kinds (signed p ∷ [])

-- the positions one after another
abbrev pub positions_bytes : List ℤ → List ℕ
positions_bytes = flat_map position_bytes

-- `z`
abbrev pub end_wire : ℕ → Wire
end_wire branches = record { letter = 122; kinds = end_kinds; values = number branches ∷ [] }

-- the body of a message, in the codes of orders where it is one
abbrev pub body_bytes : Body → List ℕ
body_bytes body.Wake = []
body_bytes (body.Order inbound) = spelling (inbound_wire inbound)
body_bytes (body.Answer reply) = spelling (reply_wire reply)
body_bytes (body.Ask stock) = spelled_fields ask_kinds (number stock ∷ [])
body_bytes (body.Quote quote) = spelled_fields quote_kinds (quote_values quote)
