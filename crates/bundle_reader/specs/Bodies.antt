-- Bodies of messages, each behind the letter of its kind.
use Rattle.std.specs.Prelude.{◌≡◌, ℕ, ◌==◌, List, [], ◌∷◌, Option, Some, None, if◌then◌else◌}
use Rattle.market_types.specs.declared.message.Body.{Body}
use Rattle.market_types.specs.declared.message.Body.TheVariants as body
use Rattle.wire_fields.specs.declared.kind.Kind.{Kind}
use Rattle.wire_fields.specs.Values.{number}
use Rattle.wire_fields.specs.Wire.{Wire, IsInRange}
use Rattle.ouch_codec.specs.Inbound.{inbound_wire}
use Rattle.ouch_codec.specs.Outbound.{reply_wire}
use Rattle.bundle_frames.specs.Layouts.{ask_kinds, quote_kinds}
use Rattle.bundle_frames.specs.Wires.{letter_of_body, body_bytes, quote_values}
use Rattle.bundle_reader.specs.declared.market_body.MarketBody.{MarketBody}
use Rattle.bundle_reader.specs.declared.market_body.MarketBody.TheVariants.{Ask, Quote}

-- a question and a quote as messages whose letter is that of the body's kind
abbrev pub market_wire : MarketBody → Wire
market_wire (Ask stock) = record { letter = 97; kinds = ask_kinds; values = number stock ∷ [] }
market_wire (Quote quote) = record { letter = 113; kinds = quote_kinds; values = quote_values quote }

-- the fields of the body of a letter, as above
abbrev pub market_layout : ℕ → Option (List Kind)
market_layout letter = if letter == 97 then Some ask_kinds else (if letter == 113 then Some quote_kinds else None)

-- each field of a body is in its range
abbrev pub HasRanges : Body → Type 0
HasRanges body.Wake = Unit {0}
HasRanges (body.Order order) = IsInRange (inbound_wire order)
HasRanges (body.Answer reply) = IsInRange (reply_wire reply)
HasRanges (body.Ask stock) = IsInRange (market_wire (Ask stock))
HasRanges (body.Quote quote) = IsInRange (market_wire (Quote quote))

-- These bytes are the letter of a body's kind and the body, each of whose fields is in its range.
pub record IsBody (bytes : List ℕ) (b : Body) : Type 0 where
  pub same : bytes ≡ letter_of_body b ∷ body_bytes b
  pub in_range : HasRanges b
