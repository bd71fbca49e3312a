-- The kinds of questions and quotes, and how one comes back from its message.
use Rattle.std.specs.Prelude.{◌≡◌, ℕ, ◌==◌, List, Some, refl, if◌then◌else◌}
use Rattle.market_types.specs.declared.message.Quote.{Quote as QuoteOf}
use Rattle.wire_fields.specs.declared.kind.Kind.{Kind}
use Rattle.wire_fields.specs.Values.{FieldValue}
use Rattle.wire_fields.specs.Wire.{Wire}
use Rattle.wire_fields.specs.Back.{number_in, byte_in}
use Rattle.bundle_frames.specs.Layouts.{ask_kinds, quote_kinds}
use Rattle.bundle_reader.specs.declared.market_body.MarketBody.{MarketBody}
use Rattle.bundle_reader.specs.declared.market_body.MarketBody.TheVariants as market
use Rattle.bundle_reader.specs.declared.market_body.MarketType.{MarketType}
use Rattle.bundle_reader.specs.declared.market_body.MarketType.TheVariants.{Ask, Quote}
use Rattle.bundle_reader.specs.Bodies.{market_wire, market_layout}

-- the letter of a kind
abbrev pub market_letter : MarketType → ℕ
market_letter Ask = 97
market_letter Quote = 113

-- the fields of a kind
abbrev pub market_kinds : MarketType → List Kind
market_kinds Ask = ask_kinds
market_kinds Quote = quote_kinds

abbrev pub quote_in : List FieldValue → QuoteOf
quote_in vs = record {
  stock = number_in vs 0;
  state = byte_in vs 1;
  bid = number_in vs 2;
  bid_shares = number_in vs 3;
  ask = number_in vs 4;
  ask_shares = number_in vs 5;
  last = number_in vs 6;
}

-- the body of a message
abbrev pub market_of : Wire → MarketBody
market_of w = if w.letter == 97 then market.Ask (number_in w.values 0) else market.Quote (quote_in w.values)

pub market_told : (m : MarketBody) → market_layout (market_wire m).letter ≡ Some (market_wire m).kinds
market_told (market.Ask m) = refl
market_told (market.Quote m) = refl

pub market_back : (m : MarketBody) → market_of (market_wire m) ≡ m
market_back (market.Ask m) = refl
market_back (market.Quote m) = refl
