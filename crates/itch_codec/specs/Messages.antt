-- The public feed as messages of ITCH 5.0.
use Rattle.std.specs.Prelude.{ℕ, ◌==◌, List, [], ◌∷◌, Option, Some, None, if◌then◌else◌}
use Rattle.market_types.specs.declared.feed.Feed.{Feed}
use Rattle.market_types.specs.declared.feed.What.{What}
use Rattle.market_types.specs.declared.feed.What.TheVariants.{System, Directory, Trading, Add, Executed, Cancel, Delete, Trade, Cross}
use Rattle.wire_fields.specs.declared.kind.Kind.{Kind}
use Rattle.wire_fields.specs.Values.{FieldValue, number, bytes, side_letter}
use Rattle.wire_fields.specs.Wire.{Wire}
use Rattle.itch_codec.specs.Layouts.{system_kinds, directory_kinds, trading_kinds, add_kinds, executed_kinds, cancel_kinds, delete_kinds, trade_kinds, cross_kinds}

-- The letter of what a message says, its fields and their values, behind the values that each message begins with:
-- `S` is System Event, `R` Stock Directory, `H` Stock Trading Action, `A` Add Order, `E` Order Executed, `X` Order Cancel,
-- `D` Order Delete, `P` Trade Message, `Q` Cross Trade.
abbrev pub what_wire : FieldValue → FieldValue → FieldValue → What → Wire
what_wire locate tracking time (System code) = record { letter = 83; kinds = system_kinds; values = locate ∷ tracking ∷ time ∷ bytes (code ∷ []) ∷ [] }
what_wire locate tracking time (Directory stock category financial lot lots_only class sub_type authenticity short_sale ipo tier etp leverage inverse) = record {
  letter = 82;
  kinds = directory_kinds;
  values =
      locate ∷ tracking ∷ time ∷ bytes stock.0 ∷ bytes (category ∷ []) ∷ bytes (financial ∷ []) ∷ number lot ∷ bytes (lots_only ∷ [])
      ∷ bytes (class ∷ []) ∷ bytes sub_type ∷ bytes (authenticity ∷ []) ∷ bytes (short_sale ∷ []) ∷ bytes (ipo ∷ []) ∷ bytes (tier ∷ [])
      ∷ bytes (etp ∷ []) ∷ number leverage ∷ bytes (inverse ∷ []) ∷ [];
}
what_wire locate tracking time (Trading stock state reserved reason) = record {
  letter = 72;
  kinds = trading_kinds;
  values = locate ∷ tracking ∷ time ∷ bytes stock.0 ∷ bytes (state ∷ []) ∷ bytes (reserved ∷ []) ∷ bytes reason ∷ [];
}
what_wire locate tracking time (Add reference side shares stock price) = record {
  letter = 65;
  kinds = add_kinds;
  values = locate ∷ tracking ∷ time ∷ number reference ∷ bytes (side_letter side ∷ []) ∷ number shares ∷ bytes stock.0 ∷ number price ∷ [];
}
what_wire locate tracking time (Executed reference shares match_number) = record {
  letter = 69;
  kinds = executed_kinds;
  values = locate ∷ tracking ∷ time ∷ number reference ∷ number shares ∷ number match_number ∷ [];
}
what_wire locate tracking time (Cancel reference shares) = record { letter = 88; kinds = cancel_kinds; values = locate ∷ tracking ∷ time ∷ number reference ∷ number shares ∷ [] }
what_wire locate tracking time (Delete reference) = record { letter = 68; kinds = delete_kinds; values = locate ∷ tracking ∷ time ∷ number reference ∷ [] }
what_wire locate tracking time (Trade reference side shares stock price match_number) = record {
  letter = 80;
  kinds = trade_kinds;
  values =
      locate ∷ tracking ∷ time ∷ number reference ∷ bytes (side_letter side ∷ []) ∷ number shares ∷ bytes stock.0 ∷ number price
      ∷ number match_number ∷ [];
}
what_wire locate tracking time (Cross shares stock price match_number kind) = record {
  letter = 81;
  kinds = cross_kinds;
  values = locate ∷ tracking ∷ time ∷ number shares ∷ bytes stock.0 ∷ number price ∷ number match_number ∷ bytes (kind ∷ []) ∷ [];
}

-- the message of a feed message
abbrev pub feed_wire : Feed → Wire
feed_wire m = what_wire (number m.locate) (number m.tracking) (number m.time) m.what

-- the fields of the type of a letter, as above
abbrev pub feed_layout : ℕ → Option (List Kind)
feed_layout letter =
    if letter == 83 then Some system_kinds else
    (if letter == 82 then Some directory_kinds else
    (if letter == 72 then Some trading_kinds else
    (if letter == 65 then Some add_kinds else
    (if letter == 69 then Some executed_kinds else
    (if letter == 88 then Some cancel_kinds else
    (if letter == 68 then Some delete_kinds else
    (if letter == 80 then Some trade_kinds else
    (if letter == 81 then Some cross_kinds else None))))))))
