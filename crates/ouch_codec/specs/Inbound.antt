-- Orders to the exchange as messages of OUCH 4.2.
use Rattle.std.specs.Prelude.{ℕ, ◌==◌, List, [], ◌∷◌, Option, Some, None, if◌then◌else◌}
use Rattle.market_types.specs.declared.order.Enter.{Enter}
use Rattle.market_types.specs.declared.order.Cancel.{Cancel}
use Rattle.market_types.specs.declared.order.Inbound.{Inbound}
use Rattle.market_types.specs.declared.order.Inbound.TheVariants as inbound
use Rattle.wire_fields.specs.declared.kind.Kind.{Kind}
use Rattle.wire_fields.specs.Values.{FieldValue, number, bytes, side_letter}
use Rattle.wire_fields.specs.Wire.{Wire}
use Rattle.ouch_codec.specs.Layouts.{enter_kinds, cancel_kinds}

-- the values of an Enter Order's fields
abbrev pub enter_values : Enter → List FieldValue
enter_values m =
    bytes m.token.0 ∷ bytes (side_letter m.side ∷ []) ∷ number m.shares ∷ bytes m.stock.0 ∷ number m.price ∷ number m.tif
    ∷ bytes m.firm ∷ bytes (m.display ∷ []) ∷ bytes (m.capacity ∷ []) ∷ bytes (m.sweep ∷ []) ∷ number m.minimum
    ∷ bytes (m.cross ∷ []) ∷ bytes (m.customer ∷ []) ∷ []

-- the values of a Cancel Order's fields
abbrev pub cancel_values : Cancel → List FieldValue
cancel_values m = bytes m.token.0 ∷ number m.shares ∷ []

-- the message of an order: `O` is Enter Order, `X` is Cancel Order
abbrev pub inbound_wire : Inbound → Wire
inbound_wire (inbound.Enter m) = record { letter = 79; kinds = enter_kinds; values = enter_values m }
inbound_wire (inbound.Cancel m) = record { letter = 88; kinds = cancel_kinds; values = cancel_values m }

-- the fields of the type of a letter, `O` or `X`
abbrev pub inbound_layout : ℕ → Option (List Kind)
inbound_layout letter =
    if letter == 79 then Some enter_kinds else
    (if letter == 88 then Some cancel_kinds else None)
