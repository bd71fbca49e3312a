-- The types of orders, and how an order comes back from its message.
use Rattle.std.specs.Prelude.{◌≡◌, ℕ, ◌==◌, List, Some, refl, if◌then◌else◌}
use Rattle.std.proofs.Common.{ap}
use Rattle.market_types.specs.declared.order.Side.{Side}
use Rattle.market_types.specs.declared.order.Enter.{Enter}
use Rattle.market_types.specs.declared.order.Cancel.{Cancel}
use Rattle.market_types.specs.declared.order.Inbound.{Inbound}
use Rattle.market_types.specs.declared.order.Inbound.TheVariants as inbound
use Rattle.wire_fields.specs.declared.kind.Kind.{Kind}
use Rattle.wire_fields.specs.Values.{FieldValue}
use Rattle.wire_fields.specs.Wire.{Wire}
use Rattle.wire_fields.specs.Back.{number_in, bytes_in, byte_in, side_in, side_back}
use Rattle.ouch_codec.specs.declared.inbound.OrderType.{OrderType}
use Rattle.ouch_codec.specs.declared.inbound.OrderType.TheVariants as order
use Rattle.ouch_codec.specs.Layouts.{enter_kinds, cancel_kinds}
use Rattle.ouch_codec.specs.Inbound.{enter_values, inbound_wire, inbound_layout}

-- the letter of a type, `O` or `X`
abbrev pub order_letter : OrderType → ℕ
order_letter order.Enter = 79
order_letter order.Cancel = 88

-- the fields of a type
abbrev pub order_kinds : OrderType → List Kind
order_kinds order.Enter = enter_kinds
order_kinds order.Cancel = cancel_kinds

-- the Enter Order of these values, on a side
abbrev pub enter_on : List FieldValue → Side → Enter
enter_on vs side = record {
  token = record { 0 = bytes_in vs 0 };
  side = side;
  shares = number_in vs 2;
  stock = record { 0 = bytes_in vs 3 };
  price = number_in vs 4;
  tif = number_in vs 5;
  firm = bytes_in vs 6;
  display = byte_in vs 7;
  capacity = byte_in vs 8;
  sweep = byte_in vs 9;
  minimum = number_in vs 10;
  cross = byte_in vs 11;
  customer = byte_in vs 12;
}

-- the Cancel Order of these values
abbrev pub cancel_in : List FieldValue → Cancel
cancel_in vs = record { token = record { 0 = bytes_in vs 0 }; shares = number_in vs 1 }

-- the order of a message
abbrev pub inbound_of : Wire → Inbound
inbound_of w = if w.letter == 79 then inbound.Enter (enter_on w.values (side_in w.values 1)) else inbound.Cancel (cancel_in w.values)

pub inbound_told : (m : Inbound) → inbound_layout (inbound_wire m).letter ≡ Some (inbound_wire m).kinds
inbound_told (inbound.Enter m) = refl
inbound_told (inbound.Cancel m) = refl

pub inbound_back : (m : Inbound) → inbound_of (inbound_wire m) ≡ m
inbound_back (inbound.Enter m) = ap (λ (side : Side). inbound.Enter (enter_on (enter_values m) side)) (side_back m.side)
inbound_back (inbound.Cancel m) = refl
