-- Values of fields, their spelling and their ranges.
use Rattle.std.specs.Prelude.{◌≡◌, ℕ, ◌^◌, ◌≤◌, Bool, false, ◌&&◌, ◌==◌, nat_lt, List, [], ◌∷◌, length}
use Rattle.std.specs.List.{list_all}
use Rattle.market_types.specs.declared.order.Side.{Side}
use Rattle.market_types.specs.declared.order.Side.TheVariants as side
use Rattle.wire_fields.specs.declared.kind.Kind.{Kind}
use Rattle.wire_fields.specs.declared.kind.Kind.TheVariants.{Number}
use Rattle.wire_fields.specs.declared.writing.Value.{Value}
use Rattle.wire_fields.specs.declared.writing.Value.TheVariants as value
use Rattle.wire_fields.specs.Kinds.{width, is_good}
use Rattle.wire_fields.specs.Numbers.{number_bytes, number_of}

-- A field's value is a number, or the bytes that stand there.
pub data FieldValue : Type 0 where
  number : ℕ → FieldValue
  bytes : List ℕ → FieldValue

-- how a value stands in a field
abbrev pub spelled : Kind → FieldValue → List ℕ
spelled k (number n) = number_bytes (width k) n
spelled k (bytes bs) = bs

-- Whether a value is one that a field may have: a number of so many bytes, and bytes that may stand there.
unfoldable pub is_in_range : Kind → FieldValue → Bool
is_in_range (Number w) (number n) = nat_lt n (256 ^ w)
is_in_range (Number w) (bytes bs) = false
is_in_range k (number n) = false
is_in_range k (bytes bs) = (length bs == width k) && (is_good k bs && list_all (λ b. nat_lt b 256) bs)

-- the value that these bytes are in a field
abbrev pub value_of : Kind → List ℕ → FieldValue
value_of (Number w) bs = number (number_of bs)
value_of k bs = bytes bs

-- the letter of a side
abbrev pub side_letter : Side → ℕ
side_letter side.Buy = 66
side_letter side.Sell = 83

-- what a value of the code is
abbrev pub told : Value → FieldValue
told (value.Number n) = number n
told (value.Byte b) = bytes (b ∷ [])
told (value.Two bs) = bytes bs
told (value.Four bs) = bytes bs
told (value.Side s) = bytes (side_letter s ∷ [])
told (value.Symbol s) = bytes s.0
told (value.Token t) = bytes t.0

-- A value of the code has the width of a field, whatever the field's range. Numbers have at most eight bytes.
abbrev pub HasWidth : Kind → Value → Type 0
HasWidth k (value.Number n) = width k ≤ 8
HasWidth k (value.Byte b) = width k ≡ 1
HasWidth k (value.Two bs) = width k ≡ 2
HasWidth k (value.Four bs) = width k ≡ 4
HasWidth k (value.Side s) = width k ≡ 1
HasWidth k (value.Symbol s) = width k ≡ 8
HasWidth k (value.Token t) = width k ≡ 14
