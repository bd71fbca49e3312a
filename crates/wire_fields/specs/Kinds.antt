-- Kinds of fields, and the bytes that may stand in them.
use Rattle.std.specs.Prelude.{ℕ, Bool, true, false, ◌&&◌, ◌||◌, ◌==◌, nat_lt, List, drop, if◌then◌else◌}
use Rattle.std.specs.Int.{is_in_range}
use Rattle.std.specs.List.{list_all, list_any, prefix_len}
use Rattle.std.specs.Char.{is_ascii_graphic, is_ascii_alphanumeric}
use Rattle.wire_fields.specs.declared.kind.Kind.{Kind}
use Rattle.wire_fields.specs.declared.kind.Kind.TheVariants.{Number, Byte, Bytes, Either, OneOf, Letters, Text, Alphanumeric, Side, OrderState, TradingState}

-- how many bytes a field has
abbrev pub width : Kind → ℕ
width (Number n) = n
width Byte = 1
width (Bytes n) = n
width (Either letters) = 1
width (OneOf letters) = 1
width (Letters n) = n
width (Text n) = n
width (Alphanumeric n) = n
width Side = 1
width OrderState = 1
width TradingState = 1

-- Whether a byte may stand in a field, but for the spaces that fill it. Letters are the printable bytes of ASCII, a space
-- among them; a text's are all but the space. A side is `B` or `S`, an order's state `L` or `D`, a stock's trading state
-- `H`, `P`, `Q` or `T`.
abbrev pub admits : Kind → ℕ → Bool
admits (Number n) b = true
admits Byte b = true
admits (Bytes n) b = true
admits (Either letters) b = list_any (λ letter. letter == b) letters
admits (OneOf letters) b = list_any (λ letter. letter == b) letters
admits (Letters n) b = is_in_range 0x20 0x7E b
admits (Text n) b = is_ascii_graphic b
admits (Alphanumeric n) b = is_ascii_alphanumeric b
admits Side b = (b == 66) || (b == 83)
admits OrderState b = (b == 76) || (b == 68)
admits TradingState b = (b == 72) || ((b == 80) || ((b == 81) || (b == 84)))

-- whether spaces fill a field on its right
abbrev pub is_padded : Kind → Bool
is_padded (Number n) = false
is_padded Byte = false
is_padded (Bytes n) = false
is_padded (Either letters) = false
is_padded (OneOf letters) = false
is_padded (Letters n) = false
is_padded (Text n) = true
is_padded (Alphanumeric n) = true
is_padded Side = false
is_padded OrderState = false
is_padded TradingState = false

-- one byte or more that pass a test, and then only spaces
abbrev pub is_filled : (ℕ → Bool) → List ℕ → Bool
is_filled test bytes = nat_lt 0 (prefix_len test bytes) && list_all (λ b. b == 32) (drop (prefix_len test bytes) bytes)

-- whether these bytes may stand in a field
unfoldable pub is_good : Kind → List ℕ → Bool
is_good k bytes = if is_padded k then is_filled (admits k) bytes else list_all (admits k) bytes
