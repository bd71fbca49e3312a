-- Numbers, bytes and sides in a list of values, by their place: how a message comes back from its values.
use Rattle.std.specs.Prelude.{◌≡◌, ℕ, ◌==◌, List, [], slice_index, slice_index_or, refl, if◌then◌else◌}
use Rattle.market_types.specs.declared.order.Side.{Side}
use Rattle.market_types.specs.declared.order.Side.TheVariants.{Buy, Sell}
use Rattle.wire_fields.specs.Values.{FieldValue, number, bytes, side_letter}

-- the number that a value is, where it is one
abbrev pub as_number : FieldValue → ℕ
as_number (number n) = n
as_number (bytes bs) = 0

-- the bytes that a value is, where it is bytes
abbrev pub as_bytes : FieldValue → List ℕ
as_bytes (number n) = []
as_bytes (bytes bs) = bs

abbrev pub number_in : List FieldValue → ℕ → ℕ
number_in vs i = as_number (slice_index_or vs i (number 0))

abbrev pub bytes_in : List FieldValue → ℕ → List ℕ
bytes_in vs i = as_bytes (slice_index_or vs i (number 0))

abbrev pub byte_in : List FieldValue → ℕ → ℕ
byte_in vs i = slice_index (bytes_in vs i) 0

-- the side of a letter
abbrev pub side_of : ℕ → Side
side_of letter = if letter == 66 then Buy else Sell

abbrev pub side_in : List FieldValue → ℕ → Side
side_in vs i = side_of (byte_in vs i)

-- a side comes back from its letter
pub side_back : (s : Side) → side_of (side_letter s) ≡ s
side_back Buy = refl
side_back Sell = refl
