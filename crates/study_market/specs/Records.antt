-- The records of a series file, and the row that a record says.
use Rattle.std.specs.Prelude.{ℕ, ◌+◌, ◌-◌, ◌*◌, ◌==◌, nat_le, Bool, ◌&&◌, List, [], ◌∷◌, Option, None, Some, if◌then◌else◌, length, position, codes, unwrap_or}
use Rattle.std.specs.Int.{is_in_range}
use Rattle.std.specs.List.{list_all}
use Rattle.std.specs.Str.{bytes_eq}
use Rattle.toml.specs.Data.{Data}
use Rattle.csv.specs.Records.{field_at}
use Rattle.csv.specs.Reading.{records, default_config, strip_bom}
use Rattle.study_market.specs.declared.row.FileRow.{FileRow}
use Rattle.study_market.specs.StockRules.{is_by_rows, symbol_in}

-- the records of a text, as CSV without any header treatment and with records of any length
abbrev pub records_of : List ℕ → List (List (List ℕ))
records_of text = records default_config (strip_bom text)

-- a field of a record, and the empty one where it has none
abbrev pub field_of : List (List ℕ) → ℕ → List ℕ
field_of fields i = unwrap_or (field_at fields i) []

-- the first record is the names of the columns
abbrev pub is_header : List (List ℕ) → Bool
is_header fields =
    length fields == 3
    && bytes_eq (field_of fields 0) (codes "symbol")
    && bytes_eq (field_of fields 1) (codes "time")
    && bytes_eq (field_of fields 2) (codes "value")

-- 1 to so many digits
abbrev pub is_digits : ℕ → List ℕ → Bool
is_digits most text = is_in_range 1 most (length text) && list_all (is_in_range 48 57) text

-- the number that digits say, after those of another number
abbrev pub number_after : ℕ → List ℕ → ℕ
number_after n [] = n
number_after n (c ∷ cs) = number_after (n * 10 + (c - 48)) cs

abbrev pub number_of : List ℕ → ℕ
number_of text = number_after 0 text

-- a time is 1 to 14 digits and at most 86,399,999,999,999
abbrev pub is_time : List ℕ → Bool
is_time text = is_digits 14 text && nat_le (number_of text) 86399999999999

-- a value is 1 to 10 digits and a price
abbrev pub is_value : List ℕ → Bool
is_value text = is_digits 10 text && is_in_range 1 1999999900 (number_of text)

-- the stock's values go by rows, and this is its symbol
abbrev pub is_stock_of : List ℕ → Data → Bool
is_stock_of symbol d = is_by_rows d && bytes_eq (symbol_in d) symbol

abbrev pub timed_row : ℕ → List ℕ → List ℕ → Option FileRow
timed_row stock time value =
    if is_time time && is_value value
    then Some (record { stock = stock; row = record { time = number_of time; value = number_of value } })
    else None

abbrev pub row_of : List Data → List ℕ → List ℕ → List ℕ → Option FileRow
row_of stocks symbol time value = elim (position (is_stock_of symbol) stocks) [
  | None ↦ None
  | Some stock ↦ timed_row stock time value
]

-- the row that a record says, where it has three fields: a stock's symbol, a time and a value
abbrev pub row_in : List Data → List (List ℕ) → Option FileRow
row_in stocks fields =
    if length fields == 3 then row_of stocks (field_of fields 0) (field_of fields 1) (field_of fields 2) else None
