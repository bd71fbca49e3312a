-- The orders that a file says, or the number of the first record that breaks a rule.
use Rattle.std.specs.Prelude.{ℕ, ◌+◌, ◌==◌, nat_le, Bool, true, ◌&&◌, List, [], ◌∷◌, ◌++◌, Option, None, Some, Result, Ok, Err, if◌then◌else◌, length, codes, option_map}
use Rattle.std.specs.Str.{bytes_eq}
use Rattle.market_types.specs.declared.order.Side.{Side}
use Rattle.reopen_cross.specs.declared.cross.Interest.{Interest}
use Rattle.study_market.specs.Records.{field_of, records_of}
use Rattle.reopening_desk.specs.Fields.{is_trader, price_in, shares_in, side_in}

-- the first record is the names of the columns
abbrev pub is_header : List (List ℕ) → Bool
is_header fields =
    length fields == 4
    && bytes_eq (field_of fields 0) (codes "agent")
    && bytes_eq (field_of fields 1) (codes "side")
    && bytes_eq (field_of fields 2) (codes "shares")
    && bytes_eq (field_of fields 3) (codes "price")

-- a displayed order, numbered by its record
abbrev pub order_of : ℕ → Option Side → Option ℕ → Option ℕ → Option Interest
order_of number (Some side) (Some shares) (Some price) =
    Some (record { reference = number; side = side; price = price; left = shares; shown = true })
order_of number (Some side) (Some shares) None = None
order_of number (Some side) None price = None
order_of number None shares price = None

-- the order that the record of a number says, where it has four fields: a trader's agent, a side, shares and a price
abbrev pub order_in : ℕ → ℕ → List (List ℕ) → Option Interest
order_in traders number fields =
    if (length fields == 4) && is_trader traders (field_of fields 0)
    then order_of number (side_in (field_of fields 1)) (shares_in (field_of fields 2)) (price_in (field_of fields 3))
    else None

-- What the record of a number adds, where it breaks no rule: record 0 is the header and adds no order, and each of the next 16,384
-- adds its own.
abbrev pub said_by : ℕ → ℕ → List (List ℕ) → Option (List Interest)
said_by traders number fields =
    if number == 0 then (if is_header fields then Some [] else None)
    else if nat_le number 16384 then option_map (λ o. o ∷ []) (order_in traders number fields)
    else None

-- orders, and behind them those of the rest of the file
abbrev pub before : List Interest → Result (List Interest) ℕ → Result (List Interest) ℕ
before orders (Ok more) = Ok (orders ++ more)
before orders (Err number) = Err number

-- what the record of a number adds, and the rest of the file; or the number
abbrev pub with_rest : ℕ → Option (List Interest) → Result (List Interest) ℕ → Result (List Interest) ℕ
with_rest number None rest = Err number
with_rest number (Some orders) rest = before orders rest

-- the file ends before the record of a number: it has at least one record
abbrev pub at_end : ℕ → Result (List Interest) ℕ
at_end number = if number == 0 then Err 0 else Ok []

-- the records from a number on
abbrev pub orders_from : ℕ → ℕ → List (List (List ℕ)) → Result (List Interest) ℕ
orders_from traders number [] = at_end number
orders_from traders number (fields ∷ rest) =
    with_rest number (said_by traders number fields) (orders_from traders (number + 1) rest)

-- the orders that the text says in a study of so many traders, or the number of the first record that breaks a rule
abbrev pub orders_of : ℕ → List ℕ → Result (List Interest) ℕ
orders_of traders text = orders_from traders 0 (records_of text)
