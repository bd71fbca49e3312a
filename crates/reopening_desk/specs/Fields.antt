-- What the fields of an order's record say.
use Rattle.std.specs.Prelude.{ℕ, Bool, false, List, Option, None, Some, if◌then◌else◌, codes, option_and_then}
use Rattle.std.specs.Int.{is_in_range}
use Rattle.std.specs.Result.{result_ok}
use Rattle.std.specs.Str.{bytes_eq}
use Rattle.market_types.specs.declared.order.Side.{Side}
use Rattle.market_types.specs.declared.order.Side.TheVariants.{Buy, Sell}
use Rattle.market_types.specs.Readers.{price_of, shares_of}
use Rattle.study_market.specs.Records.{is_digits, number_of}

-- the number that 1 to so many digits say; another text says none
abbrev pub number_in : ℕ → List ℕ → Option ℕ
number_in most text = if is_digits most text then Some (number_of text) else None

-- an agent is 1 to 3 digits and the number of a trader: traders are numbered from 1
abbrev pub is_trader : ℕ → List ℕ → Bool
is_trader traders text = elim (number_in 3 text) [ None ↦ false | Some agent ↦ is_in_range 1 traders agent ]

-- `B` is to buy, `S` to sell
abbrev pub side_in : List ℕ → Option Side
side_in text = if bytes_eq text (codes "B") then Some Buy else if bytes_eq text (codes "S") then Some Sell else None

-- shares are 1 to 6 digits and the size of an order, from 1 to 999,999
abbrev pub shares_in : List ℕ → Option ℕ
shares_in text = option_and_then (λ n. result_ok (shares_of n)) (number_in 6 text)

-- a price is 1 to 10 digits and in its range, with four implied decimals
abbrev pub price_in : List ℕ → Option ℕ
price_in text = option_and_then (λ n. result_ok (price_of n)) (number_in 10 text)
