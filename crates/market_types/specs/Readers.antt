-- The exact ranges of the readers of numbers and names.
use Rattle.std.specs.Prelude.{ℕ, ◌-◌, Bool, ◌&&◌, List, ◌++◌, length, replicate, Result, Ok, Err, if◌then◌else◌}
use Rattle.std.specs.Int.{is_in_range}
use Rattle.std.specs.List.{list_all}
use Rattle.std.specs.Char.{is_ascii_graphic, is_ascii_alphanumeric}
use Rattle.market_types.specs.declared.order.Symbol.{Symbol}
use Rattle.market_types.specs.declared.order.Token.{Token}
use Rattle.market_types.specs.declared.error.TypeError.{TypeError}
use Rattle.market_types.specs.declared.error.TypeError.TheVariants.{BadPrice, BadShares, BadSymbol, BadToken}

-- a price with four implied decimals, from 0.0001 to 199,999.99 dollars
abbrev pub price_of : ℕ → Result ℕ TypeError
price_of n = if is_in_range 1 1999999900 n then Ok n else Err BadPrice

-- a size of an order in shares
abbrev pub shares_of : ℕ → Result ℕ TypeError
shares_of n = if is_in_range 1 999999 n then Ok n else Err BadShares

-- the text with spaces on its right, n bytes in all
abbrev pub padded : ℕ → List ℕ → List ℕ
padded n text = text ++ replicate (n - length text) 32

-- 1 to 8 visible bytes of ASCII
abbrev pub is_symbol : List ℕ → Bool
is_symbol text = is_in_range 1 8 (length text) && list_all is_ascii_graphic text

abbrev pub symbol_of : List ℕ → Result Symbol TypeError
symbol_of text = if is_symbol text then Ok (record { 0 = padded 8 text }) else Err BadSymbol

-- 1 to 14 letters and digits of ASCII
abbrev pub is_token : List ℕ → Bool
is_token text = is_in_range 1 14 (length text) && list_all is_ascii_alphanumeric text

abbrev pub token_of : List ℕ → Result Token TypeError
token_of text = if is_token text then Ok (record { 0 = padded 14 text }) else Err BadToken
