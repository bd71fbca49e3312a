-- The rules of a study's stocks. Each gives the least place at which it is broken, which is the stock's, and is asked only where
-- every rule before it holds.
use Rattle.std.specs.Prelude.{ℕ, ◌/◌, nat_le, ℤ, pos, negsuc, int_le, unsigned_abs, Bool, ◌&&◌, ◌||◌, not, List, [], ◌∷◌, Option, is_none, is_some, if◌then◌else◌, length, map, position, take, codes, unwrap_or}
use Rattle.std.specs.Int.{is_in_range}
use Rattle.std.specs.List.{list_all, list_any, enumerate_from}
use Rattle.std.specs.Str.{bytes_eq}
use Rattle.toml.specs.Data.{Data, Members, no_members, as_table}
use Rattle.study_file.specs.Tables.{is_named, text_at}
use Rattle.market_types.specs.Readers.{is_symbol}
use Rattle.market_rules.specs.declared.bands.Band.{Band}
use Rattle.market_rules.specs.Refusals.{table_refusal}
use Rattle.study_file.specs.Keys.{passes, has_form}
use Rattle.study_file.specs.Values.{number_in, list_in, number_at, string_at, list_at, is_between, has_between, first_failing, broken_unless}
use Rattle.study_market.specs.Forms.{stock_form}
use Rattle.study_market.specs.MarketRules.{span_of}

-- 1 to 16 stocks
abbrev pub stocks : Members → List Data
stocks t = list_at (codes "stock") t

abbrev pub stock_count_broken : Members → Option ℕ
stock_count_broken t = broken_unless (is_in_range 1 16 (length (stocks t))) 0

-- stock i has its keys with their types and no other, series is `rule` or `rows`
abbrev pub stock_keys_broken : Members → Option ℕ
stock_keys_broken t = first_failing (has_form stock_form) (stocks t)

-- symbol i is read by `read_symbol`
abbrev pub has_symbol : Members → Bool
has_symbol stock = is_symbol (string_at (codes "symbol") stock)

abbrev pub symbol_broken : Members → Option ℕ
symbol_broken t = first_failing has_symbol (stocks t)

-- symbol i differs from those before
abbrev pub symbol_in : Data → List ℕ
symbol_in d = string_at (codes "symbol") (unwrap_or (as_table d) no_members)

abbrev pub symbols : Members → List (List ℕ)
symbols t = map symbol_in (stocks t)

abbrev pub first_repeated : List (List ℕ) → Option ℕ
first_repeated texts = position (λ (p : ℕ × List ℕ). is_named (take p.0 texts) p.1) (enumerate_from 0 texts)

abbrev pub repeat_broken : Members → Option ℕ
repeat_broken t = first_repeated (symbols t)

-- bands i: 1 to 16; `from` 0 to 1,999,999,900, tick 1 to 1,000,000, accepted by `TickTable::new`
abbrev pub first_in : List Data → ℤ
first_in [] = pos 0
first_in (d ∷ ds) = number_in d

abbrev pub second_in : List Data → ℤ
second_in [] = pos 0
second_in (d ∷ ds) = first_in ds

abbrev pub is_band : Data → Bool
is_band d = is_between (pos 0) (pos 1999999900) (first_in (list_in d)) && is_between (pos 1) (pos 1000000) (second_in (list_in d))

abbrev pub band_in : Data → Band
band_in d = record { from = unsigned_abs (first_in (list_in d)); tick = unsigned_abs (second_in (list_in d)) }

abbrev pub are_in_range : List Data → Bool
are_in_range bands = is_in_range 1 16 (length bands) && list_all is_band bands

abbrev pub are_bands : List Data → Bool
are_bands bands = are_in_range bands && is_none (table_refusal (map band_in bands))

abbrev pub has_bands : Members → Bool
has_bands t = are_bands (list_at (codes "bands") t)

abbrev pub bands_broken : Members → Option ℕ
bands_broken t = first_failing has_bands (stocks t)

-- add and take of i from -1,000,000 to 1,000,000
abbrev pub is_fee : ℤ → Bool
is_fee z = is_between (negsuc 999999) (pos 1000000) z

abbrev pub has_fees : Members → Bool
has_fees t = is_fee (number_at (codes "add") t) && is_fee (number_at (codes "take") t)

abbrev pub fees_broken : Members → Option ℕ
fees_broken t = first_failing has_fees (stocks t)

-- start and mean of i are prices from 1 to 1,999,999,900
abbrev pub goes_by : List ℕ → Members → Bool
goes_by word stock = bytes_eq (string_at (codes "series") stock) word

abbrev pub has_prices : Members → Bool
has_prices stock =
    not (goes_by (codes "rule") stock)
    || (has_between (pos 1) (pos 1999999900) (codes "start") stock && has_between (pos 1) (pos 1999999900) (codes "mean") stock)

abbrev pub prices_broken : Members → Option ℕ
prices_broken t = first_failing has_prices (stocks t)

-- pull of i 0 to 1,000,000, shock 0 to 1,000,000,000, every at least 1, floor((close - open) / every) at most 65,535
abbrev pub has_pace : ℕ → Members → Bool
has_pace span stock =
    not (goes_by (codes "rule") stock)
    || (has_between (pos 0) (pos 1000000) (codes "pull") stock
    && has_between (pos 0) (pos 1000000000) (codes "shock") stock
    && int_le (pos 1) (number_at (codes "every") stock)
    && nat_le (span / unsigned_abs (number_at (codes "every") stock)) 65535)

abbrev pub pace_broken : Members → Option ℕ
pace_broken t = first_failing (has_pace (span_of t)) (stocks t)

-- `series` is there exactly where some stock has `rows`
abbrev pub is_by_rows : Data → Bool
is_by_rows d = passes (goes_by (codes "rows")) (as_table d)

abbrev pub has_rows : Members → Bool
has_rows t = list_any is_by_rows (stocks t)

abbrev pub series_broken : Members → Option ℕ
series_broken t = broken_unless (if has_rows t then is_some (text_at (codes "series") t) else is_none (text_at (codes "series") t)) 0
