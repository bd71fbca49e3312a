-- The rules of a study's top table, of its exchange and its latencies. Each gives the least place at which it is broken, and is
-- asked only where every rule before it holds: so keys are there and have their types, and numbers are in the ranges that came
-- before.
use Rattle.std.specs.Prelude.{ℕ, ◌+◌, ◌-◌, ◌==◌, unsigned_abs, ℤ, pos, int_le, int_lt, Bool, ◌&&◌, not, List, [], ◌∷◌, Option, None, option_map, length, position, codes}
use Rattle.std.specs.Option.{option_or}
use Rattle.std.specs.Int.{is_in_range}
use Rattle.std.specs.List.{list_all}
use Rattle.toml.specs.Data.{Data, Members}
use Rattle.study_file.specs.Keys.{is_hex_digit, broken_key, has_keys}
use Rattle.study_file.specs.Values.{number_in, list_in, number_or, number_at, string_at, members_at, list_at, is_between, has_between, broken_unless}
use Rattle.study_market.specs.Forms.{top_keys, exchange_keys, latency_keys}

-- each top key without default is there, each is of its type, no other is there
abbrev pub top_keys_broken : Members → Option ℕ
top_keys_broken t = broken_key [] top_keys t

-- the version is 1 or 2
abbrev pub version_broken : Members → Option ℕ
version_broken t = broken_unless (has_between (pos 1) (pos 2) (codes "version") t) 0

-- the key has 64 lower-case hexadecimal digits
abbrev pub is_key : List ℕ → Bool
is_key text = length text == 64 && list_all is_hex_digit text

abbrev pub key_broken : Members → Option ℕ
key_broken t = broken_unless (is_key (string_at (codes "key") t)) 0

-- 0 <= open <= close <= 86,399,999,999,999
abbrev pub opens_at : Members → ℤ
opens_at t = number_at (codes "open") t

abbrev pub closes_at : Members → ℤ
closes_at t = number_at (codes "close") t

-- the times at which the market opens and closes, and how long it is open
abbrev pub start_of : Members → ℕ
start_of t = unsigned_abs (opens_at t)

abbrev pub close_of : Members → ℕ
close_of t = unsigned_abs (closes_at t)

abbrev pub span_of : Members → ℕ
span_of t = close_of t - start_of t

abbrev pub day_broken : Members → Option ℕ
day_broken t =
    broken_unless (int_le (pos 0) (opens_at t) && int_le (opens_at t) (closes_at t) && int_le (closes_at t) (pos 86399999999999)) 0

-- events 1 to 1,000,000; stride 100 to 1,000,000
abbrev pub limits_broken : Members → Option ℕ
limits_broken t =
    option_or (broken_unless (has_between (pos 1) (pos 1000000) (codes "events") t) 0)
    (broken_unless (is_between (pos 100) (pos 1000000) (number_or (pos 10000) (codes "stride") t)) 1)

-- exchange and latency have their keys with their types and no other
abbrev pub exchange_of : Members → Members
exchange_of t = members_at (codes "exchange") t

abbrev pub latency_of : Members → Members
latency_of t = members_at (codes "latency") t

abbrev pub parts_broken : Members → Option ℕ
parts_broken t =
    option_or (broken_unless (has_keys [] exchange_keys (exchange_of t)) 0)
    (broken_unless (has_keys [] latency_keys (latency_of t)) 1)

-- base and jitter are square with one size from 1 to 32
abbrev pub bases : Members → List Data
bases t = list_at (codes "base") (latency_of t)

abbrev pub jitters : Members → List Data
jitters t = list_at (codes "jitter") (latency_of t)

abbrev pub size_of : Members → ℕ
size_of t = length (bases t)

abbrev pub is_square : ℕ → List Data → Bool
is_square size rows = length rows == size && list_all (λ d. length (list_in d) == size) rows

abbrev pub are_square : Members → Bool
are_square t = is_in_range 1 32 (size_of t) && (is_square (size_of t) (bases t) && is_square (size_of t) (jitters t))

abbrev pub squares_broken : Members → Option ℕ
squares_broken t = broken_unless (are_square t) 0

-- each base 0 to 3,600,000,000,000, each jitter 0 to 4,294,967,295
abbrev pub cell_outside : ℤ → ℕ → List Data → Option ℕ
cell_outside high place [] = None
cell_outside high place (d ∷ ds) =
    option_or (option_map (λ column. place + column) (position (λ x. not (is_between (pos 0) high (number_in x))) (list_in d)))
    (cell_outside high (place + 32) ds)

abbrev pub cells_broken : Members → Option ℕ
cells_broken t = option_or (cell_outside (pos 3600000000000) 0 (bases t)) (cell_outside (pos 4294967295) 1024 (jitters t))

-- the exchange's group is below the size, its delay 0 to 3,600,000,000,000
abbrev pub is_group : ℕ → Members → Bool
is_group size t = int_le (pos 0) (number_at (codes "group") t) && int_lt (number_at (codes "group") t) (pos size)

abbrev pub is_exchange : ℕ → Members → Bool
is_exchange size t = is_group size t && has_between (pos 0) (pos 3600000000000) (codes "delay") t

abbrev pub exchange_broken : Members → Option ℕ
exchange_broken t = broken_unless (is_exchange (size_of t) (exchange_of t)) 0
