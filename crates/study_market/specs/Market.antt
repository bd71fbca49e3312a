-- What a study's top table says of the market: the key of its draws and its latencies.
use Rattle.std.specs.Prelude.{ℕ, ◌+◌, ◌-◌, ◌*◌, unsigned_abs, List, [], ◌∷◌, map, codes, if◌then◌else◌}
use Rattle.std.specs.Int.{is_in_range}
use Rattle.toml.specs.Data.{Data, Members}
use Rattle.study_file.specs.Values.{number_in, list_in, string_at}
use Rattle.study_market.specs.MarketRules.{bases, jitters}
use Rattle.latency_model.specs.Tables.{Tables}

-- the value of a digit of lower-case hexadecimal
abbrev pub hex_value : ℕ → ℕ
hex_value c = if is_in_range 48 57 c then c - 48 else c - 87

-- the bytes that such digits say, two digits for each byte, the first byte first
abbrev pub hex_bytes : List ℕ → List ℕ
hex_bytes [] = []
hex_bytes (a ∷ []) = []
hex_bytes (a ∷ (b ∷ rest)) = (hex_value a * 16 + hex_value b) ∷ hex_bytes rest

-- the key of the draws
abbrev pub key_of : Members → List ℕ
key_of t = hex_bytes (string_at (codes "key") t)

-- the numbers of a row
abbrev pub numbers_in : Data → List ℕ
numbers_in d = map (λ (x : Data). unsigned_abs (number_in x)) (list_in d)

-- the latencies between groups
abbrev pub latencies_of : Members → Tables
latencies_of t = record { base = map numbers_in (bases t); jitter = map numbers_in (jitters t) }
