-- The text of the large study: two stocks with fifty traders each, and eight branches with the root.
use Rattle.std.specs.Prelude.{ℕ, zero, suc, ◌+◌, ◌-◌, ◌/◌, ◌%◌, if◌then◌else◌, List, [], ◌∷◌, ◌++◌, codes, nat_lt}
use Rattle.std.specs.Fmt.{decimal}
use Rattle.std.specs.List.{concat, flat_map}
use Rattle.std.specs.Str.{byte}

-- each line with its newline
abbrev pub lines : List (List ℕ) → List ℕ
lines = flat_map (λ (line : List ℕ). line ++ 10 ∷ [])

-- the hexadecimal digit of a number below sixteen: `0` to `9`, and then `a` to `f`
abbrev pub hex_digit : ℕ → ℕ
hex_digit d = if nat_lt d 10 then byte "0" + d else byte "a" + (d - 10)

-- the last so many hexadecimal digits of a number, the most significant first
abbrev pub hex_digits : ℕ → ℕ → List ℕ
hex_digits zero n = []
hex_digits (suc count) n = hex_digits count (n / 16) ++ hex_digit (n % 16) ∷ []

-- a study's key is of 64 digits
unfoldable pub key_of : ℕ → List ℕ
key_of number = hex_digits 64 number

-- the key, the hours of trading and the limit on events
unfoldable pub head : ℕ → ℕ → List ℕ
head number limit = concat (
    lines (codes "version = 1" ∷ [])
    ∷ codes "key = \"" ∷ key_of number ∷ codes "\"\n"
    ∷ lines (codes "open = 34200000000000" ∷ codes "close = 36000000000000" ∷ [])
    ∷ codes "events = " ∷ decimal limit ∷ codes "\n" ∷ [])

-- the stride, the exchange, the latency between two groups, two stocks and a change of fees
unfoldable pub market : List ℕ
market = lines (
    codes "stride = 1000"
    ∷ codes "exchange = { group = 0, delay = 1000 }"
    ∷ codes "[latency]"
    ∷ codes "base = [[1000, 50000], [50000, 80000]]"
    ∷ codes "jitter = [[0, 20000], [20000, 20000]]"
    ∷ codes "[[stock]]"
    ∷ codes "symbol = \"ABM\""
    ∷ codes "bands = [[0, 100]]"
    ∷ codes "add = -2000"
    ∷ codes "take = 3000"
    ∷ codes "series = \"rule\""
    ∷ codes "start = 500000"
    ∷ codes "mean = 500000"
    ∷ codes "pull = 10000"
    ∷ codes "shock = 200"
    ∷ codes "every = 1000000000"
    ∷ codes "[[stock]]"
    ∷ codes "symbol = \"XYZ\""
    ∷ codes "bands = [[0, 100], [1000000, 500]]"
    ∷ codes "add = -2000"
    ∷ codes "take = 3000"
    ∷ codes "series = \"rule\""
    ∷ codes "start = 1000000"
    ∷ codes "mean = 1010000"
    ∷ codes "pull = 5000"
    ∷ codes "shock = 500"
    ∷ codes "every = 1000000000"
    ∷ codes "[[change]]"
    ∷ codes "time = 34800000000000"
    ∷ codes "stock = \"XYZ\""
    ∷ codes "kind = \"fee\""
    ∷ codes "add = -1000"
    ∷ codes "take = 2000" ∷ [])

-- the traders of a stock: the lines before it, and those behind it
abbrev pub entry : List (List ℕ) → List ℕ → List (List ℕ) → List ℕ
entry before symbol behind = concat (lines before ∷ codes "stock = \"" ∷ symbol ∷ codes "\"\n" ∷ lines behind ∷ [])

-- two makers of a stock
unfoldable pub makers : List ℕ → List ℕ
makers symbol = entry (
    codes "[[agent]]"
    ∷ codes "kind = \"maker\""
    ∷ codes "group = 0" ∷ []
    ) symbol (
    codes "first = 34200000000000"
    ∷ codes "every = 2000000000"
    ∷ codes "wobble = 500000000"
    ∷ codes "delay = 2000"
    ∷ codes "size = 200"
    ∷ codes "half = 200"
    ∷ codes "step = 100"
    ∷ codes "levels = 3"
    ∷ codes "pause = 100"
    ∷ codes "count = 2"
    ∷ codes "spread = 250000000" ∷ []
    )

-- thirty noise traders of a stock
unfoldable pub noise_traders : List ℕ → List ℕ
noise_traders symbol = entry (
    codes "[[agent]]"
    ∷ codes "kind = \"noise\""
    ∷ codes "group = 1" ∷ []
    ) symbol (
    codes "first = 34201000000000"
    ∷ codes "every = 5000000000"
    ∷ codes "wobble = 4000000000"
    ∷ codes "delay = 20000"
    ∷ codes "size = 100"
    ∷ codes "count = 30"
    ∷ codes "spread = 100000000" ∷ []
    )

-- fifteen value traders of a stock
unfoldable pub value_traders : List ℕ → List ℕ
value_traders symbol = entry (
    codes "[[agent]]"
    ∷ codes "kind = \"value\""
    ∷ codes "group = 1" ∷ []
    ) symbol (
    codes "first = 34201000000000"
    ∷ codes "every = 5000000000"
    ∷ codes "wobble = 4000000000"
    ∷ codes "delay = 20000"
    ∷ codes "size = 100"
    ∷ codes "noise = 500"
    ∷ codes "margin = 200"
    ∷ codes "count = 15"
    ∷ codes "spread = 200000000" ∷ []
    )

-- three momentum traders of a stock
unfoldable pub momentum_traders : List ℕ → List ℕ
momentum_traders symbol = entry (
    codes "[[agent]]"
    ∷ codes "kind = \"momentum\""
    ∷ codes "group = 1" ∷ []
    ) symbol (
    codes "first = 34202000000000"
    ∷ codes "every = 5000000000"
    ∷ codes "wobble = 4000000000"
    ∷ codes "delay = 20000"
    ∷ codes "size = 100"
    ∷ codes "short = 5"
    ∷ codes "long = 20"
    ∷ codes "count = 3"
    ∷ codes "spread = 300000000" ∷ []
    )

-- all traders of a stock
abbrev pub traders : List ℕ → List ℕ
traders symbol = makers symbol ++ noise_traders symbol ++ value_traders symbol ++ momentum_traders symbol

-- the branches: a larger tick, no fees, a halt and its end, a slower link, a lower value, and in it a silent trader
unfoldable pub branches : List ℕ
branches = lines (
    codes "[[branch]]"
    ∷ codes "name = \"tick5\""
    ∷ codes "parent = \"root\""
    ∷ codes "at = 5000"
    ∷ codes "edit = [{ kind = \"tick\", stock = \"ABM\", bands = [[0, 500]] }]"
    ∷ codes "[[branch]]"
    ∷ codes "name = \"fee0\""
    ∷ codes "parent = \"root\""
    ∷ codes "at = 5000"
    ∷ codes "edit = [{ kind = \"fee\", stock = \"ABM\", add = 0, take = 0 }]"
    ∷ codes "[[branch]]"
    ∷ codes "name = \"halt\""
    ∷ codes "parent = \"root\""
    ∷ codes "at = 10000"
    ∷ codes "edit = [{ kind = \"halt\", stock = \"ABM\" }]"
    ∷ codes "[[branch]]"
    ∷ codes "name = \"resume\""
    ∷ codes "parent = \"halt\""
    ∷ codes "at = 12000"
    ∷ codes "edit = [{ kind = \"resume\", stock = \"ABM\" }]"
    ∷ codes "[[branch]]"
    ∷ codes "name = \"slow\""
    ∷ codes "parent = \"root\""
    ∷ codes "at = 10000"
    ∷ codes "edit = [{ kind = \"latency\", from = 1, to = 0, base = 500000, jitter = 20000 }]"
    ∷ codes "[[branch]]"
    ∷ codes "name = \"drop\""
    ∷ codes "parent = \"root\""
    ∷ codes "at = 15000"
    ∷ codes "edit = [{ kind = \"series\", stock = \"XYZ\", offset = -20000 }]"
    ∷ codes "[[branch]]"
    ∷ codes "name = \"calm\""
    ∷ codes "parent = \"drop\""
    ∷ codes "at = 15000"
    ∷ codes "edit = [{ kind = \"silence\", agent = 3 }]" ∷ [])

-- the study of a number, for a limit on events
abbrev pub large_study : ℕ → ℕ → List ℕ
large_study number limit = head number limit ++ market ++ traders (codes "ABM") ++ traders (codes "XYZ") ++ branches
