-- The limits that more than one crate speaks of.
use Rattle.std.specs.Prelude.{ℕ}

-- the greatest price, with four implied decimals: 199,999.99 dollars
abbrev pub highest_price : ℕ
highest_price = 1999999900

-- the longest delay, latency or pause in nanoseconds: an hour
abbrev pub longest_delay : ℕ
longest_delay = 3600000000000

-- the last nanosecond of a day
abbrev pub last_time : ℕ
last_time = 86399999999999

-- how many traders there can be, beside the exchange
abbrev pub most_traders : ℕ
most_traders = 511

-- how many stocks there can be
abbrev pub most_stocks : ℕ
most_stocks = 16

-- how many events a branch can have
abbrev pub most_events : ℕ
most_events = 1000000

-- how many messages can wait
abbrev pub most_waiting : ℕ
most_waiting = 65536
