-- How the value of a stock goes from step to step by a rule.
use Rattle.std.specs.Prelude.{ℕ, zero, suc, ◌+◌, ◌/◌, ◌^◌, min, max, ℤ, pos, negsuc, ◌+ℤ◌, ◌-ℤ◌, ◌*ℤ◌, List}
use Rattle.draw_streams.specs.Centred.{centred_of}
use Rattle.draw_streams.specs.Draw.{draw_of}
use Rattle.market_types.specs.Limits.{highest_price}
use Rattle.fundamental_series.specs.declared.rule.SeriesRule.{SeriesRule}

-- a quotient rounded toward minus infinity: -(n + 1) over d goes down to -(n / d + 1)
abbrev pub floor_of : ℤ → ℕ → ℤ
floor_of (pos n) d = pos (n / d)
floor_of (negsuc n) d = negsuc (n / d)

-- the price that is nearest to a number, from 0.0001 to 199,999.99 dollars
abbrev pub clamped : ℤ → ℕ
clamped (pos n) = max 1 (min n highest_price)
clamped (negsuc n) = 1

-- the value one step later: it goes by so many millionths of its distance toward the mean, and takes a shock that a word picks
abbrev pub stepped : SeriesRule → ℕ → ℕ → ℕ
stepped rule value word =
    clamped (pos value +ℤ floor_of (pos rule.pull *ℤ (pos rule.mean -ℤ pos value)) 1000000 +ℤ centred_of word rule.shock)

-- the value after so many steps; the word of a step is the draw of its number in the stock's own stream, which is the one
-- of the stock's number after stream 2 ^ 33
abbrev pub value_after : List ℕ → ℕ → SeriesRule → ℕ → ℕ
value_after key stock rule zero = rule.start
value_after key stock rule (suc step) =
    stepped rule (value_after key stock rule step) (draw_of key (2 ^ 33 + stock) step)

-- a value with the offset of edits: the nearest price
abbrev pub with_offset_of : ℕ → ℤ → ℕ
with_offset_of value offset = clamped (pos value +ℤ offset)
