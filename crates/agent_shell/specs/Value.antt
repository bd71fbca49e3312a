-- What a trader on value makes of a quote.
use Rattle.std.specs.Prelude.{ℕ, ◌+◌, ◌==◌, not, ◌&&◌, nat_le, min, max, ℤ, pos, negsuc, ◌+ℤ◌, ◌-ℤ◌, if◌then◌else◌, List, [], ◌∷◌}
use Rattle.market_types.specs.Limits.{highest_price}
use Rattle.market_types.specs.declared.message.Quote.{Quote}
use Rattle.market_types.specs.declared.order.Side.TheVariants.{Buy, Sell}
use Rattle.market_rules.specs.Nearest.{down_of, up_of}
use Rattle.draw_streams.specs.Below.{below_of}
use Rattle.draw_streams.specs.Centred.{centred_of}
use Rattle.agent_shell.specs.Choice.{Choice, day_order}
use Rattle.agent_shell.specs.Sight.{Sight}
use Rattle.agent_shell.specs.Trader.{Trader, trader_word}

-- the price nearest to a number
abbrev pub clamped : ℤ → ℕ
clamped (pos n) = max 1 (min n highest_price)
clamped (negsuc n) = 1

-- what it takes for the value, which is off by as much as a word picks
abbrev pub guess_of : ℕ → ℕ → ℕ → ℕ
guess_of value word noise = clamped (pos value +ℤ centred_of word noise)

-- By its guess and a coin: it buys at an ask that is the margin or more below its guess, else it sells at a bid that is the margin or
-- more above it; else the coin, its second draw, picks the side on which it waits, the margin away from its guess.
abbrev pub value_by : Sight → List ℕ → Quote → ℕ → ℕ → ℕ → ℕ → Choice
value_by v past q size margin guess coin =
    if not (q.ask == 0) && nat_le (q.ask + margin) guess
    then record { draws = 1; past = past; wishes = day_order Buy size (pos q.ask) 0 ∷ [] }
    else if not (q.bid == 0) && nat_le (guess + margin) q.bid
    then record { draws = 1; past = past; wishes = day_order Sell size (pos q.bid) 0 ∷ [] }
    else if coin == 0
    then record { draws = 2; past = past; wishes = day_order Buy size (down_of v.bands (pos guess -ℤ pos margin)) 0 ∷ [] }
    else record { draws = 2; past = past; wishes = day_order Sell size (up_of v.bands (pos guess +ℤ pos margin)) 0 ∷ [] }

abbrev pub value_choice : Sight → Trader → Quote → ℕ → ℕ → ℕ → Choice
value_choice v t q size noise margin =
    value_by v t.past q size margin (guess_of v.value (trader_word v t t.draws) noise) (below_of (trader_word v t (t.draws + 1)) 2)
