-- What a noise trader makes of a quote.
use Rattle.std.specs.Prelude.{ℕ, ◌+◌, ◌==◌, ℤ, pos, if◌then◌else◌, [], ◌∷◌}
use Rattle.market_types.specs.declared.message.Quote.{Quote}
use Rattle.market_types.specs.declared.order.Side.TheVariants.{Buy, Sell}
use Rattle.market_rules.specs.Nearest.{down_of, up_of}
use Rattle.draw_streams.specs.Below.{below_of}
use Rattle.agent_shell.specs.declared.wish.Wish.{Wish}
use Rattle.agent_shell.specs.Choice.{Choice, day_order}
use Rattle.agent_shell.specs.Sight.{Sight}
use Rattle.agent_shell.specs.Trader.{Trader, trader_word}

-- the price of a side of a quote where it is there, and another where it is absent
abbrev pub price_or : ℕ → ℤ → ℤ
price_or quoted other = if quoted == 0 then other else pos quoted

-- Heads, it buys at the ask, or at the value rounded down to an allowed price where there is no ask. Tails, it sells at the bid, or at
-- the value rounded up where there is no bid.
abbrev pub noise_wish : Sight → Quote → ℕ → ℕ → Wish
noise_wish v q coin shares =
    if coin == 0
    then day_order Buy shares (price_or q.ask (down_of v.bands (pos v.value))) 0
    else day_order Sell shares (price_or q.bid (up_of v.bands (pos v.value))) 0

-- The first draw is the coin, the second picks from one share to its size.
abbrev pub noise_choice : Sight → Trader → Quote → ℕ → Choice
noise_choice v t q size = record {
  draws = 2;
  past = t.past;
  wishes = noise_wish v q (below_of (trader_word v t t.draws) 2) (1 + below_of (trader_word v t (t.draws + 1)) size) ∷ [];
}
