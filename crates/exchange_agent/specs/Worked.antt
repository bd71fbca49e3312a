-- Worked examples on one stock of cent ticks, fees of -20 and 30 millionths a share, and three traders.
use Rattle.std.specs.Prelude.{ℕ, pos, negsuc, true, false, [], ◌∷◌, codes}
use Rattle.market_types.specs.declared.order.Enter.{Enter}
use Rattle.market_types.specs.declared.order.Side.{Side}
use Rattle.market_types.specs.declared.order.Side.TheVariants.{Buy, Sell}
use Rattle.market_types.specs.declared.order.Token.{Token}
use Rattle.market_types.specs.declared.message.Body.{Body}
use Rattle.market_types.specs.declared.message.Body.TheVariants as body
use Rattle.market_types.specs.declared.order.Inbound.TheVariants as inbound
use Rattle.market_types.specs.declared.reply.Reply.TheVariants as reply
use Rattle.exchange_agent.specs.Outcome.{Outcome}
use Rattle.exchange_agent.specs.Market.{market}
use Rattle.exchange_agent.specs.State.{State}

abbrev pub opening : State
opening = record {
  stocks = record {
    symbol = record { 0 = codes "ABM     " };
    bands = record { from = 0; tick = 100 } ∷ [];
    fees = record { add = negsuc 19; take = pos 30 };
    trading = 84;
    book = [];
    tally = record { last = 0; matched = 0; taken = pos 0; positions = pos 0 ∷ pos 0 ∷ pos 0 ∷ [] };
  } ∷ [];
  cash = pos 0 ∷ pos 0 ∷ pos 0 ∷ [];
  pairs = [];
  counts = record { orders = 0; matches = 0; enters = 0; cancels = 0 };
  hidden = false;
}

abbrev pub token : ℕ → Token
token n = record { 0 = n ∷ codes "0001000000001" }

-- an order for the day
abbrev pub order : ℕ → Side → ℕ → ℕ → Enter
order n side shares price = record {
  token = token n;
  side = side;
  shares = shares;
  stock = record { 0 = codes "ABM     " };
  price = price;
  tif = 99999;
  firm = codes "ABID";
  display = 89;
  capacity = 80;
  sweep = 78;
  minimum = 0;
  cross = 78;
  customer = 78;
}

abbrev pub entering : State → ℕ → Enter → Outcome
entering s agent e = market s 3000 agent (body.Order (inbound.Enter e))

abbrev pub canceling : State → ℕ → ℕ → ℕ → Outcome
canceling s agent n shares = market s 3000 agent (body.Order (inbound.Cancel (record { token = token n; shares = shares })))

-- three sells: 100 at 10.01 dollars and 200 at 10.00 of the second trader, 300 at 10.00 of the third
abbrev pub one_sell : State
one_sell = (entering opening 2 (order 65 Sell 100 100100)).state

abbrev pub two_sells : State
two_sells = (entering one_sell 2 (order 66 Sell 200 100000)).state

abbrev pub three_sells : State
three_sells = (entering two_sells 3 (order 67 Sell 300 100000)).state

-- the first trader buys 700 at 10.01
abbrev pub sweep : Outcome
sweep = entering three_sells 1 (order 68 Buy 700 100100)

-- 500 to sell of which 200 were bought
abbrev pub bought_in_part : State
bought_in_part = (entering (entering opening 2 (order 65 Sell 500 100000)).state 1 (order 66 Buy 200 100000)).state

-- a hidden sell of the second trader and a shown one of the third, of 100 each at 10.00, where hidden orders are taken; then
-- the first trader buys 150
abbrev pub hidden_order : Enter
hidden_order = record (order 65 Sell 100 100000) { display = 78 }

abbrev pub hidden_sell : Outcome
hidden_sell = entering (record opening { hidden = true }) 2 hidden_order

abbrev pub shown_sell : Outcome
shown_sell = entering hidden_sell.state 3 (order 66 Sell 100 100000)

abbrev pub bought_of_both : Outcome
bought_of_both = entering shown_sell.state 1 (order 67 Buy 150 100000)

-- what is executed, in short
abbrev pub fill_told : ℕ → ℕ → ℕ → ℕ → ℕ → Body
fill_told n shares price flag number = body.Answer (reply.Executed 3000 (token n) shares price flag number)
