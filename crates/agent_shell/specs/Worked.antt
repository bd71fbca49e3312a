-- Traders, quotes and orders for worked examples.
use Rattle.std.specs.Prelude.{ℕ, ℤ, pos, List, [], ◌∷◌, replicate, codes}
use Rattle.market_types.specs.declared.message.Body.TheVariants.{Order}
use Rattle.market_types.specs.declared.message.Quote.{Quote}
use Rattle.market_types.specs.declared.order.Inbound.TheVariants.{Enter as NewOrder}
use Rattle.market_types.specs.declared.order.Side.{Side}
use Rattle.market_types.specs.declared.order.Side.TheVariants.{Buy}
use Rattle.market_types.specs.declared.order.Symbol.{Symbol}
use Rattle.market_types.specs.declared.order.Token.{Token}
use Rattle.market_types.specs.declared.reply.Reply.{Reply}
use Rattle.market_types.specs.declared.reply.Reply.TheVariants.{Canceled, Executed, Rejected}
use Rattle.market_rules.specs.declared.bands.Band.{Band}
use Rattle.agent_shell.specs.declared.sending.Sending.{Sending}
use Rattle.agent_shell.specs.declared.sending.Sending.TheVariants.{To}
use Rattle.agent_shell.specs.declared.setting.Kind.{Kind}
use Rattle.agent_shell.specs.declared.wish.Wish.{Wish}
use Rattle.agent_shell.specs.Choice.{day_order}
use Rattle.agent_shell.specs.Own.{OwnList}
use Rattle.agent_shell.specs.Shell.{Orders, orders_at_opening, with_order}
use Rattle.agent_shell.specs.Sight.{Sight}
use Rattle.agent_shell.specs.Trader.{Trader, trader_at_opening}

abbrev pub abm : Symbol
abm = record { 0 = codes "ABM     " }

-- ticks of a cent at each price
abbrev pub cents : List Band
cents = record { from = 0; tick = 100 } ∷ []

-- at time 1000 under the zero key, with a value of 10 dollars and ticks of a cent
abbrev pub ten_dollars : Sight
ten_dollars = record { time = 1000; key = replicate 32 0; symbol = abm; value = 100000; bands = cents }

-- a trader of a kind that wakes each 500 nanoseconds and up to 9 more, at the opening
abbrev pub opened : ℕ → Kind → Trader
opened agent kind = trader_at_opening agent
    (record { kind = kind; group = 0; stock = 0; first = 1000; every = 500; wobble = 9; delay = 0; cash = pos 1000 })

-- a quote of the first stock in a state, with 100 shares on each side
abbrev pub quote : ℕ → ℕ → ℕ → ℕ → Quote
quote state bid ask last = record { stock = 0; state = state; bid = bid; bid_shares = 100; ask = ask; ask_shares = 100; last = last }

abbrev pub token : List ℕ → Token
token text = record { 0 = text }

-- an order of a token that leaves after so long
abbrev pub entered : List ℕ → Side → ℕ → ℕ → ℕ → ℕ → Sending
entered text side shares price tif extra = To (Order (NewOrder (record {
  token = token text;
  side = side;
  shares = shares;
  stock = abm;
  price = price;
  tif = tif;
  firm = codes "ABID";
  display = 89;
  capacity = 80;
  sweep = 78;
  minimum = 0;
  cross = 78;
  customer = 78;
}))) extra

-- an agent with 1,000 millionths of a dollar and one open order, its first, which buys 100 shares
abbrev pub one_buy : Orders
one_buy = with_order (token (codes "T0037000000001")) Buy 100 (record (orders_at_opening 37 (pos 1000)) { tokens = 1 })

-- so many shares of that order are open
abbrev pub left_of : ℕ → OwnList
left_of n = (token (codes "T0037000000001"), record { side = Buy; left = n }) ∷ []

-- replies on an order
abbrev pub executed_at : List ℕ → ℕ → ℕ → Reply
executed_at text shares price = Executed 5 (token text) shares price 82 1

abbrev pub canceled_by : List ℕ → ℕ → Reply
canceled_by text decrement = Canceled 5 (token text) decrement 85

abbrev pub rejected_of : List ℕ → Reply
rejected_of text = Rejected 5 (token text) 72

-- the same with an own list of 64 orders
abbrev pub full_list : Orders
full_list = record one_buy { own = replicate 64 (token (codes "T0037000000001"), record { side = Buy; left = 1 }) }

-- an order of one share at a price
abbrev pub wish_at : ℤ → Wish
wish_at price = day_order Buy 1 price 0
