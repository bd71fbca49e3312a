-- What the receiver of a message does.
use Rattle.std.specs.Prelude.{◌≡◌, ◌≤◌, ℕ, ◌==◌, ℤ, pos, if◌then◌else◌, List, [], All, length, map, slice_index_or}
use Rattle.market_types.specs.declared.feed.Feed.{Feed}
use Rattle.market_types.specs.declared.message.Body.{Body}
use Rattle.market_types.specs.declared.message.Body.TheVariants.{Wake, Order, Answer, Ask, Quote}
use Rattle.market_types.specs.declared.message.Message.{Message}
use Rattle.fundamental_series.specs.Made.{value_of}
use Rattle.fundamental_series.specs.Value.{with_offset_of}
use Rattle.agent_shell.specs.Decide.{Decided}
use Rattle.agent_shell.specs.Sight.{Sight}
use Rattle.market_floor.specs.Party.{PartyState, reacted, with_trader}
use Rattle.exchange_agent.specs.declared.told.StockRules.{StockRules}
use Rattle.exchange_agent.specs.Market.{market}
use Rattle.exchange_agent.specs.Outcome.{Outcome}
use Rattle.exchange_agent.specs.State.{State, no_stock, stock_at}
use Rattle.market_floor.specs.declared.opening.Opening.{Opening}
use Rattle.market_floor.specs.declared.posting.Posting.{Posting}
use Rattle.market_floor.specs.Opening.{no_series}
use Rattle.market_floor.specs.Postings.{IsAddressed, earliest_of}
use Rattle.market_floor.specs.declared.postings.Happening.{Happening}
use Rattle.market_floor.specs.Floor.{FloorState, party_at, with_exchange, with_party}
use Rattle.market_floor.specs.Posted.{to_exchange, to_receiver}

-- The floor after it, what is given to the mail in order, how long the receiver computes, the feed, and the sum of fees.
pub record Reaction : Type 0 where
  pub floor : FloorState
  pub postings : List Posting
  pub delay : ℕ
  pub feed : List Feed
  pub fee : ℤ

-- the rules of no stock
abbrev pub no_rules : StockRules
no_rules = record { symbol = no_stock.symbol; ticks = []; fees = no_stock.fees }

-- the value of a stock at a time, with these offsets of the stocks: that of its series with its offset
abbrev pub value_at : Opening → List ℤ → ℕ → ℕ → ℕ
value_at o offsets stock time = with_offset_of (value_of (slice_index_or o.series stock no_series) time) (slice_index_or offsets stock (pos 0))

-- what a trader in a stock sees at a time: the ticks are those in force
abbrev pub sight_at : Opening → State → List ℤ → ℕ → ℕ → Sight
sight_at o exchange offsets stock time = record {
  time = time;
  key = o.key;
  symbol = (slice_index_or o.stocks stock no_rules).symbol;
  value = value_at o offsets stock time;
  bands = (stock_at exchange stock).bands;
}

-- the value that is looked up for a body: a trader judges by its stock's value where it hears a quote, and nowhere else
abbrev pub value_for : Opening → List ℤ → ℕ → ℕ → Body → ℕ
value_for o offsets stock time Wake = 1
value_for o offsets stock time (Order inbound) = 1
value_for o offsets stock time (Answer reply) = 1
value_for o offsets stock time (Ask asked) = 1
value_for o offsets stock time (Quote q) = value_at o offsets stock time

-- what a trader is shown with a body
abbrev pub sight_for : Opening → State → List ℤ → ℕ → ℕ → Body → Sight
sight_for o exchange offsets stock time body = record {
  time = time;
  key = o.key;
  symbol = (slice_index_or o.stocks stock no_rules).symbol;
  value = value_for o offsets stock time body;
  bands = (stock_at exchange stock).bands;
}

-- what a trader does with a message
abbrev pub decided_by : Opening → State → List ℤ → PartyState → Message → Decided
decided_by o exchange offsets p m = reacted (sight_at o exchange offsets p.trader.setting.stock m.time) p m.body

-- The exchange's replies leave in their order after its own delay.
abbrev pub market_reaction : Opening → FloorState → Outcome → Reaction
market_reaction o f out = record {
  floor = with_exchange out.state f;
  postings = map to_receiver out.replies;
  delay = o.exchange_delay;
  feed = out.feed;
  fee = out.fee;
}

-- A trader's sendings leave in their order after the trader's delay. It tells no feed and takes no fee.
abbrev pub trader_reaction : FloorState → ℕ → PartyState → Decided → Reaction
trader_reaction f agent p d = record {
  floor = with_party agent (with_trader d.trader p) f;
  postings = map to_exchange d.sends;
  delay = p.trader.setting.delay;
  feed = [];
  fee = pos 0;
}

-- The exchange is agent 0; the traders follow in their order.
unfoldable pub reaction : Opening → FloorState → Message → Reaction
reaction o f m =
    if m.to == 0 then market_reaction o f (market f.exchange m.time m.from m.body)
    else trader_reaction f m.to (party_at f m.to) (decided_by o f.exchange f.offsets (party_at f m.to) m)

-- what a happening tells of a reaction
pub record IsTold (r : Reaction) (h : Happening) : Type 0 where
  pub postings : h.postings ≡ r.postings
  pub delay : h.delay ≡ r.delay
  pub feed : h.after.list ≡ r.feed
  pub fee : h.fee ≡ r.fee

-- how many messages one event posts at most: two for each of a million matches, and two more
abbrev pub most_posted : ℕ
most_posted = 2000002

-- What the receiver of a message posts: each to an agent that there is, none earlier than the message, and not too many.
pub record ArePosted (traders stocks : ℕ) (m : Message) (xs : List Posting) : Type 0 where
  pub addressed : All (λ (x : Posting). IsAddressed traders stocks m.to x) xs
  pub ahead : All (λ (x : Posting). m.time ≤ earliest_of m.time x) xs
  pub few : length xs ≤ most_posted
