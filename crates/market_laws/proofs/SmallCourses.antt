-- Live orders and feeds of runs are small, as those of what their exchange met.
use Rattle.std.proofs.Common.{ℕ, ℤ, ◌≤◌, Bool, List, length, All, sym, subst, arith}
use Rattle.std.specs.List.{AllByRecursion}
use Rattle.market_types.specs.declared.feed.Feed.{Feed}
use Rattle.exchange_agent.specs.declared.told.StockRules.{StockRules}
use Rattle.exchange_agent.specs.Open.{IsOpening as IsMarket, opened}
use Rattle.exchange_agent.specs.Runs.{Act, IsPossible, run}
use Rattle.exchange_agent.specs.State.{State as Exchange}
use Rattle.market_floor.specs.declared.opening.Opening.{Opening}
use Rattle.market_floor.specs.Opening.{IsOpening, cash_of}
use Rattle.kernel_core.specs.Until.{Run}
use Rattle.feed_rebuild.specs.Feeds.{entries_feed}
use Rattle.market_laws.specs.Feeds.{feed_over}
use Rattle.market_laws.specs.Messages.{messages_in}
use Rattle.market_laws.specs.Small.{IsSmallExchange, IsSmallFeed}
use Rattle.market_laws.specs.History.{IsMetAs, first_exchange}
use Rattle.market_laws.proofs.Conserved.{possible-accounts}
use Rattle.market_laws.proofs.Keeping.{few-accounts}

-- the laws of an exchange's runs
abbrev pub OrdersAreSmall : Type 0
OrdersAreSmall =
    (rules : List StockRules) (cash : List ℤ) (hidden : Bool) (acts : List Act) → IsMarket rules cash
    → AllByRecursion (IsPossible (length cash) (length rules)) acts
    → IsSmallExchange (length cash) (messages_in acts) (run (opened rules cash hidden) acts)

abbrev pub HasSmallFeed : List StockRules → Exchange → List Feed → Type 0
HasSmallFeed rules s feed = All (IsSmallFeed (length rules) s.counts.orders s.counts.matches) feed

abbrev pub FeedsAreSmall : Type 0
FeedsAreSmall =
    (rules : List StockRules) (cash : List ℤ) (hidden : Bool) (acts : List Act) → IsMarket rules cash
    → AllByRecursion (IsPossible (length cash) (length rules)) acts
    → HasSmallFeed rules (run (opened rules cash hidden) acts) (feed_over (opened rules cash hidden) acts)

-- each message was an event
small-more : (traders messages events : ℕ) (s : Exchange) → messages ≤ events → IsSmallExchange traders messages s → IsSmallExchange traders events s
small-more traders messages events s le h = record { stocks = h.stocks; resting = h.resting; accepted = omega (arith, h.accepted, le); ended = h.ended }

pub small-orders : (o : Opening) (r : Run) (acts : List Act) → IsOpening o → OrdersAreSmall → IsMetAs o r acts → IsSmallExchange (length o.traders) r.state.events r.state.floor.exchange
small-orders o r acts opening law met =
    let h = law o.stocks (cash_of o) o.hidden acts opening.market (possible-accounts o acts met.possible) in
    let traders = subst (λ (n : ℕ). IsSmallExchange n (messages_in acts) (run (first_exchange o) acts)) (few-accounts o) h in
    let here = subst (λ (s : Exchange). IsSmallExchange (length o.traders) (messages_in acts) s) (sym met.exchange) traders in
    small-more (length o.traders) (messages_in acts) r.state.events r.state.floor.exchange met.messages here

pub small-feed : (o : Opening) (r : Run) (acts : List Act) → IsOpening o → FeedsAreSmall → IsMetAs o r acts → HasSmallFeed o.stocks r.state.floor.exchange (entries_feed r.entries)
small-feed o r acts opening law met =
    let h = law o.stocks (cash_of o) o.hidden acts opening.market (possible-accounts o acts met.possible) in
    let here = subst (λ (s : Exchange). HasSmallFeed o.stocks s (feed_over (first_exchange o) acts)) (sym met.exchange) h in
    subst (λ (f : List Feed). HasSmallFeed o.stocks r.state.floor.exchange f) (sym met.feed) here
