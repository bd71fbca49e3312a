-- What a run keeps of its market, as its exchange met it.
use Rattle.std.proofs.Common.{◌≡◌, ℕ, ℤ, pos, ◌+ℤ◌, Bool, List, length, All, sym, ap, ◌∙◌, subst}
use Rattle.std.specs.List.{AllByRecursion}
use Rattle.market_types.specs.declared.feed.Feed.{Feed}
use Rattle.exchange_agent.specs.declared.told.StockRules.{StockRules}
use Rattle.exchange_agent.specs.Open.{IsOpening as IsMarket, opened}
use Rattle.exchange_agent.specs.Runs.{Act, IsConserved, IsPossible, IsUncrossed, fees_taken, run, total}
use Rattle.exchange_agent.specs.State.{State as Exchange, Stock, stock_at}
use Rattle.market_floor.specs.declared.opening.Opening.{Opening}
use Rattle.market_floor.specs.Opening.{IsOpening, cash_of}
use Rattle.kernel_core.specs.Until.{Run}
use Rattle.market_laws.specs.Executed.{executed_in}
use Rattle.market_laws.specs.Feeds.{feed_over}
use Rattle.market_laws.specs.History.{IsMetAs, first_exchange}
use Rattle.market_laws.specs.Market.{IsConservedMarket}
use Rattle.market_laws.proofs.Keeping.{few-accounts}
use Rattle.market_laws.proofs.Walking.{IsWalked}

-- what the walk gives
pub met-walked : (o : Opening) (r : Run) → IsWalked o r → (acts : List Act) × IsMetAs o r acts
met-walked o r h = (h.led.acts, record { possible = h.led.possible; exchange = h.led.exchange; feed = h.led.feed; messages = h.led.messages })

-- as many accounts as traders
pub possible-accounts : (o : Opening) (acts : List Act) → AllByRecursion (IsPossible (length o.traders) (length o.stocks)) acts → AllByRecursion (IsPossible (length (cash_of o)) (length o.stocks)) acts
possible-accounts o acts h = subst (λ (n : ℕ). AllByRecursion (IsPossible n (length o.stocks)) acts) (sym (few-accounts o)) h

-- the law of an exchange's runs
abbrev pub RunsAreConserved : Type 0
RunsAreConserved =
    (rules : List StockRules) (cash : List ℤ) (hidden : Bool) (acts : List Act) → IsMarket rules cash
    → AllByRecursion (IsPossible (length cash) (length rules)) acts → IsConserved rules cash hidden acts

-- the law of what its feed tells of its matches
abbrev pub MatchesAreTold : Type 0
MatchesAreTold =
    (rules : List StockRules) (cash : List ℤ) (hidden : Bool) (acts : List Act) → IsMarket rules cash
    → AllByRecursion (IsPossible (length cash) (length rules)) acts
    → (k : ℕ) → (stock_at (run (opened rules cash hidden) acts) k).tally.matched ≡ executed_in k (feed_over (opened rules cash hidden) acts)

-- an exchange keeps what a run of it keeps
record IsConservedExchange (o : Opening) (s : Exchange) : Type 0 where
  money : total s.cash +ℤ fees_taken s.stocks ≡ total (cash_of o)
  positions : All (λ (k : Stock). total k.tally.positions ≡ pos 0) s.stocks
  uncrossed : All (λ (k : Stock). IsUncrossed k.book) s.stocks

conserved-exchange : (o : Opening) (acts : List Act) → IsConserved o.stocks (cash_of o) o.hidden acts → IsConservedExchange o (run (first_exchange o) acts)
conserved-exchange o acts h = record { money = h.money; positions = h.positions; uncrossed = h.uncrossed }

pub conserved-market : (o : Opening) (r : Run) (acts : List Act) → IsOpening o → length o.stocks ≡ length r.state.floor.exchange.stocks → RunsAreConserved → MatchesAreTold → IsMetAs o r acts → IsConservedMarket o r
conserved-market o r acts opening same law told met =
    let possible = possible-accounts o acts met.possible in
    let h = law o.stocks (cash_of o) o.hidden acts opening.market possible in
    let here = subst (λ (s : Exchange). IsConservedExchange o s) (sym met.exchange) (conserved-exchange o acts h) in
    record {
      stocks = sym same;
      money = here.money;
      positions = here.positions;
      matched = λ k.
          ap (λ (s : Exchange). (stock_at s k).tally.matched) met.exchange
          ∙ told o.stocks (cash_of o) o.hidden acts opening.market possible k
          ∙ sym (ap (λ (f : List Feed). executed_in k f) met.feed);
      uncrossed = here.uncrossed;
    }
