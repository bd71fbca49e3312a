-- What a run keeps of its market.
use Rattle.std.specs.Prelude.{◌≡◌, ℕ, pos, ◌+ℤ◌, All, length}
use Rattle.exchange_agent.specs.Runs.{IsUncrossed, fees_taken, total}
use Rattle.exchange_agent.specs.State.{State as Exchange, stock_at}
use Rattle.branch_tree.specs.Plan.{Plan}
use Rattle.market_floor.specs.declared.opening.Opening.{Opening}
use Rattle.market_floor.specs.Opening.{cash_of}
use Rattle.kernel_core.specs.State.{State}
use Rattle.kernel_core.specs.Until.{Run}
use Rattle.kernel_copy.specs.Full.{full}
use Rattle.feed_rebuild.specs.Feeds.{entries_feed}
use Rattle.market_laws.specs.Executed.{executed_in}

-- the exchange of a run
abbrev pub exchange_of : Run → Exchange
exchange_of r = r.state.floor.exchange

-- What stays constant from a study's opening on.
pub record IsConservedMarket (o : Opening) (r : Run) : Type 0 where
  -- there are the opening's stocks, and no others
  pub stocks : length (exchange_of r).stocks ≡ length o.stocks
  -- the settled cash of all traders and all fees are together the opening cash
  pub money : total (exchange_of r).cash +ℤ fees_taken (exchange_of r).stocks ≡ total (cash_of o)
  -- the positions of each stock sum to zero
  pub positions : All (λ k. total k.tally.positions ≡ pos 0) (exchange_of r).stocks
  -- the matched shares of a stock are those that the run's feed tells as executed
  pub matched : (k : ℕ) → (stock_at (exchange_of r) k).tally.matched ≡ executed_in k (entries_feed r.entries)
  -- no two live orders of a stock cross
  pub uncrossed : All (λ k. IsUncrossed k.book) (exchange_of r).stocks

-- A state is that of a branch's full run up to some event number.
pub record IsStateOf (o : Opening) (p : Plan) (b : ℕ) (s : State) : Type 0 where
  pub events : ℕ
  pub state : s ≡ (full o p b events).state
