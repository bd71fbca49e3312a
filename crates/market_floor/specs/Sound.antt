-- What holds of a floor after so many events.
use Rattle.std.specs.Prelude.{◌≡◌, ◌<◌, ◌≤◌, ℕ, length, All}
use Rattle.market_types.specs.Limits.{most_traders}
use Rattle.agent_shell.specs.Bounds.{IsAfter}
use Rattle.market_floor.specs.Party.{PartyState}
use Rattle.exchange_agent.specs.State.{Stock}
use Rattle.market_floor.specs.declared.opening.Opening.{Opening}
use Rattle.market_floor.specs.Opening.{IsOpening}
use Rattle.market_floor.specs.Floor.{FloorState}

-- a trader's stock is one of so many, and it heard at most so many messages
pub record IsSoundParty (stocks events : ℕ) (p : PartyState) : Type 0 where
  pub stock : p.trader.setting.stock < stocks
  pub after : IsAfter events p.trader

-- Exchange, traders and offsets fit together, and no count is higher than so many events can make it.
pub record IsSoundFloor (events : ℕ) (f : FloorState) : Type 0 where
  pub traders : length f.exchange.cash ≡ length f.parties
  pub few : length f.parties ≤ most_traders
  pub offsets : length f.offsets ≡ length f.exchange.stocks
  pub enters : f.exchange.counts.enters ≤ events
  pub cancels : f.exchange.counts.cancels ≤ events
  pub books : All (λ (k : Stock). length k.book ≤ events) f.exchange.stocks
  pub parties : All (λ (p : PartyState). IsSoundParty (length f.exchange.stocks) events p) f.parties

-- an opening in its ranges has as many stocks and traders as a floor
pub record FitsFloor (o : Opening) (f : FloorState) : Type 0 where
  pub opening : IsOpening o
  pub stocks : length o.stocks ≡ length f.exchange.stocks
  pub traders : length o.traders ≡ length f.parties
