-- Sizes and times of reactions and edits.
use Rattle.std.proofs.Common.{◌≡◌, ◌-◌, ℕ, Bool, true, false, length, All, refl}
use Rattle.std.specs.Prelude.{◌==◌, if◌then◌else◌}
use Rattle.std.proofs.lemmas.List.{length-set}
use Rattle.std.proofs.lemmas.List.Elements.{All-nil}
use Rattle.market_types.specs.declared.feed.Feed.{Feed}
use Rattle.market_types.specs.declared.message.Message.{Message}
use Rattle.market_rules.specs.declared.changes.Change.TheVariants as change
use Rattle.market_rules.specs.declared.edit.Edit.{Edit}
use Rattle.market_rules.specs.declared.edit.Edit.TheVariants.{Tick, Fee, Halt, Resume, Latency, Agent, Silence, Inject, Series}
use Rattle.agent_shell.specs.Trader.{trader_with}
use Rattle.market_floor.specs.Party.{with_trader}
use Rattle.exchange_agent.specs.Market.{market}
use Rattle.exchange_agent.proofs.Tellings.{at-change, at-time, keeps-size}
use Rattle.market_floor.specs.declared.opening.Opening.{Opening}
use Rattle.market_floor.specs.Edited.{edited_floor}
use Rattle.market_floor.specs.Floor.{FloorState, party_at}
use Rattle.market_floor.specs.Reaction.{Reaction, decided_by, market_reaction, reaction, trader_reaction}
use Rattle.market_floor.proofs.Changes.{like-change}

abbrev IsAt : ℕ → Feed → Type 0
IsAt time f = f.time ≡ time

-- what a reaction leaves
pub record Keeps (f : FloorState) (m : Message) (r : Reaction) : Type 0 where
  pub stocks : length r.floor.exchange.stocks ≡ length f.exchange.stocks
  pub traders : length r.floor.parties ≡ length f.parties
  pub times : All (λ (x : Feed). x.time ≡ m.time) r.feed

abbrev reaction-by : Bool → Opening → FloorState → Message → Reaction
reaction-by b o f m =
    if b then market_reaction o f (market f.exchange m.time m.from m.body)
    else trader_reaction f m.to (party_at f m.to) (decided_by o f.exchange f.offsets (party_at f m.to) m)

keeps-by : (b : Bool) (o : Opening) (f : FloorState) (m : Message) → Keeps f m (reaction-by b o f m)
keeps-by true o f m = record {
  stocks = (keeps-size f.exchange m.time m.from m.body).stocks;
  traders = refl;
  times = at-time f.exchange m.time m.from m.body;
}
keeps-by false o f m = record { stocks = refl; traders = length-set f.parties (m.to - 1) (with_trader (decided_by o f.exchange f.offsets (party_at f m.to) m).trader (party_at f m.to)); times = All-nil (IsAt m.time) }

pub reaction-keeps : (o : Opening) (f : FloorState) (m : Message) → Keeps f m (reaction o f m)
unfolding reaction
reaction-keeps o f m = keeps-by (m.to == 0) o f m

pub edited-stocks : (time : ℕ) (e : Edit) (f : FloorState) → length (edited_floor time e f).floor.exchange.stocks ≡ length f.exchange.stocks
edited-stocks time (Tick stock table) f = (like-change f.exchange time stock (change.Tick table)).stocks
edited-stocks time (Fee stock fees) f = (like-change f.exchange time stock (change.Fee fees)).stocks
edited-stocks time (Halt stock) f = (like-change f.exchange time stock change.Halt).stocks
edited-stocks time (Resume stock) f = (like-change f.exchange time stock change.Resume).stocks
edited-stocks time (Latency from to base jitter) f = refl
edited-stocks time (Agent agent name value) f = refl
edited-stocks time (Silence agent) f = refl
edited-stocks time (Inject agent after message) f = refl
edited-stocks time (Series stock offset) f = refl

pub edited-traders : (time : ℕ) (e : Edit) (f : FloorState) → length (edited_floor time e f).floor.parties ≡ length f.parties
edited-traders time (Tick stock table) f = refl
edited-traders time (Fee stock fees) f = refl
edited-traders time (Halt stock) f = refl
edited-traders time (Resume stock) f = refl
edited-traders time (Latency from to base jitter) f = refl
edited-traders time (Agent agent name value) f = length-set f.parties (agent - 1) (with_trader (trader_with name value (party_at f agent).trader) (party_at f agent))
edited-traders time (Silence agent) f = length-set f.parties (agent - 1) (record (party_at f agent) { silent = true })
edited-traders time (Inject agent after message) f = refl
edited-traders time (Series stock offset) f = refl

pub edited-times : (time : ℕ) (e : Edit) (f : FloorState) → All (λ (x : Feed). x.time ≡ time) (edited_floor time e f).feed
edited-times time (Tick stock table) f = at-change f.exchange time stock (change.Tick table)
edited-times time (Fee stock fees) f = at-change f.exchange time stock (change.Fee fees)
edited-times time (Halt stock) f = at-change f.exchange time stock change.Halt
edited-times time (Resume stock) f = at-change f.exchange time stock change.Resume
edited-times time (Latency from to base jitter) f = All-nil (IsAt time)
edited-times time (Agent agent name value) f = All-nil (IsAt time)
edited-times time (Silence agent) f = All-nil (IsAt time)
edited-times time (Inject agent after message) f = All-nil (IsAt time)
edited-times time (Series stock offset) f = All-nil (IsAt time)
