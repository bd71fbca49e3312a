-- Everything behind the receivers of messages as plain data.
use Rattle.std.specs.Prelude.{ℕ, ℤ, pos, ◌+◌, ◌-◌, List, [], ◌∷◌, length, replicate, slice_index_or, slice_set}
use Rattle.market_types.specs.declared.feed.Feed.{Feed}
use Rattle.agent_shell.specs.declared.setting.TraderSetting.{TraderSetting}
use Rattle.market_floor.specs.Party.{PartyState, party_at_opening}
use Rattle.exchange_agent.specs.Open.{opened}
use Rattle.exchange_agent.specs.State.{State}
use Rattle.market_floor.specs.declared.opening.Opening.{Opening}
use Rattle.market_floor.specs.Groups.{no_setting}
use Rattle.market_floor.specs.Opening.{cash_of}

-- The exchange; each trader with its silence, in order from agent 1 on; and the offset of each stock's value.
pub record FloorState : Type 0 where
  pub exchange : State
  pub parties : List PartyState
  pub offsets : List ℤ

-- A floor after something that may be told by the feed.
pub record FloorChanged : Type 0 where
  pub floor : FloorState
  pub feed : List Feed

-- the traders of these settings at the opening, the first of which has this number
abbrev pub parties_from : ℕ → List TraderSetting → List PartyState
parties_from agent [] = []
parties_from agent (s ∷ ss) = party_at_opening agent s ∷ parties_from (agent + 1) ss

-- no order rests, no trader is silenced, and no value has an offset
abbrev pub floor_at_opening : Opening → FloorState
floor_at_opening o = record {
  exchange = opened o.stocks (cash_of o) o.hidden;
  parties = parties_from 1 o.traders;
  offsets = replicate (length o.stocks) (pos 0);
}

-- the data of no trader
abbrev pub nobody : PartyState
nobody = party_at_opening 0 no_setting

-- the trader of a number
abbrev pub party_at : FloorState → ℕ → PartyState
party_at f agent = slice_index_or f.parties (agent - 1) nobody

-- the offset of the value of a stock
abbrev pub offset_at : FloorState → ℕ → ℤ
offset_at f stock = slice_index_or f.offsets stock (pos 0)

-- the floor with another exchange, another trader of a number, or another offset of a stock
abbrev pub with_exchange : State → FloorState → FloorState
with_exchange s f = record { exchange = s; parties = f.parties; offsets = f.offsets }

abbrev pub with_party : ℕ → PartyState → FloorState → FloorState
with_party agent p f = record { exchange = f.exchange; parties = slice_set f.parties (agent - 1) p; offsets = f.offsets }

abbrev pub with_offset : ℕ → ℤ → FloorState → FloorState
with_offset stock n f = record { exchange = f.exchange; parties = f.parties; offsets = slice_set f.offsets stock n }

-- the floor of these parts
abbrev pub floor_of : State → List PartyState → List ℤ → FloorState
floor_of exchange parties offsets = record { exchange = exchange; parties = parties; offsets = offsets }
