-- What holds of each state of a course after so many edits: what lets an edit be made there.
use Rattle.std.specs.Prelude.{◌≡◌, ◌≤◌, ℕ, ◌+◌, ◌*◌, length, All}
use Rattle.market_types.specs.declared.message.Message.{Message}
use Rattle.market_rules.specs.declared.edit.Param.{Param}
use Rattle.agent_shell.specs.Parameters.{IsOwnParam}
use Rattle.exchange_agent.specs.Sound.{IsWithin}
use Rattle.agent_shell.specs.Sound.{IsTrader}
use Rattle.market_floor.specs.Party.{PartyState}
use Rattle.exchange_agent.specs.State.{Stock}
use Rattle.market_floor.specs.declared.opening.Opening.{Opening}
use Rattle.market_floor.specs.Floor.{FloorState, floor_at_opening, party_at}
use Rattle.kernel_core.specs.State.{State}
use Rattle.kernel_core.specs.Step.{Fits}

-- a parameter of each trader's kind at the opening is still one of its kind
abbrev pub KeepsKinds : Opening → FloorState → Type 0
KeepsKinds o f =
    (agent : ℕ) (name : Param) (value : ℕ) → IsOwnParam (party_at (floor_at_opening o) agent).trader.setting.kind name value
    → IsOwnParam (party_at f agent).trader.setting.kind name value

-- A floor after so many events and edits: as many stocks and traders, of the same kinds; no book has more orders than there
-- were events; and no edit moved an offset by more than 2,000,000,000.
pub record IsReachedFloor (o : Opening) (events edits : ℕ) (f : FloorState) : Type 0 where
  pub stocks : length o.stocks ≡ length f.exchange.stocks
  pub parties : length o.traders ≡ length f.parties
  pub kinds : KeepsKinds o f
  pub traders : All (λ (p : PartyState). IsTrader p.trader) f.parties
  pub books : All (λ (k : Stock). length k.book ≤ events) f.exchange.stocks
  pub offsets : All (IsWithin (2000000000 * edits)) f.offsets

-- A state after so many edits: the opening fits it, its time is within the hours, no message is due before the start, and at
-- most 2,000,066 messages and one of each edit were dropped (one event drops at most 2,000,002 of them).
pub record IsReached (o : Opening) (edits : ℕ) (s : State) : Type 0 where
  pub fits : Fits o s
  pub close : s.time ≤ o.close
  pub due : All (λ (m : Message). o.start ≤ m.time) s.post.waiting
  pub floor : IsReachedFloor o s.events edits s.floor
  pub drops : s.post.dropped ≤ 2000066 + edits
