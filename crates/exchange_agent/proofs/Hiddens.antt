-- Whether hidden orders are taken never changes.
use Rattle.std.proofs.Common.{◌≡◌, ℕ, Bool, true, false, Option, Some, None, refl}
use Rattle.std.specs.Prelude.{◌==◌, nat_lt, if◌then◌else◌}
use Rattle.market_types.specs.declared.message.Body.{Body}
use Rattle.market_types.specs.declared.message.Body.TheVariants as body
use Rattle.market_types.specs.declared.order.Cancel.{Cancel}
use Rattle.market_types.specs.declared.order.Enter.{Enter}
use Rattle.market_types.specs.declared.order.Inbound.TheVariants as inbound
use Rattle.market_rules.specs.declared.changes.Change.{Change}
use Rattle.market_rules.specs.declared.changes.Change.TheVariants as change
use Rattle.exchange_agent.specs.declared.cancel.Found.{Found}
use Rattle.exchange_agent.specs.declared.verdict.Verdict.{Verdict}
use Rattle.exchange_agent.specs.declared.verdict.Verdict.TheVariants.{Ignored, Forgotten, Refused, Accepted}
use Rattle.exchange_agent.specs.Cancel.{cancel_of, found_from}
use Rattle.exchange_agent.specs.Changes.{Changed, changed_by, turned}
use Rattle.exchange_agent.specs.Enter.{entered_by, verdict_of}
use Rattle.exchange_agent.specs.Market.{market}
use Rattle.exchange_agent.specs.Outcome.{Outcome}
use Rattle.exchange_agent.specs.State.{State, stock_at}

outcome-by : (b : Bool) (x y : Outcome) (h : Bool) → x.state.hidden ≡ h → y.state.hidden ≡ h → (if b then x else y).state.hidden ≡ h
outcome-by true x y h p q = p
outcome-by false x y h p q = q

changed-either : (b : Bool) (x y : Changed) (h : Bool) → x.state.hidden ≡ h → y.state.hidden ≡ h → (if b then x else y).state.hidden ≡ h
changed-either true x y h p q = p
changed-either false x y h p q = q

stays-entered : (s : State) (time agent : ℕ) (e : Enter) (v : Verdict) → (entered_by s time agent e v).state.hidden ≡ s.hidden
stays-entered s time agent e Ignored = refl
stays-entered s time agent e (Forgotten reason) = refl
stays-entered s time agent e (Refused reason) = refl
stays-entered s time agent e (Accepted k) = refl

stays-canceled : (s : State) (time agent : ℕ) (c : Cancel) (f : Option Found) → (cancel_of s time agent c f).state.hidden ≡ s.hidden
stays-canceled s time agent c None = refl
stays-canceled s time agent c (Some f) = outcome-by (nat_lt c.shares f.order.intended) _ _ s.hidden refl refl

pub stays-taken : (s : State) (time agent : ℕ) (b : Body) → (market s time agent b).state.hidden ≡ s.hidden
stays-taken s time agent (body.Order (inbound.Enter e)) = stays-entered s time agent e (verdict_of s agent e)
stays-taken s time agent (body.Order (inbound.Cancel c)) = stays-canceled s time agent c (found_from 0 agent c.token s.stocks)
stays-taken s time agent (body.Ask k) = refl
stays-taken s time agent body.Wake = refl
stays-taken s time agent (body.Answer r) = refl
stays-taken s time agent (body.Quote q) = refl

stays-turned : (s : State) (time k letter : ℕ) → (turned s time k letter).state.hidden ≡ s.hidden
stays-turned s time k letter = changed-either ((stock_at s k).trading == letter) _ _ s.hidden refl refl

pub stays-changed : (s : State) (time k : ℕ) (c : Change) → (changed_by s time k c).state.hidden ≡ s.hidden
stays-changed s time k (change.Tick bands) = refl
stays-changed s time k (change.Fee fees) = refl
stays-changed s time k change.Halt = stays-turned s time k 72
stays-changed s time k change.Resume = stays-turned s time k 84
