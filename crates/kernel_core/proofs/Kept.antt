-- What an event keeps: the offsets of the stocks' values, and the settings of the traders.
use Rattle.std.proofs.Common.{◌≡◌, ℕ, zero, suc, ◌-◌, true, false, cond, ltb, eqb, List, [], ◌∷◌, map, refl, ap, ◌∙◌, slice_index, slice_set, get_or}
use Rattle.market_types.specs.declared.message.Message.{Message}
use Rattle.market_types.specs.declared.message.Body.{Body}
use Rattle.market_types.specs.declared.message.Body.TheVariants.{Wake, Order, Answer, Ask, Quote}
use Rattle.agent_shell.specs.Decide.{Decided, decided, chosen, counted, choice_of}
use Rattle.agent_shell.specs.Sight.{Sight}
use Rattle.agent_shell.specs.Trader.{Trader}
use Rattle.agent_shell.specs.declared.setting.TraderSetting.{TraderSetting}
use Rattle.exchange_agent.specs.Market.{market}
use Rattle.market_floor.specs.Party.{PartyState, reacted, silenced}
use Rattle.market_floor.specs.declared.opening.Opening.{Opening}
use Rattle.market_floor.specs.Floor.{FloorState, party_at, nobody}
use Rattle.market_floor.specs.Reaction.{Reaction, decided_by, market_reaction, reaction, trader_reaction}
use Rattle.market_floor.specs.Ruled.{ruled}
use Rattle.kernel_core.specs.State.{State}
use Rattle.kernel_core.specs.Step.{Happened, event_of, event_back, event_delivered}

-- the settings of all traders
abbrev pub settings_of : FloorState → List TraderSetting
settings_of f = map (λ (p : PartyState). p.trader.setting) f.parties

decided-setting : (v : Sight) (t : Trader) (b : Body) → (decided v t b).trader.setting ≡ t.setting
decided-setting v t Wake = refl
decided-setting v t (Order inbound) = refl
decided-setting v t (Answer reply) = refl
decided-setting v t (Ask stock) = refl
decided-setting v t (Quote q) =
    elim (eqb q.state 84) as (λ b. let d : Decided = cond b (chosen v t (choice_of v t q)) (counted t) in d.trader.setting ≡ t.setting) [ true ↦ refl | false ↦ refl ]

silenced-setting : (t : Trader) (b : Body) → (silenced t b).trader.setting ≡ t.setting
silenced-setting t Wake = refl
silenced-setting t (Order inbound) = refl
silenced-setting t (Answer reply) = refl
silenced-setting t (Ask stock) = refl
silenced-setting t (Quote q) = refl

reacted-setting : (v : Sight) (p : PartyState) (b : Body) → (reacted v p b).trader.setting ≡ p.trader.setting
reacted-setting v p b =
    elim p.silent as (λ c. let d : Decided = cond c (silenced p.trader b) (decided v p.trader b) in d.trader.setting ≡ p.trader.setting) [
      | true ↦ silenced-setting p.trader b
      | false ↦ decided-setting v p.trader b
    ]

-- an item that is replaced by a like one
set-same : {X Y : Type 0} (g : X → Y) (xs : List X) (i : ℕ) (x d : X) → g x ≡ g (get_or xs i d) → map g (slice_set xs i x) ≡ map g xs
set-same g [] i x d e = refl
set-same g (y ∷ ys) zero x d e = ap (λ z. z ∷ map g ys) e
set-same g (y ∷ ys) (suc i) x d e = ap (λ zs. g y ∷ zs) (set-same g ys i x d e)

pub reaction-settings : (o : Opening) (f : FloorState) (m : Message) → settings_of (reaction o f m).floor ≡ settings_of f
unfolding reaction
reaction-settings o f m =
    let p = party_at f m.to in
    let d = decided_by o f.exchange f.offsets p m in
    elim (eqb m.to 0) as (λ b. let r : Reaction = cond b (market_reaction o f (market f.exchange m.time m.from m.body)) (trader_reaction f m.to p d) in settings_of r.floor ≡ settings_of f) [
      | true ↦ refl
      | false ↦ set-same (λ (q : PartyState). q.trader.setting) f.parties (m.to - 1) (record { trader = d.trader; silent = p.silent }) nobody (reacted-setting _ p m.body)
    ]

pub reaction-offsets : (o : Opening) (f : FloorState) (m : Message) → (reaction o f m).floor.offsets ≡ f.offsets
unfolding reaction
reaction-offsets o f m =
    let p = party_at f m.to in
    let d = decided_by o f.exchange f.offsets p m in
    elim (eqb m.to 0) as (λ b. let r : Reaction = cond b (market_reaction o f (market f.exchange m.time m.from m.body)) (trader_reaction f m.to p d) in r.floor.offsets ≡ f.offsets) [ true ↦ refl | false ↦ refl ]

ruled-settings : (o : Opening) (applied time : ℕ) (f : FloorState) → settings_of (ruled o applied time f).floor ≡ settings_of f
unfolding ruled
ruled-settings o applied time f = refl

ruled-offsets : (o : Opening) (applied time : ℕ) (f : FloorState) → (ruled o applied time f).floor.offsets ≡ f.offsets
unfolding ruled
ruled-offsets o applied time f = refl

-- an event keeps all settings and offsets
pub event-settings : (o : Opening) (s : State) (m : Message) → settings_of (event_of o s m).state.floor ≡ settings_of s.floor
unfolding event_of
event-settings o s m =
    let own = slice_index s.own m.to in
    elim (ltb m.time own) as (λ b. let h : Happened = cond b (event_back o s m own) (event_delivered o s m) in settings_of h.state.floor ≡ settings_of s.floor) [
      | true ↦ ruled-settings o s.applied m.time s.floor
      | false ↦ reaction-settings o (ruled o s.applied m.time s.floor).floor m ∙ ruled-settings o s.applied m.time s.floor
    ]

pub event-offsets : (o : Opening) (s : State) (m : Message) → (event_of o s m).state.floor.offsets ≡ s.floor.offsets
unfolding event_of
event-offsets o s m =
    let own = slice_index s.own m.to in
    elim (ltb m.time own) as (λ b. let h : Happened = cond b (event_back o s m own) (event_delivered o s m) in h.state.floor.offsets ≡ s.floor.offsets) [
      | true ↦ ruled-offsets o s.applied m.time s.floor
      | false ↦ reaction-offsets o (ruled o s.applied m.time s.floor).floor m ∙ ruled-offsets o s.applied m.time s.floor
    ]
