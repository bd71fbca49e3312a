-- What a floor gives to the mail has its texts in their ranges, and it keeps what that needs.
use Rattle.std.proofs.Common.{◌≡◌, ℕ, ◌+◌, ◌-◌, ◌<◌, ◌≤◌, true, List, [], ◌∷◌, length, map, All, refl, sym, subst, arith}
use Rattle.std.specs.Prelude.{◌==◌, slice_index_or}
use Rattle.std.proofs.lemmas.List.Elements.{All-cons, All-head, All-map, All-nil, All-set, All-tail, All-weaker}
use Rattle.market_types.specs.declared.message.Message.{Message}
use Rattle.market_rules.specs.declared.changes.Change.TheVariants as change
use Rattle.market_rules.specs.declared.changes.Dated.{Dated}
use Rattle.market_rules.specs.declared.edit.Edit.{Edit}
use Rattle.market_rules.specs.declared.edit.Edit.TheVariants.{Tick, Fee, Halt, Resume, Latency, Agent, Silence, Inject, Series}
use Rattle.market_rules.specs.declared.edit.Param.{Param}
use Rattle.market_rules.specs.declared.edit.Param.TheVariants as param
use Rattle.agent_shell.specs.declared.sending.Sending.{Sending}
use Rattle.agent_shell.specs.declared.sending.Sending.TheVariants as sending
use Rattle.agent_shell.specs.declared.setting.TraderSetting.{TraderSetting}
use Rattle.agent_shell.specs.Parameters.{setting_with}
use Rattle.agent_shell.specs.Sound.{IsOwn}
use Rattle.agent_shell.specs.Tokens.{IsGiven}
use Rattle.agent_shell.specs.Trader.{trader_with}
use Rattle.market_floor.specs.Party.{PartyState, party_at_opening, with_trader}
use Rattle.exchange_agent.specs.declared.told.StockRules.{StockRules}
use Rattle.exchange_agent.specs.Changes.{changed_by}
use Rattle.exchange_agent.specs.Market.{market}
use Rattle.exchange_agent.specs.Open.{listed}
use Rattle.exchange_agent.specs.State.{State}
use Rattle.market_floor.specs.declared.opening.Opening.{Opening}
use Rattle.market_floor.specs.declared.posting.Posting.{Posting}
use Rattle.market_floor.specs.Opening.{IsTraderOf, cash_of}
use Rattle.market_floor.specs.Postings.{body_of}
use Rattle.market_floor.specs.Edited.{edited_floor}
use Rattle.market_floor.specs.Floor.{FloorState, floor_at_opening, nobody, parties_from, party_at, with_party}
use Rattle.market_floor.specs.Posted.{to_exchange, to_receiver}
use Rattle.market_floor.specs.Reaction.{Reaction, decided_by, market_reaction, no_rules, reaction, sight_at, trader_reaction}
use Rattle.market_floor.specs.Ruled.{all_changed, due, ruled}
use Rattle.market_laws.specs.Texts.{HasBodyTexts, HasStockTexts, HasToken}
use Rattle.market_laws.proofs.Replies.{all-at, change-texts, if-both, market-spelled}
use Rattle.market_laws.proofs.Senders.{HasSendingTexts, IsName, reacted-spelled}

-- the symbols of an opening's stocks, of which there are some, may stand in a symbol's field
pub record HasNames (o : Opening) : Type 0 where
  pub some : 1 ≤ length o.stocks
  pub each : (k : ℕ) → k < length o.stocks → IsName (slice_index_or o.stocks k no_rules).symbol

-- a trader's stock exists, and the tokens of its own list are its own
pub record IsSpelledParty (o : Opening) (p : PartyState) : Type 0 where
  pub stock : p.trader.setting.stock < length o.stocks
  pub own : IsOwn p.trader.orders

-- the texts of all stocks are in their ranges
pub record IsSpelledFloor (o : Opening) (f : FloorState) : Type 0 where
  pub stocks : All HasStockTexts f.exchange.stocks
  pub parties : All (IsSpelledParty o) f.parties

abbrev pub HasPostingTexts : Posting → Type 0
HasPostingTexts x = HasBodyTexts (body_of x)

-- what comes of a message
pub record IsSpelledReaction (o : Opening) (r : Reaction) : Type 0 where
  pub floor : IsSpelledFloor o r.floor
  pub postings : All HasPostingTexts r.postings

-- ---- a trader

nobody-spelled : (o : Opening) → 1 ≤ length o.stocks → IsSpelledParty o nobody
nobody-spelled o some = record {
  stock = omega (arith, some);
  own = record { agent = omega arith; given = All-nil (λ e. IsGiven 0 0 e.0); few = omega arith };
}

party-spelled : (o : Opening) (f : FloorState) (agent : ℕ) → HasNames o → IsSpelledFloor o f → IsSpelledParty o (party_at f agent)
party-spelled o f agent names h = all-at (IsSpelledParty o) nobody (nobody-spelled o names.some) f.parties (agent - 1) h.parties

with-spelled : (o : Opening) (f : FloorState) (agent : ℕ) (p : PartyState) → IsSpelledParty o p → IsSpelledFloor o f → IsSpelledFloor o (with_party agent p f)
with-spelled o f agent p own h = record { stocks = h.stocks; parties = All-set (IsSpelledParty o) f.parties (agent - 1) p own h.parties }

sending-texts : (x : Sending) → HasSendingTexts x → HasPostingTexts (to_exchange x)
sending-texts (sending.To body extra) h = h
sending-texts (sending.WakeAt time) h = tt

trader-spelled : (o : Opening) (f : FloorState) (m : Message) → HasNames o → IsSpelledFloor o f
    → IsSpelledReaction o (trader_reaction f m.to (party_at f m.to) (decided_by o f.exchange f.offsets (party_at f m.to) m))
trader-spelled o f m names h =
    let p = party_at f m.to in
    let own = party-spelled o f m.to names h in
    let v = sight_at o f.exchange f.offsets p.trader.setting.stock m.time in
    let d = decided_by o f.exchange f.offsets p m in
    let does = reacted-spelled v p m.body (names.each p.trader.setting.stock own.stock) own.own in
    let stays : IsSpelledParty o (with_trader d.trader p) = record {
      stock = subst (λ (s : TraderSetting). s.stock < length o.stocks) (sym does.setting) own.stock;
      own = does.own;
    } in
    record {
      floor = with-spelled o f m.to (with_trader d.trader p) stays h;
      postings = All-map HasPostingTexts to_exchange d.sends
          (All-weaker HasSendingTexts (λ (x : Sending). HasPostingTexts (to_exchange x)) (λ x q. sending-texts x q) d.sends does.sends);
    }

-- ---- the exchange

market-reacts : (o : Opening) (f : FloorState) (m : Message) → HasBodyTexts m.body → IsSpelledFloor o f → IsSpelledReaction o (market_reaction o f (market f.exchange m.time m.from m.body))
market-reacts o f m texts h =
    let out = market-spelled f.exchange m.time m.from m.body texts h.stocks in
    record {
      floor = record { stocks = out.stocks; parties = h.parties };
      postings = All-map HasPostingTexts to_receiver (market f.exchange m.time m.from m.body).replies out.replies;
    }

pub reaction-spelled : (o : Opening) (f : FloorState) (m : Message) → HasNames o → HasBodyTexts m.body → IsSpelledFloor o f → IsSpelledReaction o (reaction o f m)
unfolding reaction
reaction-spelled o f m names texts h =
    if-both (m.to == 0) (IsSpelledReaction o) _ _ (market-reacts o f m texts h) (trader-spelled o f m names h)

-- ---- changes

changes-texts : (ds : List Dated) (s : State) → All HasStockTexts s.stocks → All HasStockTexts (all_changed ds s).state.stocks
changes-texts [] s h = h
changes-texts (d ∷ ds) s h = changes-texts ds (changed_by s d.time d.stock d.change).state (change-texts s d.time d.stock d.change h)

pub ruled-spelled : (o : Opening) (applied time : ℕ) (f : FloorState) → IsSpelledFloor o f → IsSpelledFloor o (ruled o applied time f).floor
unfolding ruled
ruled-spelled o applied time f h = record { stocks = changes-texts (due o applied time) f.exchange h.stocks; parties = h.parties }

setting-stock : (name : Param) (value : ℕ) (s : TraderSetting) → (setting_with name value s).stock ≡ s.stock
setting-stock param.Size value s = refl
setting-stock param.Every value s = refl
setting-stock param.Wobble value s = refl
setting-stock param.Delay value s = refl
setting-stock param.Noise value s = refl
setting-stock param.Margin value s = refl
setting-stock param.Half value s = refl
setting-stock param.Step value s = refl
setting-stock param.Levels value s = refl
setting-stock param.Pause value s = refl

market-edit : (o : Opening) (f : FloorState) (s : State) → All HasStockTexts s.stocks → IsSpelledFloor o f → IsSpelledFloor o (record { exchange = s; parties = f.parties; offsets = f.offsets })
market-edit o f s stocks h = record { stocks = stocks; parties = h.parties }

pub edit-spelled : (o : Opening) (time : ℕ) (e : Edit) (f : FloorState) → HasNames o → IsSpelledFloor o f → IsSpelledFloor o (edited_floor time e f).floor
edit-spelled o time (Tick stock table) f names h = market-edit o f _ (change-texts f.exchange time stock (change.Tick table) h.stocks) h
edit-spelled o time (Fee stock fees) f names h = market-edit o f _ (change-texts f.exchange time stock (change.Fee fees) h.stocks) h
edit-spelled o time (Halt stock) f names h = market-edit o f _ (change-texts f.exchange time stock change.Halt h.stocks) h
edit-spelled o time (Resume stock) f names h = market-edit o f _ (change-texts f.exchange time stock change.Resume h.stocks) h
edit-spelled o time (Latency from to base jitter) f names h = h
edit-spelled o time (Agent agent name value) f names h =
    let p = party_at f agent in
    let own = party-spelled o f agent names h in
    let stays : IsSpelledParty o (with_trader (trader_with name value p.trader) p) = record {
      stock = subst (λ (k : ℕ). k < length o.stocks) (sym (setting-stock name value p.trader.setting)) own.stock;
      own = own.own;
    } in
    with-spelled o f agent (with_trader (trader_with name value p.trader) p) stays h
edit-spelled o time (Silence agent) f names h =
    let own = party-spelled o f agent names h in
    with-spelled o f agent (record (party_at f agent) { silent = true }) (record { stock = own.stock; own = own.own }) h
edit-spelled o time (Inject agent after message) f names h = h
edit-spelled o time (Series stock offset) f names h = record { stocks = h.stocks; parties = h.parties }

-- ---- the opening

listed-texts : (n : ℕ) (rs : List StockRules) → All HasStockTexts (map (listed n) rs)
listed-texts n [] = All-nil HasStockTexts
listed-texts n (r ∷ rs) = All-cons HasStockTexts (listed n r) (map (listed n) rs) (record { tokens = All-nil HasToken; state = omega arith }) (listed-texts n rs)

opened-party : (o : Opening) (k : ℕ) (s : TraderSetting) → k ≤ 511 → IsTraderOf o s → IsSpelledParty o (party_at_opening k s)
opened-party o k s few h = record {
  stock = h.stock;
  own = record { agent = few; given = All-nil (λ e. IsGiven k 0 e.0); few = omega arith };
}

opened-parties : (o : Opening) (k : ℕ) (ss : List TraderSetting) → k + length ss ≤ 512 → All (λ (s : TraderSetting). IsTraderOf o s) ss → All (IsSpelledParty o) (parties_from k ss)
opened-parties o k [] few h = All-nil (IsSpelledParty o)
opened-parties o k (s ∷ ss) few h =
    let P : TraderSetting → Type 0 = λ x. IsTraderOf o x in
    All-cons (IsSpelledParty o) (party_at_opening k s) (parties_from (k + 1) ss) (opened-party o k s (omega (arith, few)) (All-head P s ss h))
    (opened-parties o (k + 1) ss (omega (arith, few)) (All-tail P s ss h))

pub opened-spelled : (o : Opening) → length o.traders ≤ 511 → All (λ (s : TraderSetting). IsTraderOf o s) o.traders → IsSpelledFloor o (floor_at_opening o)
opened-spelled o few h = record { stocks = listed-texts (length (cash_of o)) o.stocks; parties = opened-parties o 1 o.traders (omega (arith, few)) h }
