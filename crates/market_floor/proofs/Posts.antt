-- What is posted reaches an agent that there is, and is not too early.
use Rattle.std.proofs.Common.{◌≡◌, ℕ, ◌≤◌, ◌<◌, List, length, map, All, arith}
use Rattle.std.proofs.lemmas.List.{length-map}
use Rattle.std.proofs.lemmas.List.Elements.{All-map, All-weaker}
use Rattle.market_types.specs.declared.message.Body.TheVariants.{Wake, Order, Answer, Ask, Quote}
use Rattle.market_types.specs.declared.message.Message.{Message}
use Rattle.market_types.specs.declared.order.Inbound.TheVariants.{Enter as NewOrder, Cancel}
use Rattle.agent_shell.specs.declared.sending.Sending.{Sending}
use Rattle.agent_shell.specs.declared.sending.Sending.TheVariants.{To, WakeAt}
use Rattle.agent_shell.specs.Bounds.{AreSendings, IsSending}
use Rattle.agent_shell.specs.Sight.{Sight}
use Rattle.agent_shell.specs.Trader.{Trader}
use Rattle.exchange_agent.specs.declared.handled.Outgoing.{Outgoing}
use Rattle.exchange_agent.specs.Market.{IsAskable}
use Rattle.exchange_agent.specs.Outcome.{IsToTrader}
use Rattle.market_floor.specs.Postings.{IsAddressed, earliest_of}
use Rattle.market_floor.specs.Posted.{to_exchange, to_receiver}
use Rattle.market_floor.specs.Reaction.{ArePosted, most_posted}

sent-addressed : (traders stocks from : ℕ) (v : Sight) (t : Trader) (x : Sending) → 1 ≤ from → from ≤ traders → t.setting.stock < stocks → IsSending v t x → IsAddressed traders stocks from (to_exchange x)
sent-addressed traders stocks from v t (To Wake extra) one few stock h = absurd h
sent-addressed traders stocks from v t (To (Order (NewOrder e)) extra) one few stock h =
    record { sender = few; receiver = omega arith; known = λ _. one; asks = tt; extra = omega (arith, h.soon) }
sent-addressed traders stocks from v t (To (Order (Cancel c)) extra) one few stock h =
    record { sender = few; receiver = omega arith; known = λ _. one; asks = tt; extra = omega (arith, h.1) }
sent-addressed traders stocks from v t (To (Answer reply) extra) one few stock h = absurd h
sent-addressed traders stocks from v t (To (Ask k) extra) one few stock h =
    record { sender = few; receiver = omega arith; known = λ _. one; asks = omega (arith, h.0, stock); extra = omega (arith, h.1) }
sent-addressed traders stocks from v t (To (Quote q) extra) one few stock h = absurd h
sent-addressed traders stocks from v t (WakeAt time) one few stock h =
    record { sender = few; receiver = few; known = λ _. one; asks = tt; extra = omega arith }

sent-ahead : (v : Sight) (t : Trader) (x : Sending) → IsSending v t x → v.time ≤ earliest_of v.time (to_exchange x)
sent-ahead v t (To body extra) h = omega arith
sent-ahead v t (WakeAt time) h = omega (arith, h.0)

-- a trader's sendings
pub sendings-posted : (traders stocks : ℕ) (m : Message) (v : Sight) (t : Trader) (xs : List Sending) → 1 ≤ m.to → m.to ≤ traders → t.setting.stock < stocks → v.time ≡ m.time → AreSendings v t xs → ArePosted traders stocks m (map to_exchange xs)
sendings-posted traders stocks m v t xs one few stock now h = record {
  addressed = All-map (λ x. IsAddressed traders stocks m.to x) to_exchange xs
      (All-weaker (IsSending v t) (λ x. IsAddressed traders stocks m.to (to_exchange x)) (λ x q. sent-addressed traders stocks m.to v t x one few stock q) xs h.each);
  ahead = rw (← now) (All-map (λ x. v.time ≤ earliest_of v.time x) to_exchange xs
      (All-weaker (IsSending v t) (λ x. v.time ≤ earliest_of v.time (to_exchange x)) (λ x q. sent-ahead v t x q) xs h.each));
  few = omega (arith, length-map xs to_exchange, h.few);
}

reply-addressed : (traders stocks from : ℕ) (r : Outgoing) → from ≡ 0 → IsToTrader traders r → IsAskable stocks r.body → IsAddressed traders stocks from (to_receiver r)
reply-addressed traders stocks from r zero to asks =
    record { sender = omega (arith, zero); receiver = to.exists; known = λ e. absurd (omega (arith, e, to.trader)); asks = asks; extra = omega arith }

-- the exchange's replies
pub replies-posted : (traders stocks : ℕ) (m : Message) (rs : List Outgoing) → m.to ≡ 0 → All (IsToTrader traders) rs → All (λ r. IsAskable stocks r.body) rs → length rs ≤ most_posted → ArePosted traders stocks m (map to_receiver rs)
replies-posted traders stocks m rs zero to asks few = record {
  addressed = All-map (λ x. IsAddressed traders stocks m.to x) to_receiver rs (λ k d lt. reply-addressed traders stocks m.to _ zero (to k d lt) (asks k d lt));
  ahead = All-map (λ x. m.time ≤ earliest_of m.time x) to_receiver rs (λ k d lt. omega arith);
  few = omega (arith, length-map rs to_receiver, few);
}
