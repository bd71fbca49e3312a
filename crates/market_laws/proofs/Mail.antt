-- Each message that waits is to an agent that there is, and one to the exchange is from a trader.
use Rattle.std.proofs.Common.{◌≡◌, ℕ, ◌+◌, ◌≤◌, List, [], ◌∷◌, length, map, All, arith}
use Rattle.std.proofs.lemmas.List.Elements.{All-head, All-map, All-tail, All-weaker}
use Rattle.market_types.specs.declared.message.Message.{Message}
use Rattle.latency_model.specs.Tables.{Tables}
use Rattle.agent_shell.specs.declared.sending.Sending.{Sending}
use Rattle.agent_shell.specs.declared.sending.Sending.TheVariants as sending
use Rattle.agent_shell.specs.declared.setting.TraderSetting.{TraderSetting}
use Rattle.exchange_agent.specs.declared.handled.Outgoing.{Outgoing}
use Rattle.exchange_agent.specs.Outcome.{IsToTrader}
use Rattle.market_floor.specs.declared.opening.Opening.{Opening}
use Rattle.market_floor.specs.declared.posting.Posting.{Posting}
use Rattle.market_floor.specs.declared.posting.Posting.TheVariants.{To, WakeAt}
use Rattle.market_floor.specs.Posted.{to_exchange, to_receiver}
use Rattle.market_floor.specs.Postings.{receiver_of}
use Rattle.kernel_core.specs.Open.{woken}
use Rattle.kernel_core.specs.Post.{Post}
use Rattle.kernel_core.specs.Send.{all_sent, message_of, sent}
use Rattle.kernel_core.proofs.Posts.{all-joins}

-- one of so many agents, and what is to the exchange is from a trader
abbrev pub IsMail : ℕ → Message → Type 0
IsMail traders m = (m.to ≤ traders) × (m.to ≡ 0 → (1 ≤ m.from) × (m.from ≤ traders))

-- the same of what an agent posts
abbrev pub IsPosted : ℕ → ℕ → Posting → Type 0
IsPosted traders from x = (receiver_of from x ≤ traders) × (receiver_of from x ≡ 0 → (1 ≤ from) × (from ≤ traders))

posted-message : (o : Opening) (groups : Tables) (traders from leave : ℕ) (x : Posting) (n : ℕ) → IsPosted traders from x → IsMail traders (message_of o groups from leave x n)
posted-message o groups traders from leave (To to body extra) n h = h
posted-message o groups traders from leave (WakeAt time) n h = h

pub mail-sent : (o : Opening) (groups : Tables) (traders from leave : ℕ) (p : Post) (xs : List Posting) → All (IsPosted traders from) xs → All (IsMail traders) p.waiting → All (IsMail traders) (all_sent o groups from leave p xs).waiting
mail-sent o groups traders from leave p [] each h = h
mail-sent o groups traders from leave p (x ∷ xs) each h =
    let P : Posting → Type 0 = IsPosted traders from in
    mail-sent o groups traders from leave (sent o groups from leave p x) xs (All-tail P x xs each)
    (all-joins (IsMail traders) p (message_of o groups from leave x) (posted-message o groups traders from leave x p.next_seq (All-head P x xs each)) h)

-- the exchange's replies
reply-posted : (traders from : ℕ) (r : Outgoing) → IsToTrader traders r → IsPosted traders from (to_receiver r)
reply-posted traders from r h = (h.exists, λ none. absurd (omega (arith, none, h.trader)))

pub replies-posted : (traders from : ℕ) (rs : List Outgoing) → All (IsToTrader traders) rs → All (IsPosted traders from) (map to_receiver rs)
replies-posted traders from rs h =
    All-map (IsPosted traders from) to_receiver rs
    (All-weaker (IsToTrader traders) (λ (r : Outgoing). IsPosted traders from (to_receiver r)) (λ r q. reply-posted traders from r q) rs h)

-- what a trader sends
sending-posted : (traders from : ℕ) (x : Sending) → 1 ≤ from → from ≤ traders → IsPosted traders from (to_exchange x)
sending-posted traders from (sending.To body extra) low high = (omega arith, λ _. (low, high))
sending-posted traders from (sending.WakeAt time) low high = (high, λ _. (low, high))

pub sendings-posted : (traders from : ℕ) (xs : List Sending) → 1 ≤ from → from ≤ traders → All (IsPosted traders from) (map to_exchange xs)
sendings-posted traders from xs low high = All-map (IsPosted traders from) to_exchange xs (λ k d l. sending-posted traders from _ low high)

-- the first wakeups of traders of whom the first has this number
pub mail-woken : (o : Opening) (traders k : ℕ) (p : Post) (ss : List TraderSetting) → 1 ≤ k → k + length ss ≤ traders + 1 → All (IsMail traders) p.waiting → All (IsMail traders) (woken o k p ss).waiting
mail-woken o traders k p [] low high h = h
mail-woken o traders k p (s ∷ ss) low high h =
    let few : k ≤ traders = omega (arith, high) in
    mail-woken o traders (k + 1) (sent o o.groups k o.start p (WakeAt s.first)) ss (omega arith) (omega (arith, high))
    (all-joins (IsMail traders) p (message_of o o.groups k o.start (WakeAt s.first)) (few, λ _. (low, few)) h)
