-- Lemmas on the worked runs of the tests.
use Rattle.std.proofs.Common.{◌≡◌, ℕ, ◌+◌, ◌<◌, ◌≤◌, ℤ, pos, negsuc, true, false, cond, ltb, List, [], ◌∷◌, length, map, refl, sym, ap, subst, arith, lit≤, lit<, All}
use Rattle.std.proofs.lemmas.Bool.{le-leb}
use Rattle.std.proofs.lemmas.Bool.Decides.{nat_tests}
use Rattle.std.proofs.lemmas.List.{length-map}
use Rattle.std.proofs.lemmas.List.Elements.{All-map, All-replicate, All-weaker}
use Rattle.market_types.specs.Limits.{longest_delay, most_waiting}
use Rattle.event_queue.specs.Waiting.{joined}
use Rattle.market_rules.specs.declared.edit.Edit.{Edit}
use Rattle.market_rules.specs.declared.edit.Edit.TheVariants.{Tick, Fee, Halt, Resume, Latency, Agent, Silence, Inject, Series}
use Rattle.market_rules.specs.declared.edit.Param.{Param}
use Rattle.market_rules.specs.EditRanges.{is_near_zero, is_value_of}
use Rattle.latency_model.specs.Tables.{group_count}
use Rattle.agent_shell.specs.declared.setting.Kind.{Kind}
use Rattle.agent_shell.specs.declared.setting.TraderSetting.{TraderSetting}
use Rattle.agent_shell.specs.declared.setting.Kind.TheVariants.{Watcher, Noise, Value, Momentum, Maker}
use Rattle.market_rules.specs.declared.edit.Param.TheVariants as parameter
use Rattle.agent_shell.specs.Parameters.{IsKind, IsOwnParam}
use Rattle.market_floor.specs.declared.opening.Opening.{Opening}
use Rattle.market_floor.specs.declared.posting.Posting.{Posting}
use Rattle.market_floor.specs.declared.posting.Posting.TheVariants.{WakeAt}
use Rattle.market_floor.specs.Opening.{IsOpening, IsTraderOf}
use Rattle.market_floor.specs.OpeningWorked.{market_of, trader}
use Rattle.kernel_core.specs.State.{State}
use Rattle.market_floor.specs.Floor.{party_at}
use Rattle.kernel_core.specs.Post.{Post, nothing_waits}
use Rattle.kernel_core.specs.Send.{message_of, sent}
use Rattle.kernel_core.specs.Open.{opened, woken}
use Rattle.kernel_core.specs.Step.{Fits}
use Rattle.kernel_core.specs.Edited.{IsEditOf}
use Rattle.kernel_core.specs.EditsWorked.{IsPlain}

-- traders of kinds in their ranges are in those of a market
pub kinds-admitted : (close limit delay : ℕ) (ts : List TraderSetting) (ks : List (Kind × ℕ)) → All (λ (k : Kind × ℕ). IsKind k.0) ks → All (λ (k : Kind × ℕ). 1000 ≤ k.1) ks
    → All (λ (k : Kind × ℕ). k.1 ≤ 2000) ks → All (λ (s : TraderSetting). IsTraderOf (market_of close limit delay ts) s) (map (λ (k : Kind × ℕ). trader k.0 k.1) ks)
kinds-admitted close limit delay ts ks kinds early late =
    All-map (λ (s : TraderSetting). IsTraderOf (market_of close limit delay ts) s) (λ (k : Kind × ℕ). trader k.0 k.1) ks
    (λ i d within. record {
      setting = record { kind = kinds i d within; every = record { not_below = lit≤ tt; not_above = lit≤ tt }; delay = lit≤ tt };
      group = lit< tt;
      stock = lit< tt;
      start = early i d within;
      first = omega (arith, late i d within);
      wobble = lit≤ tt;
    })

near-weaker : (a b : ℕ) (z : ℤ) → a ≤ b → is_near_zero a z ≡ true → is_near_zero b z ≡ true
near-weaker a b (pos n) le h = grind (arith, nat_tests)
near-weaker a b (negsuc n) le h = grind (arith, nat_tests)

pub all-near : (a b : ℕ) (zs : List ℤ) → a ≤ b → All (λ (z : ℤ). is_near_zero a z ≡ true) zs → All (λ (z : ℤ). is_near_zero b z ≡ true) zs
all-near a b zs le all = All-weaker (λ (z : ℤ). is_near_zero a z ≡ true) (λ (z : ℤ). is_near_zero b z ≡ true) (λ z h. near-weaker a b z le h) zs all

-- a message that joins raises the count of dropped ones by one at most
sent-drops : (o : Opening) (k : ℕ) (p : Post) (x : Posting) → (sent o o.groups k o.start p x).dropped ≤ p.dropped + 1
sent-drops o k p x =
    let m = message_of o o.groups k o.start x p.next_seq in
    elim (ltb (length p.waiting) most_waiting) as (λ b. let q : Post = cond b (record { waiting = joined m p.waiting; next_seq = p.next_seq + 1; dropped = p.dropped }) (record { waiting = p.waiting; next_seq = p.next_seq; dropped = p.dropped + 1 }) in q.dropped ≤ p.dropped + 1) [
      | true ↦ omega arith
      | false ↦ omega arith
    ]

woken-drops : (o : Opening) (k : ℕ) (p : Post) (ss : List TraderSetting) → (woken o k p ss).dropped ≤ p.dropped + length ss
woken-drops o k p [] = omega arith
woken-drops o k p (s ∷ ss) =
    let x : Posting = WakeAt s.first in
    omega (arith, sent-drops o k p x, woken-drops o (k + 1) (sent o o.groups k o.start p x) ss)

-- no value has an offset at the opening, and few messages were dropped
pub opened-near : (o : Opening) (s : State) → s ≡ opened o → All (λ (z : ℤ). is_near_zero 0 z ≡ true) s.floor.offsets
opened-near o s is =
    subst (λ (q : State). All (λ (z : ℤ). is_near_zero 0 z ≡ true) q.floor.offsets) (sym is) (All-replicate (λ (z : ℤ). is_near_zero 0 z ≡ true) (length o.stocks) (pos 0) refl)

pub opened-drops : (o : Opening) (s : State) → IsOpening o → s ≡ opened o → s.post.dropped ≤ 511
opened-drops o s h is =
    omega (arith, ap (λ (q : State). q.post.dropped) is, woken-drops o 1 nothing_waits o.traders, h.market.traders, length-map o.traders (λ (t : TraderSetting). t.cash))

-- a delay belongs to each kind of trader
delay-own : (kind : Kind) (value : ℕ) → value ≤ longest_delay → IsOwnParam kind parameter.Delay value
delay-own Watcher value h = h
delay-own (Noise size) value h = h
delay-own (Value size noise margin) value h = h
delay-own (Momentum size short long) value h = h
delay-own (Maker size half step levels pause) value h = h

first-stock : (o : Opening) (s : State) → Fits o s → 0 < length s.floor.exchange.stocks
first-stock o s f = omega (arith, f.opening.market.some, f.stocks)

first-trader : (o : Opening) (s : State) → Fits o s → 1 ≤ length s.floor.parties
first-trader o s f = omega (arith, f.opening.some_trader, f.traders)

-- each state that an opening fits takes a plain edit
pub plain-edit : (o : Opening) (s : State) (e : Edit) → Fits o s → IsPlain e → IsEditOf s e
plain-edit o s (Tick stock table) f p =
    let some = first-stock o s f in
    let zero = p.0 in
    record { among = grind (arith, nat_tests); range = p.1; parameter = tt }
plain-edit o s (Fee stock fees) f p =
    let some = first-stock o s f in
    let zero = p.0 in
    record { among = grind (arith, nat_tests); range = p.1; parameter = tt }
plain-edit o s (Halt stock) f p =
    let some = first-stock o s f in
    record { among = grind (arith, nat_tests); range = refl; parameter = tt }
plain-edit o s (Resume stock) f p =
    let some = first-stock o s f in
    record { among = grind (arith, nat_tests); range = refl; parameter = tt }
plain-edit o s (Latency from to base jitter) f p =
    let some : 0 < group_count s.groups = omega (arith, f.opening.exchange_group, f.groups) in
    record { among = grind (arith, nat_tests); range = grind (arith, nat_tests); parameter = tt }
plain-edit o s (Agent agent name value) f p =
    let some = first-trader o s f in
    let one = p.0 in
    let small = p.2 in
    let delay : is_value_of parameter.Delay value ≡ true = le-leb value longest_delay small in
    record {
      among = grind (arith, nat_tests);
      range = subst (λ (n : Param). is_value_of n value ≡ true) (sym p.1) delay;
      parameter = subst (λ (n : Param). IsOwnParam (party_at s.floor agent).trader.setting.kind n value) (sym p.1) (delay-own (party_at s.floor agent).trader.setting.kind value small);
    }
plain-edit o s (Silence agent) f p =
    let some = first-trader o s f in
    record { among = grind (arith, nat_tests); range = refl; parameter = tt }
plain-edit o s (Inject agent after message) f p =
    let some = first-trader o s f in
    record { among = grind (arith, nat_tests); range = grind (arith, nat_tests); parameter = tt }
plain-edit o s (Series stock offset) f p =
    let some = first-stock o s f in
    let zero = p.0 in
    record { among = grind (arith, nat_tests); range = p.1; parameter = tt }
