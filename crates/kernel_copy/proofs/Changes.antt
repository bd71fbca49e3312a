-- What a state keeps as an edit is made, and which edits can be made.
use Rattle.std.proofs.Common.{◌≡◌, ℕ, ◌+◌, ◌-◌, ◌*◌, ◌<◌, ◌≤◌, ◌^◌, true, inl, inr, length, All, ℤ, pos, negsuc, ◌+ℤ◌, refl, ◌∙◌, subst, arith}
use Rattle.std.proofs.lemmas.Bool.{cases_lt, le-leb, lt-ltb}
use Rattle.std.proofs.lemmas.Bool.Decides.{nat_tests}
use Rattle.std.proofs.lemmas.Int.{ints}
use Rattle.std.proofs.lemmas.List.{length-set, get_or_past}
use Rattle.std.proofs.lemmas.List.Elements.{All-get_or, All-nil, All-set, All-weaker}
use Rattle.market_types.specs.Limits.{longest_delay}
use Rattle.market_types.specs.declared.feed.Feed.{Feed}
use Rattle.market_types.specs.Timely.{IsTimely}
use Rattle.market_types.specs.Told.{edit as edited_entry}
use Rattle.market_rules.specs.declared.changes.Change.{Change}
use Rattle.market_rules.specs.declared.changes.Change.TheVariants as change
use Rattle.market_rules.specs.declared.edit.Edit.{Edit}
use Rattle.market_rules.specs.declared.edit.Edit.TheVariants.{Tick, Fee, Halt, Resume, Latency, Agent, Silence, Inject, Series}
use Rattle.market_rules.specs.declared.edit.Param.{Param}
use Rattle.market_rules.specs.declared.edit.Param.TheVariants.{Size, Every, Wobble, Delay, Noise as NoiseParam, Margin, Half, Step, Levels, Pause}
use Rattle.market_rules.specs.EditRanges.{is_among, is_in_range, is_near_zero}
use Rattle.latency_model.specs.Tables.{Tables, group_count}
use Rattle.agent_shell.specs.declared.setting.Kind.{Kind}
use Rattle.agent_shell.specs.declared.setting.Kind.TheVariants.{Watcher, Noise, Value, Momentum, Maker}
use Rattle.agent_shell.specs.declared.setting.TraderSetting.{TraderSetting}
use Rattle.agent_shell.specs.Parameters.{IsBetween, IsHour, IsKind, IsOwnParam, IsSetting, kind_with, setting_with}
use Rattle.exchange_agent.specs.Sound.{IsWithin}
use Rattle.agent_shell.specs.Sound.{IsTrader}
use Rattle.agent_shell.specs.Trader.{trader_with}
use Rattle.agent_shell.proofs.Named.{still-own}
use Rattle.exchange_agent.specs.Changes.{changed_by as market_changed}
use Rattle.exchange_agent.proofs.Shorts.{short-change}
use Rattle.exchange_agent.proofs.Tellings.{at-change, keeps-change}
use Rattle.exchange_agent.proofs.Withins.{within-more, within-sum}
use Rattle.market_floor.specs.Party.{PartyState, with_trader}
use Rattle.market_floor.specs.declared.opening.Opening.{Opening}
use Rattle.kernel_core.specs.Post.{Post}
use Rattle.kernel_core.specs.Send.{order_at}
use Rattle.kernel_core.proofs.Posts.{all-joins}
use Rattle.market_floor.specs.Edited.{IsParamOf, edited_floor}
use Rattle.market_floor.specs.Floor.{FloorState, floor_at_opening, nobody, offset_at, party_at, with_exchange, with_offset, with_party}
use Rattle.kernel_core.specs.State.{State}
use Rattle.kernel_core.specs.Edited.{IsEditOf, changed_by, mail_after, mark_of, tables_after}
use Rattle.kernel_copy.specs.Reached.{IsReached, IsReachedFloor, KeepsKinds}
use Rattle.kernel_copy.proofs.Floors.{reached-exchange, reached-party}
use Rattle.kernel_copy.proofs.States.{IsDue, drops-joins, fits-later}

-- the offset of an edit is small, and so is a small offset for the kernel
near-within : (far : ℕ) (n : ℤ) → is_near_zero far n ≡ true → IsWithin far n
near-within far (pos k) h = let low : k ≤ far = grind (arith, nat_tests) in record { low = omega (arith, ints); high = omega (arith, ints, low) }
near-within far (negsuc k) h = let low : k < far = grind (arith, nat_tests) in record { low = omega (arith, ints, low); high = omega (arith, ints) }

pub within-near : (far most : ℕ) (n : ℤ) → far ≤ most → IsWithin far n → is_near_zero most n ≡ true
within-near far most (pos k) le h = le-leb k most (omega (arith, ints, h.high, le))
within-near far most (negsuc k) le h = lt-ltb k most (omega (arith, ints, h.low, le))

-- a parameter that replaces another keeps the ranges of the setting
set-kind : (kind : Kind) (name : Param) (value : ℕ) → IsKind kind → IsOwnParam kind name value → IsKind (kind_with kind name value)
set-kind (Noise size) Size value k h = h
set-kind (Value size noise margin) Size value k h = (h, k.1, k.2)
set-kind (Value size noise margin) NoiseParam value k h = (k.0, h, k.2)
set-kind (Value size noise margin) Margin value k h = (k.0, k.1, h)
set-kind (Momentum size short long) Size value k h = (h, k.1, k.2, k.3)
set-kind (Maker size half step levels pause) Size value k h = (h, k.1, k.2, k.3, k.4)
set-kind (Maker size half step levels pause) Half value k h = (k.0, h, k.2, k.3, k.4)
set-kind (Maker size half step levels pause) Step value k h = (k.0, k.1, h, k.3, k.4)
set-kind (Maker size half step levels pause) Levels value k h = (k.0, k.1, k.2, h, k.4)
set-kind (Maker size half step levels pause) Pause value k h = (k.0, k.1, k.2, k.3, h)
set-kind kind name value k h = k

own-every : (kind : Kind) (value : ℕ) → IsOwnParam kind Every value → IsBetween 1 longest_delay value
own-every Watcher value h = h
own-every (Noise size) value h = h
own-every (Value size noise margin) value h = h
own-every (Momentum size short long) value h = h
own-every (Maker size half step levels pause) value h = h

own-delay : (kind : Kind) (value : ℕ) → IsOwnParam kind Delay value → IsHour value
own-delay Watcher value h = h
own-delay (Noise size) value h = h
own-delay (Value size noise margin) value h = h
own-delay (Momentum size short long) value h = h
own-delay (Maker size half step levels pause) value h = h

kind-set : (name : Param) (value : ℕ) (s : TraderSetting) → IsSetting s → IsOwnParam s.kind name value → IsSetting (record s { kind = kind_with s.kind name value })
kind-set name value s k h = record { kind = set-kind s.kind name value k.kind h; every = k.every; delay = k.delay }

set-setting : (name : Param) (value : ℕ) (s : TraderSetting) → IsSetting s → IsOwnParam s.kind name value → IsSetting (setting_with name value s)
set-setting Every value s k h = record { kind = k.kind; every = own-every s.kind value h; delay = k.delay }
set-setting Wobble value s k h = record { kind = k.kind; every = k.every; delay = k.delay }
set-setting Delay value s k h = record { kind = k.kind; every = k.every; delay = own-delay s.kind value h }
set-setting Size value s k h = kind-set Size value s k h
set-setting NoiseParam value s k h = kind-set NoiseParam value s k h
set-setting Margin value s k h = kind-set Margin value s k h
set-setting Half value s k h = kind-set Half value s k h
set-setting Step value s k h = kind-set Step value s k h
set-setting Levels value s k h = kind-set Levels value s k h
set-setting Pause value s k h = kind-set Pause value s k h

-- and the parameters of the kind
still-set : (other : Param) (given : ℕ) (s : TraderSetting) (name : Param) (value : ℕ) → IsOwnParam s.kind name value → IsOwnParam (setting_with other given s).kind name value
still-set Every given s name value h = h
still-set Wobble given s name value h = h
still-set Delay given s name value h = h
still-set Size given s name value h = still-own s.kind Size name given value h
still-set NoiseParam given s name value h = still-own s.kind NoiseParam name given value h
still-set Margin given s name value h = still-own s.kind Margin name given value h
still-set Half given s name value h = still-own s.kind Half name given value h
still-set Step given s name value h = still-own s.kind Step name given value h
still-set Levels given s name value h = still-own s.kind Levels name given value h
still-set Pause given s name value h = still-own s.kind Pause name given value h

-- one edit more is allowed for
later-floor : (o : Opening) (n e : ℕ) (f : FloorState) → IsReachedFloor o n e f → IsReachedFloor o n (e + 1) f
later-floor o n e f h = record {
  stocks = h.stocks;
  parties = h.parties;
  kinds = h.kinds;
  traders = h.traders;
  books = h.books;
  offsets = All-weaker (IsWithin (2000000000 * e)) (IsWithin (2000000000 * (e + 1))) (λ x q. within-more (2000000000 * e) (2000000000 * (e + 1)) x (omega arith) q) f.offsets h.offsets;
}

market-floor : (o : Opening) (n e time stock : ℕ) (c : Change) (f : FloorState) → IsReachedFloor o n e f
    → IsReachedFloor o n (e + 1) (with_exchange (market_changed f.exchange time stock c).state f)
market-floor o n e time stock c f h =
    reached-exchange o n n (e + 1) f (market_changed f.exchange time stock c).state (keeps-change f.exchange time stock c).stocks (short-change n f.exchange time stock c h.books) (later-floor o n e f h)

agent-floor : (o : Opening) (n e agent : ℕ) (name : Param) (value : ℕ) (f : FloorState) → agent - 1 < length f.parties
    → IsOwnParam (party_at f agent).trader.setting.kind name value → IsReachedFloor o n e f
    → IsReachedFloor o n (e + 1) (with_party agent (with_trader (trader_with name value (party_at f agent).trader) (party_at f agent)) f)
agent-floor o n e agent name value f within own h =
    let p = party_at f agent in
    let sound = All-get_or (λ (x : PartyState). IsTrader x.trader) f.parties (agent - 1) nobody within h.traders in
    reached-party o n (e + 1) agent f (with_trader (trader_with name value p.trader) p)
    (record { setting = set-setting name value p.trader.setting sound.setting own; orders = sound.orders })
    (λ other given q. still-set name value p.trader.setting other given q) (later-floor o n e f h)

silence-floor : (o : Opening) (n e agent : ℕ) (f : FloorState) → agent - 1 < length f.parties → IsReachedFloor o n e f
    → IsReachedFloor o n (e + 1) (with_party agent (record (party_at f agent) { silent = true }) f)
silence-floor o n e agent f within h =
    let p = party_at f agent in
    let sound = All-get_or (λ (x : PartyState). IsTrader x.trader) f.parties (agent - 1) nobody within h.traders in
    reached-party o n (e + 1) agent f (record p { silent = true }) sound (λ name value q. q) (later-floor o n e f h)

offset-within : (e stock : ℕ) (f : FloorState) → All (IsWithin (2000000000 * e)) f.offsets → IsWithin (2000000000 * e) (offset_at f stock)
offset-within e stock f h = elim (cases_lt stock (length f.offsets)) [
  | inl within ↦ All-get_or (IsWithin (2000000000 * e)) f.offsets stock (pos 0) within h
  | inr past ↦ rw (get_or_past f.offsets stock (pos 0) past) (record { low = omega (arith, ints); high = omega (arith, ints) })
]

series-floor : (o : Opening) (n e stock : ℕ) (offset : ℤ) (f : FloorState) → is_near_zero 2000000000 offset ≡ true → IsReachedFloor o n e f
    → IsReachedFloor o n (e + 1) (with_offset stock (offset_at f stock +ℤ offset) f)
series-floor o n e stock offset f small h =
    let l = later-floor o n e f h in
    let sum = within-sum (2000000000 * e) 2000000000 (offset_at f stock) offset (offset-within e stock f h.offsets) (near-within 2000000000 offset small) in
    record {
      stocks = h.stocks;
      parties = h.parties;
      kinds = h.kinds;
      traders = h.traders;
      books = h.books;
      offsets = All-set (IsWithin (2000000000 * (e + 1))) f.offsets stock (offset_at f stock +ℤ offset)
          (within-more (2000000000 * e + 2000000000) (2000000000 * (e + 1)) (offset_at f stock +ℤ offset) (omega arith) sum) l.offsets;
    }

agent-within : (low high n parties : ℕ) → 1 ≤ n → n ≤ high → high ≡ parties → n - 1 < parties
agent-within low high n parties some few same = omega (arith, some, few, same)

edited-floor : (o : Opening) (n e time : ℕ) (x : Edit) (f : FloorState) (stocks groups : ℕ) → is_among stocks (length f.parties) groups x ≡ true → is_in_range x ≡ true → IsParamOf f x
    → IsReachedFloor o n e f → IsReachedFloor o n (e + 1) (edited_floor time x f).floor
edited-floor o n e time (Tick stock table) f stocks groups among range own h = market-floor o n e time stock (change.Tick table) f h
edited-floor o n e time (Fee stock fees) f stocks groups among range own h = market-floor o n e time stock (change.Fee fees) f h
edited-floor o n e time (Halt stock) f stocks groups among range own h = market-floor o n e time stock change.Halt f h
edited-floor o n e time (Resume stock) f stocks groups among range own h = market-floor o n e time stock change.Resume f h
edited-floor o n e time (Latency from to base jitter) f stocks groups among range own h = later-floor o n e f h
edited-floor o n e time (Agent agent name value) f stocks groups among range own h =
    let some : 1 ≤ agent = grind (arith, nat_tests) in
    let few : agent ≤ length f.parties = grind (arith, nat_tests) in
    agent-floor o n e agent name value f (omega (arith, some, few)) own h
edited-floor o n e time (Silence agent) f stocks groups among range own h =
    let some : 1 ≤ agent = grind (arith, nat_tests) in
    let few : agent ≤ length f.parties = grind (arith, nat_tests) in
    silence-floor o n e agent f (omega (arith, some, few)) h
edited-floor o n e time (Inject agent after message) f stocks groups among range own h = later-floor o n e f h
edited-floor o n e time (Series stock offset) f stocks groups among range own h = series-floor o n e stock offset f range h

edited-groups : (x : Edit) (t : Tables) → group_count (tables_after x t) ≡ group_count t
edited-groups (Tick stock table) t = refl
edited-groups (Fee stock fees) t = refl
edited-groups (Halt stock) t = refl
edited-groups (Resume stock) t = refl
edited-groups (Latency from to base jitter) t = length-set t.base from _
edited-groups (Agent agent name value) t = refl
edited-groups (Silence agent) t = refl
edited-groups (Inject agent after message) t = refl
edited-groups (Series stock offset) t = refl

edited-due : (start time : ℕ) (x : Edit) (p : Post) → start ≤ time → All (IsDue start) p.waiting → All (IsDue start) (mail_after time x p).waiting
edited-due start time (Tick stock table) p early h = h
edited-due start time (Fee stock fees) p early h = h
edited-due start time (Halt stock) p early h = h
edited-due start time (Resume stock) p early h = h
edited-due start time (Latency from to base jitter) p early h = h
edited-due start time (Agent agent name value) p early h = h
edited-due start time (Silence agent) p early h = h
edited-due start time (Inject agent after message) p early h = all-joins (IsDue start) p (order_at agent (time + after) message) (omega (arith, early)) h
edited-due start time (Series stock offset) p early h = h

edited-drops : (time : ℕ) (x : Edit) (p : Post) → (mail_after time x p).dropped ≤ p.dropped + 1
edited-drops time (Tick stock table) p = omega arith
edited-drops time (Fee stock fees) p = omega arith
edited-drops time (Halt stock) p = omega arith
edited-drops time (Resume stock) p = omega arith
edited-drops time (Latency from to base jitter) p = omega arith
edited-drops time (Agent agent name value) p = omega arith
edited-drops time (Silence agent) p = omega arith
edited-drops time (Inject agent after message) p = drops-joins p (order_at agent (time + after) message)
edited-drops time (Series stock offset) p = omega arith

-- a state after an edit that can be made
pub edit-reached : (o : Opening) (e : ℕ) (s : State) (x : Edit) → IsEditOf s x → IsReached o e s → IsReached o (e + 1) (changed_by s x)
edit-reached o e s x i h =
    let floor = edited-floor o s.events e s.time x s.floor (length s.floor.exchange.stocks) (group_count s.groups) i.among i.range i.parameter h.floor in
    record {
      fits = fits-later o s.events (e + 1) s (changed_by s x) h.fits floor (edited-groups x s.groups) h.fits.dated h.fits.start h.fits.limit;
      close = h.close;
      due = edited-due o.start s.time x s.post h.fits.start h.due;
      floor = floor;
      drops = omega (arith, edited-drops s.time x s.post, h.drops);
    }

param-of : (o : Opening) (f : FloorState) (x : Edit) → KeepsKinds o f → IsParamOf (floor_at_opening o) x → IsParamOf f x
param-of o f (Tick stock table) h own = tt
param-of o f (Fee stock fees) h own = tt
param-of o f (Halt stock) h own = tt
param-of o f (Resume stock) h own = tt
param-of o f (Latency from to base jitter) h own = tt
param-of o f (Agent agent name value) h own = h agent name value own
param-of o f (Silence agent) h own = tt
param-of o f (Inject agent after message) h own = tt
param-of o f (Series stock offset) h own = tt

among-of : (x : Edit) (a b c i j k : ℕ) → a ≡ i → b ≡ j → c ≡ k → is_among a b c x ≡ true → is_among i j k x ≡ true
among-of x a b c i j k p q r h =
    subst (λ (n : ℕ). is_among i j n x ≡ true) r (subst (λ (n : ℕ). is_among i n c x ≡ true) q (subst (λ (n : ℕ). is_among n b c x ≡ true) p h))

-- where an opening is as many stocks, traders and groups, an edit of the one is one of the other
pub edit-possible : (o : Opening) (e : ℕ) (s t : State) (x : Edit) → t.floor ≡ floor_at_opening o → length t.floor.exchange.stocks ≡ length o.stocks → length t.floor.parties ≡ length o.traders
    → group_count t.groups ≡ group_count o.groups → IsReached o e s → IsEditOf t x → IsEditOf s x
edit-possible o e s t x opened stocks traders groups h i = record {
  among = among-of x _ _ _ _ _ _ (stocks ∙ h.fits.stocks) (traders ∙ h.fits.traders) (groups ∙ h.fits.groups) i.among;
  range = i.range;
  parameter = param-of o s.floor x h.floor.kinds (subst (λ (f : FloorState). IsParamOf f x) opened i.parameter);
}

-- the feed of an edit
feed-of : (time : ℕ) (x : Edit) (f : FloorState) → All (λ (y : Feed). y.time ≡ time) (edited_floor time x f).feed
feed-of time (Tick stock table) f = at-change f.exchange time stock (change.Tick table)
feed-of time (Fee stock fees) f = at-change f.exchange time stock (change.Fee fees)
feed-of time (Halt stock) f = at-change f.exchange time stock change.Halt
feed-of time (Resume stock) f = at-change f.exchange time stock change.Resume
feed-of time (Latency from to base jitter) f = All-nil (λ (y : Feed). y.time ≡ time)
feed-of time (Agent agent name value) f = All-nil (λ (y : Feed). y.time ≡ time)
feed-of time (Silence agent) f = All-nil (λ (y : Feed). y.time ≡ time)
feed-of time (Inject agent after message) f = All-nil (λ (y : Feed). y.time ≡ time)
feed-of time (Series stock offset) f = All-nil (λ (y : Feed). y.time ≡ time)

pub mark-timely : (o : Opening) (e b i : ℕ) (s : State) (x : Edit) → IsReached o e s → IsTimely (edited_entry (mark_of b i x s))
mark-timely o e b i s x h =
    All-weaker (λ (f : Feed). f.time ≡ s.time) (λ (f : Feed). f.time < 2 ^ 48) (λ f q. omega (arith, q, h.close, h.fits.opening.close)) (edited_floor s.time x s.floor).feed (feed-of s.time x s.floor)
