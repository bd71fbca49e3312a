-- What holds of the state before the first event.
use Rattle.std.proofs.Common.{◌≡◌, ℕ, ◌+◌, ◌*◌, ◌≤◌, List, [], ◌∷◌, length, All, pos, refl, sym, arith}
use Rattle.std.proofs.lemmas.Int.{ints}
use Rattle.std.proofs.lemmas.List.{length-map}
use Rattle.std.proofs.lemmas.List.Elements.{All-cons, All-head, All-map, All-nil, All-replicate, All-tail}
use Rattle.agent_shell.specs.declared.setting.TraderSetting.{TraderSetting}
use Rattle.exchange_agent.specs.Sound.{IsWithin}
use Rattle.agent_shell.specs.Sound.{IsTrader}
use Rattle.agent_shell.specs.Tokens.{IsGiven}
use Rattle.exchange_agent.specs.Open.{listed}
use Rattle.market_floor.specs.Party.{PartyState, party_at_opening}
use Rattle.market_floor.specs.declared.opening.Opening.{Opening}
use Rattle.market_floor.specs.declared.posting.Posting.TheVariants.{WakeAt}
use Rattle.market_floor.specs.Opening.{IsOpening, IsTraderOf, cash_of}
use Rattle.kernel_core.specs.Post.{Post, nothing_waits}
use Rattle.kernel_core.specs.Send.{message_of, sent}
use Rattle.kernel_core.proofs.Posts.{all-joins}
use Rattle.market_floor.specs.Floor.{floor_at_opening, parties_from}
use Rattle.kernel_core.specs.Open.{opened, woken}
use Rattle.kernel_copy.specs.Reached.{IsReached, IsReachedFloor}
use Rattle.kernel_copy.proofs.Floors.{IsShort}
use Rattle.kernel_copy.proofs.States.{IsDue, drops-joins}

pub parties-length : (k : ℕ) (ss : List TraderSetting) → length (parties_from k ss) ≡ length ss
parties-length k [] = refl
parties-length k (s ∷ ss) = omega (arith, parties-length (k + 1) ss)

abbrev IsSoundParty : PartyState → Type 0
IsSoundParty p = IsTrader p.trader

party-sound : (o : Opening) (k : ℕ) (s : TraderSetting) → k ≤ 511 → IsTraderOf o s → IsSoundParty (party_at_opening k s)
party-sound o k s few h = record {
  setting = h.setting;
  orders = record { agent = few; given = All-nil (λ e. IsGiven k 0 e.0); few = omega arith };
}

parties-sound : (o : Opening) (k : ℕ) (ss : List TraderSetting) → k + length ss ≤ 512 → All (λ (s : TraderSetting). IsTraderOf o s) ss → All IsSoundParty (parties_from k ss)
parties-sound o k [] few h = All-nil IsSoundParty
parties-sound o k (s ∷ ss) few h =
    let P : TraderSetting → Type 0 = λ x. IsTraderOf o x in
    All-cons IsSoundParty (party_at_opening k s) (parties_from (k + 1) ss) (party-sound o k s (omega (arith, few)) (All-head P s ss h))
    (parties-sound o (k + 1) ss (omega (arith, few)) (All-tail P s ss h))

woken-due : (o : Opening) (k : ℕ) (p : Post) (ss : List TraderSetting) → All (λ (s : TraderSetting). IsTraderOf o s) ss → All (IsDue o.start) p.waiting → All (IsDue o.start) (woken o k p ss).waiting
woken-due o k p [] h w = w
woken-due o k p (s ∷ ss) h w =
    let P : TraderSetting → Type 0 = λ x. IsTraderOf o x in
    woken-due o (k + 1) (sent o o.groups k o.start p (WakeAt s.first)) ss (All-tail P s ss h)
    (all-joins (IsDue o.start) p (message_of o o.groups k o.start (WakeAt s.first)) (All-head P s ss h).start w)

woken-drops : (o : Opening) (k : ℕ) (p : Post) (ss : List TraderSetting) → (woken o k p ss).dropped ≤ p.dropped + length ss
woken-drops o k p [] = omega arith
woken-drops o k p (s ∷ ss) =
    omega (arith, woken-drops o (k + 1) (sent o o.groups k o.start p (WakeAt s.first)) ss, drops-joins p (message_of o o.groups k o.start (WakeAt s.first)))

pub few-traders : (o : Opening) → IsOpening o → length o.traders ≤ 511
few-traders o h = omega (arith, h.market.traders, length-map o.traders (λ (s : TraderSetting). s.cash))

stocks-length : (o : Opening) → length (floor_at_opening o).exchange.stocks ≡ length o.stocks
stocks-length o = length-map o.stocks (listed (length (cash_of o)))

-- an opening's floor
floor-opened : (o : Opening) → IsOpening o → IsReachedFloor o 0 0 (floor_at_opening o)
floor-opened o h = record {
  stocks = sym (stocks-length o);
  parties = sym (parties-length 1 o.traders);
  kinds = λ agent name value q. q;
  traders = parties-sound o 1 o.traders (omega (arith, few-traders o h)) h.traders;
  books = All-map (IsShort 0) (listed (length (cash_of o))) o.stocks (λ k d l. omega arith);
  offsets = All-replicate (IsWithin (2000000000 * 0)) (length o.stocks) (pos 0) (record { low = omega (arith, ints); high = omega (arith, ints) });
}

-- what an opening's state is like
pub opened-stocks : (o : Opening) → length (opened o).floor.exchange.stocks ≡ length o.stocks
opened-stocks o = stocks-length o

pub opened-traders : (o : Opening) → length (opened o).floor.parties ≡ length o.traders
opened-traders o = parties-length 1 o.traders

pub opened-reached : (o : Opening) → IsOpening o → IsReached o 0 (opened o)
opened-reached o h = record {
  fits = record {
    opening = h;
    stocks = sym (stocks-length o);
    traders = sym (parties-length 1 o.traders);
    groups = refl;
    dated = omega arith;
    start = omega arith;
    limit = omega arith;
  };
  close = h.start;
  due = woken-due o 1 nothing_waits o.traders h.traders (All-nil (IsDue o.start));
  floor = floor-opened o h;
  drops = omega (arith, woken-drops o 1 nothing_waits o.traders, few-traders o h);
}
