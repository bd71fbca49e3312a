-- The state before the first event is sound.
use Rattle.std.proofs.Common.{◌≡◌, ℕ, ◌+◌, ◌≤◌, List, [], ◌∷◌, length, replicate, sym, ap, arith, subst, All, lit≤, lit<}
use Rattle.std.specs.List.{AllByRecursion}
use Rattle.std.proofs.lemmas.List.{length-replicate}
use Rattle.std.proofs.lemmas.List.Elements.{All-cons, All-nil, All-weaker, recursion_from_All}
use Rattle.latency_model.specs.Tables.{Tables}
use Rattle.agent_shell.specs.declared.setting.TraderSetting.{TraderSetting}
use Rattle.market_floor.specs.declared.opening.Opening.{Opening}
use Rattle.market_floor.specs.declared.posting.Posting.{Posting}
use Rattle.market_floor.specs.declared.posting.Posting.TheVariants.{WakeAt}
use Rattle.market_floor.specs.Opening.{IsOpening, IsTraderOf}
use Rattle.market_floor.specs.Postings.{IsAddressed, earliest_of}
use Rattle.kernel_core.specs.Post.{Post, nothing_waits}
use Rattle.kernel_core.specs.Send.{all_sent, sent}
use Rattle.kernel_core.specs.SoundMail.{IsSoundMail}
use Rattle.market_floor.specs.Floor.{FloorState}
use Rattle.market_floor.specs.Sound.{FitsFloor, IsSoundFloor}
use Rattle.kernel_core.specs.Open.{woken}
use Rattle.kernel_core.specs.Sound.{IsSound}

-- the mail stays sound as messages are sent
abbrev pub StaysSent : Type 0
StaysSent =
    (o : Opening) (groups : Tables) (traders stocks time events from leave : ℕ) (p : Post) (xs : List Posting)
    → time ≤ leave → All (λ (x : Posting). IsAddressed traders stocks from x) xs → All (λ (x : Posting). time ≤ earliest_of time x) xs
    → IsSoundMail traders stocks time events p → IsSoundMail traders stocks time events (all_sent o groups from leave p xs)

-- a trader may ask for a wakeup
pub wake-addressed : (traders stocks k time : ℕ) → 1 ≤ k → k ≤ traders → IsAddressed traders stocks k (WakeAt time)
wake-addressed traders stocks k time some within = record { sender = within; receiver = within; known = λ _. some; asks = tt; extra = lit< tt }

one : (P : Posting → Type 0) (x : Posting) → P x → All P (x ∷ [])
one P x p = All-cons P x [] p (All-nil P)

woken-sound : StaysSent → (o : Opening) (k : ℕ) (p : Post) (ss : List TraderSetting) → 1 ≤ k → k + length ss ≤ length o.traders + 1
    → AllByRecursion (λ (s : TraderSetting). o.start ≤ s.first) ss → IsSoundMail (length o.traders) (length o.stocks) o.start 0 p
    → IsSoundMail (length o.traders) (length o.stocks) o.start 0 (woken o k p ss)
woken-sound law o k p [] some within early h = h
woken-sound law o k p (s ∷ ss) some within early h =
    let x : Posting = WakeAt s.first in
    let address = wake-addressed (length o.traders) (length o.stocks) k s.first some (omega arith) in
    woken-sound law o (k + 1) (sent o o.groups k o.start p x) ss (omega arith) (omega arith) early.1
    (law o o.groups (length o.traders) (length o.stocks) o.start 0 k o.start p (x ∷ []) (omega arith)
    (one (λ (x : Posting). IsAddressed (length o.traders) (length o.stocks) k x) x address)
    (one (λ (x : Posting). o.start ≤ earliest_of o.start x) x early.0) h)

pub sound-opened : StaysSent → (o : Opening) (p : Post) (own : List ℕ) (f : FloorState) (groups : Tables) → IsOpening o → FitsFloor o f → IsSoundFloor 0 f
    → IsSoundMail (length o.traders) (length o.stocks) o.start 0 nothing_waits
    → p ≡ woken o 1 nothing_waits o.traders → own ≡ replicate (length o.traders + 1) o.start
    → IsSound (record { time = o.start; events = 0; applied = 0; post = p; own = own; floor = f; groups = groups })
sound-opened law o p own f groups h fits floor begun post-is own-is =
    let first = All-weaker (λ (s : TraderSetting). IsTraderOf o s) (λ (s : TraderSetting). o.start ≤ s.first) (λ s q. q.start) o.traders h.traders in
    let early = recursion_from_All (λ (s : TraderSetting). o.start ≤ s.first) o.traders first in
    let all = woken-sound law o 1 nothing_waits o.traders (lit≤ tt) (omega arith) early begun in
    let mail : IsSoundMail (length o.traders) (length o.stocks) o.start 0 p = subst (λ (q : Post). IsSoundMail (length o.traders) (length o.stocks) o.start 0 q) (sym post-is) all in
    record {
      agents = omega (arith, ap (λ (l : List ℕ). length l) own-is, length-replicate (length o.traders + 1) o.start, fits.traders);
      mail = subst (λ (n : ℕ). IsSoundMail n (length f.exchange.stocks) o.start 0 p) fits.traders
          (subst (λ (n : ℕ). IsSoundMail (length o.traders) n o.start 0 p) fits.stocks mail);
      floor = floor;
      time = omega (arith, h.start, h.close);
      events = lit≤ tt;
    }
