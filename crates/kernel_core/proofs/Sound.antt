-- An event and an edit keep what holds of every state.
use Rattle.std.proofs.Common.{◌≡◌, ℕ, ◌<◌, ◌≤◌, List, Some, None, length, sym, ap, ◌∙◌, arith, subst, get_or, slice_index}
use Rattle.std.proofs.lemmas.List.{get_or_default}
use Rattle.market_types.specs.Limits.{last_time, most_events}
use Rattle.market_types.specs.declared.message.Message.{Message}
use Rattle.latency_model.specs.Tables.{Tables, group_count}
use Rattle.event_queue.specs.Waiting.{least}
use Rattle.market_floor.specs.declared.opening.Opening.{Opening}
use Rattle.market_floor.specs.Postings.{IsAmong}
use Rattle.kernel_core.specs.Post.{Post}
use Rattle.kernel_core.specs.SoundMail.{IsSoundMail}
use Rattle.market_floor.specs.Floor.{FloorState}
use Rattle.market_floor.specs.Sound.{FitsFloor, IsSoundFloor}
use Rattle.kernel_core.specs.State.{State}
use Rattle.kernel_core.specs.Sound.{IsSound}
use Rattle.kernel_core.specs.Step.{Fits, end_of}
use Rattle.kernel_core.proofs.Runs.{going_below, next-time}

-- The parts of a state after another one: it has as many stocks and traders.
pub record IsOfSize (s : State) (times : List ℕ) (f : FloorState) : Type 0 where
  pub own : length times ≡ length s.own
  pub stocks : length f.exchange.stocks ≡ length s.floor.exchange.stocks
  pub traders : length f.parties ≡ length s.floor.parties

-- a state of sound parts is sound
pub sound-after : (s : State) (time events applied : ℕ) (p : Post) (own : List ℕ) (f : FloorState) (groups : Tables)
    → IsOfSize s own f → IsSoundMail (length s.floor.parties) (length s.floor.exchange.stocks) time events p → IsSoundFloor events f
    → time ≤ last_time → events ≤ most_events → IsSound s
    → IsSound (record { time = time; events = events; applied = applied; post = p; own = own; floor = f; groups = groups })
sound-after s time events applied p own f groups size mail floor early few h = record {
  agents = omega (arith, size.own, size.traders, h.agents);
  mail = subst (λ (n : ℕ). IsSoundMail n (length f.exchange.stocks) time events p) (sym size.traders)
      (subst (λ (n : ℕ). IsSoundMail (length s.floor.parties) n time events p) (sym size.stocks) mail);
  floor = floor;
  time = early;
  events = few;
}

-- What is known of the next message of a state that isn't ended, under an opening that fits it.
pub record IsNext (o : Opening) (s : State) (m : Message) : Type 0 where
  pub close : m.time ≤ o.close
  pub early : m.time ≤ last_time
  pub below : s.events < o.limit
  pub few : s.events < most_events

pub next-is : (o : Opening) (s : State) (m : Message) → Fits o s → least s.post.waiting ≡ Some m → end_of o s ≡ None → IsNext o s m
next-is o s m f next going =
    let close = next-time o s m next going in
    record {
      close = close;
      early = omega (arith, close, f.opening.close);
      below = omega (arith, f.limit, going_below o s going);
      few = omega (arith, f.limit, f.opening.limit, going_below o s going);
    }

-- what the mail says of the next message
abbrev pub NextIsAmong : Type 0
NextIsAmong =
    (traders stocks time events : ℕ) (p : Post) (m : Message) → least p.waiting ≡ Some m
    → IsSoundMail traders stocks time events p → IsAmong traders stocks m

-- the receiver of the next message has an own time
pub next-within : NextIsAmong → (s : State) (m : Message) → IsSound s → least s.post.waiting ≡ Some m → m.to < length s.own
next-within law s m h next =
    let a = law (length s.floor.parties) (length s.floor.exchange.stocks) s.time s.events s.post m next h.mail in
    omega (arith, a.to, h.agents)

-- what a read of an own time gave
pub own-read : (s q : State) (i k x : ℕ) → s ≡ q → k < length s.own → i ≡ k → x ≡ get_or s.own i x → x ≡ slice_index q.own k
own-read s q i k x same within at r =
    r ∙ get_or_default s.own i x 0 (omega arith) ∙ ap (λ j. get_or s.own j 0) at ∙ ap (λ (v : State). slice_index v.own k) same

-- the floor fits where the state does
pub floor-fits : (o : Opening) (s : State) → Fits o s → FitsFloor o s.floor
floor-fits o s f = record { opening = f.opening; stocks = f.stocks; traders = f.traders }

-- an opening fits a later state of as many stocks, traders and groups
pub fits-after : (o : Opening) (s q : State) → Fits o s → IsOfSize s q.own q.floor → group_count q.groups ≡ group_count s.groups
    → q.applied ≤ length o.dated → s.time ≤ q.time → q.events ≤ o.limit → Fits o q
fits-after o s q f size groups dated later few = record {
  opening = f.opening;
  stocks = f.stocks ∙ sym size.stocks;
  traders = f.traders ∙ sym size.traders;
  groups = f.groups ∙ sym groups;
  dated = dated;
  start = omega (arith, f.start);
  limit = few;
}
