-- What a run keeps of the mail stays.
use Rattle.std.proofs.Common.{◌≡◌, ◌≢◌, ℕ, ◌+◌, ◌<◌, ◌≤◌, not, eqb, List, [], ◌∷◌, Some, sym, arith, All, refl}
use Rattle.std.specs.List.{AllByRecursion}
use Rattle.std.proofs.lemmas.List.Elements.{All-nil, recursion_from_All}
use Rattle.market_types.specs.declared.message.Message.{Message}
use Rattle.market_types.specs.declared.order.Inbound.{Inbound}
use Rattle.latency_model.specs.Tables.{Tables}
use Rattle.event_queue.specs.Waiting.{least, without}
use Rattle.event_queue.proofs.First.{least-soonest, least-fewer}
use Rattle.event_queue.proofs.Kept.{all-joined, all-least, all-without}
use Rattle.event_queue.proofs.Numbers.{length-joined}
use Rattle.event_queue.proofs.Orders.{new-without, rising-filter, rising-joined}
use Rattle.market_floor.specs.declared.opening.Opening.{Opening}
use Rattle.market_floor.specs.declared.posting.Posting.{Posting}
use Rattle.market_floor.specs.Postings.{IsAddressed, IsAmong, earliest_of}
use Rattle.kernel_core.specs.Post.{IsOrderly, Post, joins, nothing_waits, put_back, taken}
use Rattle.kernel_core.specs.Send.{all_sent, injected, message_of, order_at, sent}
use Rattle.kernel_core.specs.SoundMail.{IsSoundMail}
use Rattle.kernel_core.proofs.Posts.{all-joins, joins-held, orderly-joins}
use Rattle.kernel_core.proofs.Sends.{among-message, due-message, seq-message}

pub sound-begun : (traders stocks time : ℕ) → IsSoundMail traders stocks time 0 nothing_waits
sound-begun traders stocks time = record {
  orderly = record { few = omega arith; numbers = All-nil (λ (m : Message). m.seq < 0); rising = tt };
  among = All-nil (λ (m : Message). IsAmong traders stocks m);
  due = All-nil (λ (m : Message). time ≤ m.time);
  numbers = omega arith;
}

-- a message joins that may, or is dropped
pub sound-joins : (traders stocks time events : ℕ) (p : Post) (m : ℕ → Message) → (m p.next_seq).seq ≡ p.next_seq → IsAmong traders stocks (m p.next_seq) → time ≤ (m p.next_seq).time → IsSoundMail traders stocks time events p → IsSoundMail traders stocks time events (joins p m)
sound-joins traders stocks time events p m e among due s = record {
  orderly = orderly-joins p m e s.orderly;
  among = all-joins (λ (x : Message). IsAmong traders stocks x) p m among s.among;
  due = all-joins (λ (x : Message). time ≤ x.time) p m due s.due;
  numbers = omega (arith, joins-held p m, s.numbers);
}

pub sound-sent : (o : Opening) (groups : Tables) (traders stocks time events from leave : ℕ) (p : Post) (x : Posting) → time ≤ leave → IsAddressed traders stocks from x → time ≤ earliest_of time x → IsSoundMail traders stocks time events p → IsSoundMail traders stocks time events (sent o groups from leave p x)
sound-sent o groups traders stocks time events from leave p x late addressed earliest s =
    let n = p.next_seq in
    sound-joins traders stocks time events p (message_of o groups from leave x) (seq-message o groups from leave x n) (among-message o groups traders stocks from leave x n addressed) (due-message o groups time from leave x n late earliest) s

pub sound-injected : (traders stocks time events from at : ℕ) (order : Inbound) (p : Post) → 1 ≤ from → from ≤ traders → time ≤ at → IsSoundMail traders stocks time events p → IsSoundMail traders stocks time events (injected from at order p)
sound-injected traders stocks time events from at order p known few late s =
    let among : IsAmong traders stocks (order_at from at order p.next_seq) = record { from = few; to = omega arith; known = λ e. known; asks = tt } in
    sound-joins traders stocks time events p (order_at from at order) refl among late s

each-sent : (o : Opening) (groups : Tables) (traders stocks time events from leave : ℕ) (p : Post) (xs : List Posting) → time ≤ leave → AllByRecursion (λ (x : Posting). IsAddressed traders stocks from x) xs → AllByRecursion (λ (x : Posting). time ≤ earliest_of time x) xs → IsSoundMail traders stocks time events p → IsSoundMail traders stocks time events (all_sent o groups from leave p xs)
each-sent o groups traders stocks time events from leave p [] late addressed earliest s = s
each-sent o groups traders stocks time events from leave p (x ∷ xs) late addressed earliest s =
    each-sent o groups traders stocks time events from leave (sent o groups from leave p x) xs late addressed.1 earliest.1 (sound-sent o groups traders stocks time events from leave p x late addressed.0 earliest.0 s)

pub sound-all_sent : (o : Opening) (groups : Tables) (traders stocks time events from leave : ℕ) (p : Post) (xs : List Posting) → time ≤ leave → All (λ (x : Posting). IsAddressed traders stocks from x) xs → All (λ (x : Posting). time ≤ earliest_of time x) xs → IsSoundMail traders stocks time events p → IsSoundMail traders stocks time events (all_sent o groups from leave p xs)
sound-all_sent o groups traders stocks time events from leave p xs late addressed earliest s =
    each-sent o groups traders stocks time events from leave p xs late (recursion_from_All (λ (x : Posting). IsAddressed traders stocks from x) xs addressed) (recursion_from_All (λ (x : Posting). time ≤ earliest_of time x) xs earliest) s

orderly-taken : (p : Post) (m : Message) → least p.waiting ≡ Some m → IsOrderly p → IsOrderly (taken p m)
orderly-taken p m e o = record {
  few = omega (arith, o.few, least-fewer p.waiting m e o.rising);
  numbers = all-without (λ (x : Message). x.seq < p.next_seq) m.seq p.waiting o.numbers;
  rising = rising-filter (λ (x : Message). not (eqb x.seq m.seq)) p.waiting o.rising;
}

-- the next message leaves in an event
pub sound-taken : (traders stocks time events : ℕ) (p : Post) (m : Message) → least p.waiting ≡ Some m → IsSoundMail traders stocks time events p → IsSoundMail traders stocks m.time (events + 1) (taken p m)
sound-taken traders stocks time events p m e s = record {
  orderly = orderly-taken p m e s.orderly;
  among = all-without (λ (x : Message). IsAmong traders stocks x) m.seq p.waiting s.among;
  due = all-without (λ (x : Message). m.time ≤ x.time) m.seq p.waiting (least-soonest p.waiting m e);
  numbers = omega (arith, s.numbers, least-fewer p.waiting m e s.orderly.rising);
}

pub among-next : (traders stocks time events : ℕ) (p : Post) (m : Message) → least p.waiting ≡ Some m → IsSoundMail traders stocks time events p → IsAmong traders stocks m
among-next traders stocks time events p m e s = all-least (λ (x : Message). IsAmong traders stocks x) p.waiting m (sym e) s.among

pub soonest-next : (traders stocks time events : ℕ) (p : Post) (m : Message) → least p.waiting ≡ Some m → IsSoundMail traders stocks time events p → time ≤ m.time
soonest-next traders stocks time events p m e s = all-least (λ (x : Message). time ≤ x.time) p.waiting m (sym e) s.due

-- the next message is put back in an event
pub sound-put_back : (traders stocks time events until : ℕ) (p : Post) (m : Message) → least p.waiting ≡ Some m → m.time ≤ until → IsSoundMail traders stocks time events p → IsSoundMail traders stocks m.time (events + 1) (put_back p m until)
sound-put_back traders stocks time events until p m e late s =
    let w = without m.seq p.waiting in
    let back : Message = record m { time = until } in
    let t = sound-taken traders stocks time events p m e s in
    let a : IsAmong traders stocks m = among-next traders stocks time events p m e s in
    let fewer = least-fewer p.waiting m e s.orderly.rising in
    let more = length-joined back w in
    let given : m.seq < p.next_seq = all-least (λ (x : Message). x.seq < p.next_seq) p.waiting m (sym e) s.orderly.numbers in
    record {
      orderly = record {
        few = omega (arith, s.orderly.few, fewer, more);
        numbers = all-joined (λ (x : Message). x.seq < p.next_seq) back w given t.orderly.numbers;
        rising = rising-joined back w (recursion_from_All (λ (x : Message). x.seq ≢ m.seq) w (new-without m.seq p.waiting)) t.orderly.rising;
      };
      among = all-joined (λ (x : Message). IsAmong traders stocks x) back w (record { from = a.from; to = a.to; known = a.known; asks = a.asks }) t.among;
      due = all-joined (λ (x : Message). m.time ≤ x.time) back w late t.due;
      numbers = omega (arith, s.numbers, fewer, more);
    }
