-- What a state keeps as events are made.
use Rattle.std.proofs.Common.{◌≡◌, ℕ, ◌+◌, ◌<◌, ◌≤◌, ◌^◌, inl, inr, List, [], ◌∷◌, length, All, Some, None, refl, sym, subst, ◌∙◌, arith, slice_index}
use Rattle.std.specs.Prelude.{max}
use Rattle.std.proofs.lemmas.Bool.{cases_lt}
use Rattle.std.proofs.lemmas.List.Elements.{All-head, All-nil, All-tail, All-weaker}
use Rattle.std.proofs.lemmas.List.Sums.{count_by-le-length}
use Rattle.market_types.specs.declared.feed.Feed.{Feed}
use Rattle.market_types.specs.declared.message.Message.{Message}
use Rattle.market_types.specs.Told.{event}
use Rattle.market_types.specs.Timely.{AreTimely, IsTimely}
use Rattle.market_rules.specs.Changes.{dated_by, is_due}
use Rattle.latency_model.specs.Tables.{Tables, group_count}
use Rattle.event_queue.specs.Waiting.{least}
use Rattle.event_queue.proofs.Kept.{all-joined, all-least, all-without}
use Rattle.market_floor.specs.declared.opening.Opening.{Opening}
use Rattle.market_floor.specs.declared.posting.Posting.{Posting}
use Rattle.market_floor.specs.Postings.{earliest_of}
use Rattle.kernel_core.specs.Post.{Post, joins, taken}
use Rattle.kernel_core.specs.Send.{all_sent, message_of, sent}
use Rattle.kernel_core.proofs.Posts.{all-joins, joins-cases}
use Rattle.kernel_core.proofs.Sends.{due-message}
use Rattle.market_floor.specs.Reaction.{reaction}
use Rattle.market_floor.specs.Ruled.{applied_by, ruled}
use Rattle.kernel_core.specs.State.{State}
use Rattle.kernel_core.specs.Step.{Fits, Happened, end_of, event_back, event_delivered, event_of}
use Rattle.kernel_core.proofs.Runs.{event-busy, event-free, going-whole, going_below, next-time}
use Rattle.kernel_copy.specs.Reached.{IsReached, IsReachedFloor}
use Rattle.kernel_copy.proofs.Floors.{ShortLaws, reached-later, reached-ruled, reacted-is, ruled-before}

-- a message is due from a time on
abbrev pub IsDue : ℕ → Message → Type 0
IsDue start m = start ≤ m.time

-- what is posted at a time is due from the start on
due-sent : (o : Opening) (groups : Tables) (from leave start time : ℕ) (p : Post) (xs : List Posting) → start ≤ time → time ≤ leave
    → All (λ (x : Posting). time ≤ earliest_of time x) xs → All (IsDue start) p.waiting → All (IsDue start) (all_sent o groups from leave p xs).waiting
due-sent o groups from leave start time p [] early after late h = h
due-sent o groups from leave start time p (x ∷ xs) early after late h =
    let P : Posting → Type 0 = λ y. time ≤ earliest_of time y in
    let first : start ≤ (message_of o groups from leave x p.next_seq).time = omega (arith, early, due-message o groups time from leave x p.next_seq after (All-head P x xs late)) in
    due-sent o groups from leave start time (sent o groups from leave p x) xs early after (All-tail P x xs late)
    (all-joins (IsDue start) p (message_of o groups from leave x) first h)

-- a message that joins drops at most itself
pub drops-joins : (p : Post) (m : ℕ → Message) → (joins p m).dropped ≤ p.dropped + 1
drops-joins p m = joins-cases (λ (q : Post). q.dropped ≤ p.dropped + 1) p m (λ h. omega arith) (omega arith)

drops-sent : (o : Opening) (groups : Tables) (from leave : ℕ) (p : Post) (xs : List Posting) → (all_sent o groups from leave p xs).dropped ≤ p.dropped + length xs
drops-sent o groups from leave p [] = omega arith
drops-sent o groups from leave p (x ∷ xs) =
    omega (arith, drops-sent o groups from leave (sent o groups from leave p x) xs, drops-joins p (message_of o groups from leave x))

applied-within : (a b n : ℕ) → a ≤ n → b ≤ n → max a b ≤ n
applied-within a b n h k = omega (arith, h, k)

dated-within : (o : Opening) (applied time : ℕ) → applied ≤ length o.dated → applied_by o applied time ≤ length o.dated
dated-within o applied time h = applied-within applied (dated_by o.dated time) (length o.dated) h (count_by-le-length (is_due time) o.dated)

-- What is known of the next message of a state of a course.
record IsNext (o : Opening) (s : State) (m : Message) : Type 0 where
  start : o.start ≤ m.time
  close : m.time ≤ o.close
  limit : s.events + 1 ≤ o.limit
  few : s.events ≤ 1000000
  whole : s.post.dropped ≡ 0

next-is : (o : Opening) (e : ℕ) (s : State) (m : Message) → end_of o s ≡ None → least s.post.waiting ≡ Some m → IsReached o e s → IsNext o s m
next-is o e s m going next h = record {
  start = all-least (IsDue o.start) s.post.waiting m (sym next) h.due;
  close = next-time o s m next going;
  limit = omega (arith, h.fits.limit, going_below o s going);
  few = omega (arith, h.fits.limit, h.fits.opening.limit);
  whole = going-whole o s going;
}

-- the opening fits a later state of as many groups, with a floor of as many stocks and traders
pub fits-later : (o : Opening) (n e : ℕ) (s q : State) → Fits o s → IsReachedFloor o n e q.floor → group_count q.groups ≡ group_count s.groups
    → q.applied ≤ length o.dated → o.start ≤ q.time → q.events ≤ o.limit → Fits o q
fits-later o n e s q f floor groups dated start limit = record {
  opening = f.opening;
  stocks = floor.stocks;
  traders = floor.parties;
  groups = f.groups ∙ sym groups;
  dated = dated;
  start = start;
  limit = limit;
}

-- What an event of a course gives.
pub record IsEvent (o : Opening) (e : ℕ) (h : Happened) : Type 0 where
  pub state : IsReached o e h.state
  pub timely : IsTimely (event h.entry)

timely-before : (o : Opening) (xs : List Feed) → o.close ≤ 86399999999999 → All (λ (f : Feed). f.time ≤ o.close) xs → AreTimely xs
timely-before o xs day h = All-weaker (λ (f : Feed). f.time ≤ o.close) (λ (f : Feed). f.time < 2 ^ 48) (λ f q. omega (arith, q, day)) xs h

timely-at : (o : Opening) (time : ℕ) (xs : List Feed) → o.close ≤ 86399999999999 → time ≤ o.close → All (λ (f : Feed). f.time ≡ time) xs → AreTimely xs
timely-at o time xs day early h = All-weaker (λ (f : Feed). f.time ≡ time) (λ (f : Feed). f.time < 2 ^ 48) (λ f q. omega (arith, q, day, early)) xs h

back-is : (o : Opening) (e : ℕ) (s : State) (m : Message) (until : ℕ) → IsReached o e s → IsNext o s m → m.time ≤ until → IsEvent o e (event_back o s m until)
back-is o e s m until h n later =
    let floor = reached-ruled o s.events e s.applied m.time s.floor h.floor in
    let more = reached-later o s.events e (ruled o s.applied m.time s.floor).floor floor in
    let back : Message = record m { time = until } in
    record {
      state = record {
        fits = fits-later o (s.events + 1) e s (event_back o s m until).state h.fits more refl (dated-within o s.applied m.time h.fits.dated) n.start n.limit;
        close = n.close;
        due = all-joined (IsDue o.start) back _ (omega (arith, n.start, later)) (all-without (IsDue o.start) m.seq s.post.waiting h.due);
        floor = more;
        drops = h.drops;
      };
      timely = (timely-before o _ h.fits.opening.close (ruled-before o s.applied m.time s.floor h.fits.opening), All-nil (λ (f : Feed). f.time < 2 ^ 48));
    }

delivered-is : ShortLaws → (o : Opening) (e : ℕ) (s : State) (m : Message) → IsReached o e s → IsNext o s m → IsEvent o e (event_delivered o s m)
delivered-is laws o e s m h n =
    let f = (ruled o s.applied m.time s.floor).floor in
    let floor = reached-ruled o s.events e s.applied m.time s.floor h.floor in
    let r = reaction o f m in
    let k = reacted-is laws o s.events e f m floor in
    let drops = drops-sent o s.groups m.to (m.time + r.delay) (taken s.post m) r.postings in
    record {
      state = record {
        fits = fits-later o (s.events + 1) e s (event_delivered o s m).state h.fits k.floor refl (dated-within o s.applied m.time h.fits.dated) n.start n.limit;
        close = n.close;
        due = due-sent o s.groups m.to (m.time + r.delay) o.start m.time (taken s.post m) r.postings n.start (omega arith) k.late
            (all-without (IsDue o.start) m.seq s.post.waiting h.due);
        floor = k.floor;
        drops = omega (arith, drops, k.few, n.few, n.whole);
      };
      timely = (timely-before o _ h.fits.opening.close (ruled-before o s.applied m.time s.floor h.fits.opening), timely-at o m.time r.feed h.fits.opening.close n.close k.feed);
    }

-- the event of the next message
pub event-is : ShortLaws → (o : Opening) (e : ℕ) (s : State) (m : Message) → end_of o s ≡ None → least s.post.waiting ≡ Some m → IsReached o e s → IsEvent o e (event_of o s m)
event-is laws o e s m going next h =
    let n = next-is o e s m going next h in
    elim (cases_lt m.time (slice_index s.own m.to)) [
      | inl busy ↦ subst (λ (x : Happened). IsEvent o e x) (sym (event-busy o s m busy)) (back-is o e s m (slice_index s.own m.to) h n (omega (arith, busy)))
      | inr free ↦ subst (λ (x : Happened). IsEvent o e x) (sym (event-free o s m free)) (delivered-is laws o e s m h n)
    ]
