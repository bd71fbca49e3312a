-- Lemmas on steps and runs of steps.
use Rattle.std.proofs.Common.{◌≡◌, ◌≢◌, ℕ, ◌+◌, ◌-◌, ◌<◌, ◌≤◌, true, false, cond, ltb, eqb, [], ◌∷◌, ◌++◌, Option, Some, None, option_map, is_some, refl, sym, ap, ◌∙◌, arith, suc, zero, subst, slice_index}
use Rattle.std.proofs.lemmas.Bool.{lt-ltb, le-ltb}
use Rattle.std.proofs.lemmas.Bool.Decides.{nat_tests}
use Rattle.market_types.specs.declared.message.Message.{Message}
use Rattle.market_types.specs.declared.entry.End.{End}
use Rattle.market_types.specs.declared.entry.End.TheVariants.{QueueFull, EventLimit, Closed}
use Rattle.market_types.specs.Told.{event}
use Rattle.event_queue.specs.Waiting.{least}
use Rattle.market_floor.specs.declared.opening.Opening.{Opening}
use Rattle.kernel_core.specs.declared.stepped.Stepped.TheVariants.{Ended}
use Rattle.kernel_core.specs.State.{State}
use Rattle.kernel_core.specs.Step.{Happened, event_of, event_back, event_delivered, end_of, end_of_waiting, answer_by}
use Rattle.kernel_core.specs.Until.{Run, with_event, advanced, advanced_by, until}

pub event-number : (o : Opening) (s : State) (m : Message) → (event_of o s m).entry.number ≡ s.events + 1
unfolding event_of
event-number o s m = elim (ltb m.time (slice_index s.own m.to)) as (λ b. let h : Happened = cond b (event_back o s m (slice_index s.own m.to)) (event_delivered o s m) in h.entry.number ≡ s.events + 1) [ true ↦ refl | false ↦ refl ]

pub event-events : (o : Opening) (s : State) (m : Message) → (event_of o s m).state.events ≡ s.events + 1
unfolding event_of
event-events o s m = elim (ltb m.time (slice_index s.own m.to)) as (λ b. let h : Happened = cond b (event_back o s m (slice_index s.own m.to)) (event_delivered o s m) in h.state.events ≡ s.events + 1) [ true ↦ refl | false ↦ refl ]

with_some : (r : Run) (f : Message → Happened) (e : Option End) (l : Option Message) (m : Message) → e ≡ None → l ≡ Some m → with_event r (cond (is_some e) None (option_map f l)) ≡ record { state = (f m).state; entries = r.entries ++ event (f m).entry ∷ [] }
with_some r f None None m p q = cc
with_some r f None (Some x) m p q = let same : x ≡ m = grind arith in ap (λ (y : Message). with_event r (Some (f y))) same
with_some r f (Some x) l m p q = cc

with_none : (r : Run) (f : Message → Happened) (e : Option End) (l : Option Message) (x : End) → e ≡ Some x → with_event r (cond (is_some e) None (option_map f l)) ≡ r
with_none r f None l x p = cc
with_none r f (Some y) l x p = refl

-- one event more
pub advanced_going : (o : Opening) (r : Run) (m : Message) → end_of o r.state ≡ None → least r.state.post.waiting ≡ Some m → advanced o r ≡ record { state = (event_of o r.state m).state; entries = r.entries ++ event (event_of o r.state m).entry ∷ [] }
unfolding advanced
advanced_going o r m p q = with_some r (event_of o r.state) (end_of o r.state) (least r.state.post.waiting) m p q

pub advanced_ended : (o : Opening) (r : Run) (e : End) → end_of o r.state ≡ Some e → advanced o r ≡ r
unfolding advanced
advanced_ended o r e p = with_none r (event_of o r.state) (end_of o r.state) (least r.state.post.waiting) e p

pub advanced_by_ended : (n : ℕ) (o : Opening) (r : Run) (e : End) → end_of o r.state ≡ Some e → advanced_by n o r ≡ r
advanced_by_ended zero o r e p = refl
advanced_by_ended (suc n) o r e p = rw (advanced_ended o r e p) (advanced_by_ended n o r e p)

-- first a events, then b
pub advanced_by-add : (a b n : ℕ) (o : Opening) (r : Run) → n ≡ a + b → advanced_by n o r ≡ advanced_by b o (advanced_by a o r)
advanced_by-add zero b n o r e = let same : n ≡ b = omega arith in rw same refl
advanced_by-add (suc a) b zero o r e = absurd (omega arith)
advanced_by-add (suc a) b (suc n) o r e = advanced_by-add a b n o (advanced o r) (omega arith)

pub event-busy : (o : Opening) (s : State) (m : Message) → m.time < slice_index s.own m.to → event_of o s m ≡ event_back o s m (slice_index s.own m.to)
unfolding event_of
event-busy o s m h = rw (lt-ltb m.time (slice_index s.own m.to) h) refl

pub event-free : (o : Opening) (s : State) (m : Message) → slice_index s.own m.to ≤ m.time → event_of o s m ≡ event_delivered o s m
unfolding event_of
event-free o s m h = rw (le-ltb m.time (slice_index s.own m.to) h) refl

below_limit : (d e n : ℕ) (x : Option End) → cond (ltb 0 d) (Some QueueFull) (cond (eqb e n) (Some EventLimit) x) ≡ None → e ≢ n
below_limit d e n x h = grind (arith, nat_tests)

first-none : (d : ℕ) (x : Option End) → cond (ltb 0 d) (Some QueueFull) x ≡ None → d ≡ 0
first-none d x h = grind (arith, nat_tests)

-- no message was dropped before a state that isn't ended
pub going-whole : (o : Opening) (s : State) → end_of o s ≡ None → s.post.dropped ≡ 0
going-whole o s h = first-none s.post.dropped (cond (eqb s.events o.limit) (Some EventLimit) (end_of_waiting o (least s.post.waiting))) h

-- a state that isn't ended has room for one event
pub going_below : (o : Opening) (s : State) → end_of o s ≡ None → s.events ≢ o.limit
going_below o s h = below_limit s.post.dropped s.events o.limit (end_of_waiting o (least s.post.waiting)) h

pub ended_from : (s : State) (x : Option End) (e : End) → Ended e ≡ answer_by s x → x ≡ Some e
ended_from s None e h = cc
ended_from s (Some y) e h = cc

-- one event more
pub advanced_more : (n k : ℕ) (o : Opening) (r : Run) → k ≡ n + 1 → advanced_by k o r ≡ advanced o (advanced_by n o r)
advanced_more n k o r e = advanced_by-add n 1 k o r e

-- a run that has ended is the whole run
pub until_ended : (o : Opening) (first r : Run) (stop n : ℕ) (e : End) → r ≡ advanced_by n o first → n ≤ stop - first.state.events → end_of o r.state ≡ Some e → r ≡ until o stop first
until_ended o first r stop n e is h p =
    let k = stop - first.state.events - n in
    let split = advanced_by-add n k (stop - first.state.events) o first (omega arith) in
    sym (split ∙ ap (λ (q : Run). advanced_by k o q) (sym is) ∙ advanced_by_ended k o r e p)

with_event-grows : (r : Run) (f : Message → Happened) (e : Option End) (l : Option Message) → ((m : Message) → (f m).state.events ≡ r.state.events + 1)
    → r.state.events ≤ (with_event r (cond (is_some e) None (option_map f l))).state.events
with_event-grows r f None None h = omega arith
with_event-grows r f None (Some m) h = omega (arith, h m)
with_event-grows r f (Some x) l h = omega arith

advanced-grows : (o : Opening) (r : Run) → r.state.events ≤ (advanced o r).state.events
unfolding advanced
advanced-grows o r = with_event-grows r (event_of o r.state) (end_of o r.state) (least r.state.post.waiting) (event-events o r.state)

-- a later run has at least as many events
pub advanced_by-grows : (n : ℕ) (o : Opening) (r : Run) → r.state.events ≤ (advanced_by n o r).state.events
advanced_by-grows zero o r = omega arith
advanced_by-grows (suc n) o r = omega (arith, advanced-grows o r, advanced_by-grows n o (advanced o r))

-- a part of a run has at most as many events as the whole
pub part_within : (n stop : ℕ) (o : Opening) (first later : Run) → later ≡ advanced_by n o first → n ≤ stop - first.state.events
    → later.state.events ≤ (until o stop first).state.events
part_within n stop o first later is most =
    let rest = stop - first.state.events - n in
    let whole : until o stop first ≡ advanced_by rest o later =
    advanced_by-add n rest (stop - first.state.events) o first (omega arith) ∙ ap (λ (r : Run). advanced_by rest o r) (sym is) in
    omega (arith, ap (λ (r : Run). r.state.events) whole, advanced_by-grows rest o later)

event-time : (o : Opening) (s : State) (m : Message) → (event_of o s m).state.time ≡ m.time
unfolding event_of
event-time o s m = elim (ltb m.time (slice_index s.own m.to)) as (λ b. let h : Happened = cond b (event_back o s m (slice_index s.own m.to)) (event_delivered o s m) in h.state.time ≡ m.time) [ true ↦ refl | false ↦ refl ]

not_late : (d e n c t : ℕ) → cond (ltb 0 d) (Some QueueFull) (cond (eqb e n) (Some EventLimit) (cond (ltb c t) (Some Closed) None)) ≡ None → t ≤ c
not_late d e n c t h = grind (arith, nat_tests)

-- the next message of a state that is not ended is no later than the close
pub going-time : (o : Opening) (s : State) (l : Option Message) (m : Message) → l ≡ Some m
    → cond (ltb 0 s.post.dropped) (Some QueueFull) (cond (eqb s.events o.limit) (Some EventLimit) (end_of_waiting o l)) ≡ None → m.time ≤ o.close
going-time o s None m is h = cc
going-time o s (Some x) m is h =
    let same : x ≡ m = grind arith in
    subst (λ (y : Message). y.time ≤ o.close) same (not_late s.post.dropped s.events o.limit o.close x.time h)

with_event-time : (c : ℕ) (r : Run) (f : Message → Happened) (e : Option End) (l : Option Message)
    → ((m : Message) → e ≡ None → l ≡ Some m → (f m).state.time ≤ c) → r.state.time ≤ c
    → (with_event r (cond (is_some e) None (option_map f l))).state.time ≤ c
with_event-time c r f None None g h = h
with_event-time c r f None (Some m) g h = g m refl refl
with_event-time c r f (Some x) l g h = h

advanced-time : (o : Opening) (r : Run) → r.state.time ≤ o.close → (advanced o r).state.time ≤ o.close
unfolding advanced
advanced-time o r h =
    let s = r.state in
    let w = least s.post.waiting in
    with_event-time o.close r (event_of o s) (end_of o s) w
    (λ (m : Message) going next. omega (arith, event-time o s m, going-time o s w m next going)) h

advanced_by-time : (n : ℕ) (o : Opening) (r : Run) → r.state.time ≤ o.close → (advanced_by n o r).state.time ≤ o.close
advanced_by-time zero o r h = h
advanced_by-time (suc n) o r h = advanced_by-time n o (advanced o r) (advanced-time o r h)

-- a run that is so many events later is no later than the close
pub run-time : (n : ℕ) (o : Opening) (first later : Run) → first.state.time ≤ o.close → later ≡ advanced_by n o first → later.state.time ≤ o.close
run-time n o first later h is = subst (λ (r : Run). r.state.time ≤ o.close) (sym is) (advanced_by-time n o first h)

-- the next message of a state that isn't ended is no later than the close
pub next-time : (o : Opening) (s : State) (m : Message) → least s.post.waiting ≡ Some m → end_of o s ≡ None → m.time ≤ o.close
next-time o s m next going = going-time o s (least s.post.waiting) m next going
