-- Runs that begin with no entries, and what a keeper takes of them.
use Rattle.std.proofs.Common.{◌≡◌, ℕ, ◌+◌, ◌-◌, ◌<◌, ◌≤◌, ◌⊎◌, true, false, List, [], ◌∷◌, ◌++◌, Option, Some, None, All, refl, sym, ap, ◌∙◌, arith, suc, zero, subst, append_assoc, append-nil}
use Rattle.std.specs.List.{AllByRecursion}
use Rattle.std.proofs.lemmas.List.Elements.{All-append, All-cons, All-nil}
use Rattle.market_types.specs.declared.entry.End.{End}
use Rattle.market_types.specs.declared.message.Message.{Message}
use Rattle.market_types.specs.Told.{EntryTold, EventTold, event, edit}
use Rattle.market_types.specs.Timely.{IsTimely}
use Rattle.event_queue.specs.Waiting.{least}
use Rattle.market_floor.specs.declared.opening.Opening.{Opening}
use Rattle.kernel_core.specs.Due.{due_by, until_time}
use Rattle.kernel_core.specs.Seen.{IsEvent, afresh, first_waiting, folded, listed, message_or_vacant}
use Rattle.kernel_core.specs.State.{State}
use Rattle.kernel_core.specs.declared.stepped.Stepped.TheVariants.{Ended}
use Rattle.kernel_core.specs.Step.{Happened, answer_by, end_of, event_of, step_of}
use Rattle.kernel_core.specs.Until.{Run, with_event, advanced, advanced_by, until, behind}
use Rattle.kernel_core.proofs.Runs.{advanced_by-add, advanced_going, advanced_more, ended_from, event-events, part_within, run-time, until_ended}
use Rattle.kernel_core.proofs.Stops.{advanced-events, advanced_by-behind, until-behind}
use Rattle.kernel_core.proofs.Times.{due-going, time-behind, time-grows, time-over, time-some, time-step}

-- what was read as the least waiting message is the first one
pub first-is : (s : State) (m : Message) → Some m ≡ least s.post.waiting → m ≡ first_waiting s
first-is s m is = ap message_or_vacant is

-- where one waits, it is the first one
pub first-waits : (s : State) (m : Message) → least s.post.waiting ≡ Some m → least s.post.waiting ≡ Some (first_waiting s)
first-waits s m is = is ∙ ap (λ (x : Message). Some x) (first-is s m (sym is))

-- a run is one of no entries behind its own
pub behind-own : (xs : List EntryTold) (s : State) → behind xs (afresh s) ≡ record { state = s; entries = xs }
behind-own xs s = ap (λ (es : List EntryTold). let r : Run = record { state = s; entries = es } in r) (append-nil xs)

-- first so many events, then so many more
pub gone-on : (a b n : ℕ) (o : Opening) (s0 s : State) → n ≡ a + b → s ≡ (advanced_by a o (afresh s0)).state
    → advanced_by n o (afresh s0) ≡ behind (advanced_by a o (afresh s0)).entries (advanced_by b o (afresh s))
gone-on a b n o s0 s e is =
    let r = advanced_by a o (afresh s0) in
    advanced_by-add a b n o (afresh s0) e
    ∙ ap (λ (q : Run). advanced_by b o q) (sym (behind-own r.entries r.state))
    ∙ advanced_by-behind b o r.entries (afresh r.state)
    ∙ ap (λ (x : State). behind r.entries (advanced_by b o (afresh x))) (sym is)

-- the events from one state to a later one
abbrev pub between : Opening → State → State → Run
between o s q = advanced_by (q.events - s.events) o (afresh s)

pub on-run : (o : Opening) (s0 s q : State) → s0.events ≤ s.events → s.events ≤ q.events → s ≡ (between o s0 s).state → between o s0 q ≡ behind (between o s0 s).entries (between o s q)
on-run o s0 s q first more made = gone-on (s.events - s0.events) (q.events - s.events) (q.events - s0.events) o s0 s (omega arith) made

-- what holds of the parts of a run holds of the whole
pub on-made : (o : Opening) (s0 s q : State) → s0.events ≤ s.events → s.events ≤ q.events → s ≡ (between o s0 s).state → q ≡ (between o s q).state → q ≡ (between o s0 q).state
on-made o s0 s q first more made next = next ∙ sym (ap (λ (r : Run). r.state) (on-run o s0 s q first more made))

pub on-timely : (o : Opening) (s0 s q : State) → s0.events ≤ s.events → s.events ≤ q.events → s ≡ (between o s0 s).state
    → All IsTimely (between o s0 s).entries → All IsTimely (between o s q).entries → All IsTimely (between o s0 q).entries
on-timely o s0 s q first more made a b =
    subst (λ (r : Run). All IsTimely r.entries) (sym (on-run o s0 s q first more made))
    (All-append IsTimely (between o s0 s).entries (between o s q).entries a b)

pub folded-append : {T : Type 0} (take : T → EventTold → T) (t : T) (xs ys : List EntryTold) → folded take t (xs ++ ys) ≡ folded take (folded take t xs) ys
folded-append take t [] ys = refl
folded-append take t (event e ∷ xs) ys = folded-append take (take t e) xs ys
folded-append take t (edit m ∷ xs) ys = folded-append take t xs ys

pub on-kept : {T : Type 0} (take : T → EventTold → T) (t0 t u : T) (o : Opening) (s0 s q : State) → s0.events ≤ s.events → s.events ≤ q.events → s ≡ (between o s0 s).state
    → t ≡ folded take t0 (between o s0 s).entries → u ≡ folded take t (between o s q).entries → u ≡ folded take t0 (between o s0 q).entries
on-kept {T} take t0 t u o s0 s q first more made a b =
    b ∙ ap (λ (x : T). folded take x (between o s q).entries) a
    ∙ sym (folded-append take t0 (between o s0 s).entries (between o s q).entries)
    ∙ sym (ap (λ (r : Run). folded take t0 r.entries) (on-run o s0 s q first more made))

-- a state with as many events as before is the state before
pub stays : (o : Opening) (s q : State) → q.events ≡ s.events → q ≡ (between o s q).state → q ≡ s
stays o s q same made = let none : q.events - s.events ≡ 0 = omega arith in made ∙ ap (λ (n : ℕ). (advanced_by n o (afresh s)).state) none

-- a run that has ended is the whole run
pub ended-run : (o : Opening) (s0 s : State) (stop : ℕ) (e : End) → s ≡ (between o s0 s).state → s.events - s0.events ≤ stop - s0.events → end_of o s ≡ Some e
    → between o s0 s ≡ until o stop (afresh s0)
ended-run o s0 s stop e made most ended =
    until_ended o (afresh s0) (between o s0 s) stop (s.events - s0.events) e refl most (subst (λ (x : State). end_of o x ≡ Some e) made ended)

-- so is one that has reached its stop
pub stopped-run : (o : Opening) (s0 s : State) (stop : ℕ) → stop ≤ s.events → s.events - s0.events ≤ stop - s0.events → between o s0 s ≡ until o stop (afresh s0)
stopped-run o s0 s stop there most =
    let same : s.events - s0.events ≡ stop - s0.events = omega arith in
    ap (λ (n : ℕ). advanced_by n o (afresh s0)) same

-- a part has at most as many events as the whole, and is no later than the close
pub within-run : (o : Opening) (s0 s : State) (stop : ℕ) → s ≡ (between o s0 s).state → s.events - s0.events ≤ stop - s0.events → s.events ≤ (until o stop (afresh s0)).state.events
within-run o s0 s stop made most =
    subst (λ (x : State). x.events ≤ (until o stop (afresh s0)).state.events) (sym made) (part_within (s.events - s0.events) stop o (afresh s0) (between o s0 s) refl most)

pub time-run : (o : Opening) (s0 s : State) → s ≡ (between o s0 s).state → s0.time ≤ o.close → s.time ≤ o.close
time-run o s0 s made before =
    subst (λ (x : State). x.time ≤ o.close) (sym made) (run-time (s.events - s0.events) o (afresh s0) (between o s0 s) before refl)

-- where no event was made
pub between-none : (o : Opening) (s q : State) → q ≡ s → between o s q ≡ afresh q
between-none o s q is =
    let none : q.events - s.events ≡ 0 = omega (arith, ap (λ (x : State). x.events) is) in
    ap (λ (n : ℕ). advanced_by n o (afresh s)) none ∙ ap afresh (sym is)

-- where one was
pub between-one : (o : Opening) (s q : State) (m : Message) → end_of o s ≡ None → least s.post.waiting ≡ Some m → q ≡ (event_of o s m).state
    → between o s q ≡ record { state = q; entries = event (event_of o s m).entry ∷ [] }
between-one o s q m going next is =
    let one : q.events - s.events ≡ 1 = omega (arith, ap (λ (x : State). x.events) is, event-events o s m) in
    ap (λ (n : ℕ). advanced_by n o (afresh s)) one ∙ advanced_going o (afresh s) m going next
    ∙ ap (λ (x : State). let r : Run = record { state = x; entries = event (event_of o s m).entry ∷ [] } in r) (sym is)

pub one-timely : (e : EntryTold) → IsTimely e → All IsTimely (e ∷ [])
one-timely e h = All-cons IsTimely e [] h (All-nil IsTimely)

some-or-none : (x : Option End) (e : End) → x ≡ None → x ≡ Some e → ⊥
some-or-none x e none some = cc

-- a state with a due message doesn't answer its end
pub due-unended : (o : Opening) (w : ℕ) (s : State) (e : End) → due_by o w s ≡ true → Ended e ≡ answer_by s (end_of o s) → ⊥
due-unended o w s e due is = some-or-none (end_of o s) e (due-going o w s due) (ended_from s (end_of o s) e is)

-- All that a run adds are events.
events-append : (xs ys : List EntryTold) → AllByRecursion IsEvent xs → AllByRecursion IsEvent ys → AllByRecursion IsEvent (xs ++ ys)
events-append [] ys a b = b
events-append (x ∷ xs) ys a b = (a.0, events-append xs ys a.1 b)

with_event-events : (r : Run) (h : Option Happened) → AllByRecursion IsEvent r.entries → AllByRecursion IsEvent (with_event r h).entries
with_event-events r None a = a
with_event-events r (Some h) a = events-append r.entries (event h.entry ∷ []) a (tt, tt)

advanced-all : (o : Opening) (r : Run) → AllByRecursion IsEvent r.entries → AllByRecursion IsEvent (advanced o r).entries
unfolding advanced
advanced-all o r a = with_event-events r (step_of o r.state) a

advanced_by-all : (n : ℕ) (o : Opening) (r : Run) → AllByRecursion IsEvent r.entries → AllByRecursion IsEvent (advanced_by n o r).entries
advanced_by-all zero o r a = a
advanced_by-all (suc n) o r a = advanced_by-all n o (advanced o r) (advanced-all o r a)

pub events-between : (n : ℕ) (o : Opening) (s : State) → AllByRecursion IsEvent (advanced_by n o (afresh s)).entries
events-between n o s = advanced_by-all n o (afresh s) tt

pub events-until : (o : Opening) (n : ℕ) (s : State) → AllByRecursion IsEvent (until o n (afresh s)).entries
events-until o n s = events-between (n - s.events) o s

pub events-until_time : (o : Opening) (w most : ℕ) (s : State) → AllByRecursion IsEvent (until_time o w most (afresh s)).entries
events-until_time o w most s =
    let p = time-some (most - s.events) o w (afresh s) in
    subst (λ (r : Run). AllByRecursion IsEvent r.entries) (sym p.1) (events-between p.0 o s)

-- a trace takes them as its next entries
pub folded-listed : (xs es : List EntryTold) → AllByRecursion IsEvent es → folded listed xs es ≡ xs ++ es
folded-listed xs [] a = sym (append-nil xs)
folded-listed xs (event e ∷ es) a = folded-listed (listed xs e) es a.1 ∙ append_assoc xs (event e ∷ []) es
folded-listed xs (edit m ∷ es) a = absurd a.0

-- a trace's run is the run behind its entries
pub traced : (xs ys es : List EntryTold) (s q : State) → AllByRecursion IsEvent es → ys ≡ folded listed xs es → ◌≡◌ {A = Run} (record { state = q; entries = ys }) (behind xs (record { state = q; entries = es }))
traced xs ys es s q a is = ap (λ (zs : List EntryTold). let r : Run = record { state = q; entries = zs } in r) (is ∙ folded-listed xs es a)

pub traced-by : (n : ℕ) (o : Opening) (s q : State) (xs ys : List EntryTold) → q ≡ (advanced_by n o (afresh s)).state → ys ≡ folded listed xs (advanced_by n o (afresh s)).entries
    → ◌≡◌ {A = Run} (record { state = q; entries = ys }) (advanced_by n o (record { state = s; entries = xs }))
traced-by n o s q xs ys made kept =
    let r = advanced_by n o (afresh s) in
    traced xs ys r.entries s q (events-between n o s) kept
    ∙ ap (λ (x : State). behind xs (record { state = x; entries = r.entries })) made
    ∙ sym (advanced_by-behind n o xs (afresh s))
    ∙ ap (λ (z : Run). advanced_by n o z) (behind-own xs s)

pub traced-until : (o : Opening) (n : ℕ) (s q : State) (xs ys : List EntryTold) → q ≡ (until o n (afresh s)).state → ys ≡ folded listed xs (until o n (afresh s)).entries
    → ◌≡◌ {A = Run} (record { state = q; entries = ys }) (until o n (record { state = s; entries = xs }))
traced-until o n s q xs ys made kept = traced-by (n - s.events) o s q xs ys made kept

pub traced-until_time : (o : Opening) (w most : ℕ) (s q : State) (xs ys : List EntryTold) → q ≡ (until_time o w most (afresh s)).state → ys ≡ folded listed xs (until_time o w most (afresh s)).entries
    → ◌≡◌ {A = Run} (record { state = q; entries = ys }) (until_time o w most (record { state = s; entries = xs }))
traced-until_time o w most s q xs ys made kept =
    let r = until_time o w most (afresh s) in
    traced xs ys r.entries s q (events-until_time o w most s) kept
    ∙ ap (λ (x : State). behind xs (record { state = x; entries = r.entries })) made
    ∙ sym (time-behind o w most xs (afresh s))
    ∙ ap (λ (z : Run). until_time o w most z) (behind-own xs s)

-- the events of a run don't depend on the entries before it
pub until-alike : (o : Opening) (n : ℕ) (s : State) (xs : List EntryTold) → (until o n (afresh s)).state ≡ (until o n (record { state = s; entries = xs })).state
until-alike o n s xs = sym (ap (λ (r : Run). r.state) (until-behind o n xs (afresh s))) ∙ ap (λ (z : Run). (until o n z).state) (behind-own xs s)

pub time-alike : (o : Opening) (w most : ℕ) (s : State) (xs : List EntryTold) → (until_time o w most (afresh s)).state ≡ (until_time o w most (record { state = s; entries = xs })).state
time-alike o w most s xs = sym (ap (λ (r : Run). r.state) (time-behind o w most xs (afresh s))) ∙ ap (λ (z : Run). (until_time o w most z).state) (behind-own xs s)

-- a trace stays timely
pub traced-timely : (xs ys es : List EntryTold) → AllByRecursion IsEvent es → ys ≡ folded listed xs es → All IsTimely es → All IsTimely xs → All IsTimely ys
traced-timely xs ys es a is new old = subst (λ (zs : List EntryTold). All IsTimely zs) (sym (is ∙ folded-listed xs es a)) (All-append IsTimely xs es old new)

-- a run up to a time goes on as it is
pub time-more : (o : Opening) (w most : ℕ) (s0 s q : State) → s0.events ≤ s.events → q.events ≡ s.events + 1 → s ≡ (between o s0 s).state → s.events < most → due_by o w s ≡ true
    → until_time o w most (between o s0 s) ≡ until_time o w most (afresh s0) → until_time o w most (between o s0 q) ≡ until_time o w most (afresh s0)
time-more o w most s0 s q first next made below due rest =
    let r = between o s0 s in
    let below_r = subst (λ (x : State). x.events < most) made below in
    let due_r = subst (λ (x : State). due_by o w x ≡ true) made due in
    ap (λ (z : Run). until_time o w most z) (advanced_more (s.events - s0.events) (q.events - s0.events) o (afresh s0) (omega arith))
    ∙ sym (time-step o w most r below_r due_r) ∙ rest

-- where nothing more is due it is the whole run
pub time-done : (o : Opening) (w most : ℕ) (s0 s : State) → s ≡ (between o s0 s).state → (most ≤ s.events) ⊎ (due_by o w s ≡ false)
    → until_time o w most (between o s0 s) ≡ until_time o w most (afresh s0) → between o s0 s ≡ until_time o w most (afresh s0)
time-done o w most s0 s made over rest =
    sym (time-over o w most (between o s0 s) (subst (λ (x : State). (most ≤ x.events) ⊎ (due_by o w x ≡ false)) made over)) ∙ rest

-- a part of it has at most as many events as the whole
pub time-part : (o : Opening) (w most : ℕ) (s0 s : State) → s ≡ (between o s0 s).state → until_time o w most (between o s0 s) ≡ until_time o w most (afresh s0)
    → s.events ≤ (until_time o w most (afresh s0)).state.events
time-part o w most s0 s made rest =
    let grows = time-grows o w most (between o s0 s) in
    omega (arith, grows, ap (λ (r : Run). r.state.events) rest, ap (λ (x : State). x.events) made)

-- and fewer, where one more is due
pub time-part-due : (o : Opening) (w most : ℕ) (s0 s : State) → s ≡ (between o s0 s).state → s.events < most → due_by o w s ≡ true
    → until_time o w most (between o s0 s) ≡ until_time o w most (afresh s0) → s.events + 1 ≤ (until_time o w most (afresh s0)).state.events
time-part-due o w most s0 s made below due rest =
    let r = between o s0 s in
    let below_r = subst (λ (x : State). x.events < most) made below in
    let due_r = subst (λ (x : State). due_by o w x ≡ true) made due in
    let grows = time-grows o w most (advanced o r) in
    let one = advanced-events o r (due-going o w r.state due_r) in
    let whole = ap (λ (z : Run). z.state.events) (sym (time-step o w most r below_r due_r) ∙ rest) in
    omega (arith, grows, one, whole, ap (λ (x : State). x.events) made)
