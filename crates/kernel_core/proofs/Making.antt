-- An event that is made of its parts.
use Rattle.std.proofs.Common.{◌≡◌, ◌<◌, ◌≤◌, ℕ, ℤ, pos, ◌+◌, Bool, true, false, List, [], ◌∷◌, All, Option, Some, None, IfSome, Result, Ok, IfOk, OnOk, refl, sym, ap, ◌∙◌, arith, subst, get_or, slice_index, slice_set}
use Rattle.std.proofs.lemmas.Option.{same_Some}
use Rattle.market_types.specs.declared.feed.Feed.{Feed}
use Rattle.market_types.specs.declared.message.Message.{Message}
use Rattle.market_types.specs.Timely.{IsTimely}
use Rattle.market_types.specs.Told.{EventTold, event}
use Rattle.event_queue.specs.Waiting.{least}
use Rattle.market_floor.specs.declared.opening.Opening.{Opening}
use Rattle.market_floor.specs.Floor.{FloorState}
use Rattle.market_floor.specs.Reaction.{Reaction, reaction}
use Rattle.market_floor.specs.Ruled.{applied_by, ruled}
use Rattle.kernel_core.specs.Post.{Post, put_back, taken}
use Rattle.kernel_core.specs.Seen.{first_waiting, folded}
use Rattle.kernel_core.specs.Send.{all_sent}
use Rattle.kernel_core.specs.Sound.{IsSound}
use Rattle.kernel_core.specs.State.{State}
use Rattle.kernel_core.specs.Step.{Happened, end_of, event_back, event_delivered, event_of}
use Rattle.kernel_core.specs.Until.{Run}
use Rattle.kernel_core.proofs.Fresh.{between, between-one, first-is, one-timely}
use Rattle.kernel_core.proofs.Runs.{event-busy, event-free}
use Rattle.kernel_core.proofs.Sound.{NextIsAmong, next-within, own-read}

-- what is said of an option's value, where it is known
pub at-some : {A : Type 0} (P : A → Type 0) (r : Option A) (x : A) → Some x ≡ r → IfSome r P → P x
at-some P None x is h = cc
at-some P (Some y) x is h = subst P (sym (same_Some x y is)) h

-- what is said where a result is an `Ok`, once it is one
pub on-ok : {X E A : Type 0} (r : Result X E) (x : X) → r ≡ Ok x → OnOk r A → A
on-ok {X} {E} {A} r x is h = subst (λ (q : Result X E). OnOk q A) is h

pub if-ok : {X E : Type 0} (P : X → Type 0) (r : Result X E) (x : X) → r ≡ Ok x → IfOk r P → P x
if-ok {X} {E} P r x is h = subst (λ (q : Result X E). IfOk q P) is h

-- a state with its parts replaced by those after a message was put back
pub back-made : (o : Opening) (s : State) (m : Message) (until applied : ℕ) (p : Post) (f : FloorState)
    → applied ≡ applied_by o s.applied m.time → p ≡ put_back s.post m until → f ≡ (ruled o s.applied m.time s.floor).floor
    → ◌≡◌ {A = State} (record { time = m.time; events = s.events + 1; applied = applied; post = p; own = s.own; floor = f; groups = s.groups }) (event_back o s m until).state
back-made o s m until applied p f a b c = rw (a, b, c) refl

-- what the receiver of a message does, once the dated changes up to its time are made
abbrev pub reaction_at : Opening → State → Message → Reaction
reaction_at o s m = reaction o (ruled o s.applied m.time s.floor).floor m

-- a state with its parts replaced by those after a message was delivered
pub delivered-made : (o : Opening) (s : State) (m : Message) (until applied : ℕ) (p : Post) (own : List ℕ) (f : FloorState)
    → until ≡ m.time + (reaction_at o s m).delay → applied ≡ applied_by o s.applied m.time
    → p ≡ all_sent o s.groups m.to until (taken s.post m) (reaction_at o s m).postings → own ≡ slice_set s.own m.to until → f ≡ (reaction_at o s m).floor
    → ◌≡◌ {A = State} (record { time = m.time; events = s.events + 1; applied = applied; post = p; own = own; floor = f; groups = s.groups }) (event_delivered o s m).state
delivered-made o s m until applied p own f u a b c d = rw (b, c, a, d, u) refl

-- what is told of an event in which a message is put back
pub back-entry : (o : Opening) (s : State) (m : Message) (busy : ℕ) (e : EventTold) (is_back : Bool) (until : ℕ) (fee : ℤ) (before after : List Feed)
    → e ≡ record { number = s.events + 1; time = m.time; seq = m.seq; from = m.from; to = m.to; put_back = is_back; until = until; fee = fee; body = m.body; before = before; after = after }
    → is_back ≡ true → until ≡ busy → fee ≡ pos 0 → before ≡ (ruled o s.applied m.time s.floor).feed → after ≡ [] → e ≡ (event_back o s m busy).entry
back-entry o s m busy e is_back until fee before after is a b c d f = is ∙ rw (a, b, c, d, f) refl

-- and in which it is delivered
pub delivered-entry : (o : Opening) (s : State) (m : Message) (e : EventTold) (is_back : Bool) (until : ℕ) (fee : ℤ) (before after : List Feed)
    → e ≡ record { number = s.events + 1; time = m.time; seq = m.seq; from = m.from; to = m.to; put_back = is_back; until = until; fee = fee; body = m.body; before = before; after = after }
    → is_back ≡ false → until ≡ m.time + (reaction_at o s m).delay → fee ≡ (reaction_at o s m).fee → before ≡ (ruled o s.applied m.time s.floor).feed → after ≡ (reaction_at o s m).feed
    → e ≡ (event_delivered o s m).entry
delivered-entry o s m e is_back until fee before after is a b c d f = is ∙ rw (a, b, c, d, f) refl

-- the event of the least waiting message, whose receiver is busy until later
pub back-same : NextIsAmong → (o : Opening) (k s : State) (m : Message) (i until : ℕ) → IsSound k → k ≡ s → least k.post.waiting ≡ Some m
    → i ≡ m.to → until ≡ get_or k.own i until → m.time < until → event_back o k m until ≡ event_of o s (first_waiting s)
back-same law o k s m i until sound same next at read later =
    let first : m ≡ first_waiting s = first-is k m (sym next) ∙ ap first_waiting same in
    let own : until ≡ slice_index s.own (first_waiting s).to = own-read k s i m.to until same (next-within law k m sound next) at read ∙ ap (λ (x : Message). slice_index s.own x.to) first in
    let time = ap (λ (x : Message). x.time) first in
    ap (λ (q : State). event_back o q m until) same
    ∙ ap (λ (x : Message). event_back o s x until) first
    ∙ ap (event_back o s (first_waiting s)) own
    ∙ sym (event-busy o s (first_waiting s) (omega (arith, own, time, later)))

-- and whose receiver is free
pub delivered-same : NextIsAmong → (o : Opening) (k s : State) (m : Message) (i busy : ℕ) → IsSound k → k ≡ s → least k.post.waiting ≡ Some m
    → i ≡ m.to → busy ≡ get_or k.own i busy → busy ≤ m.time → event_delivered o k m ≡ event_of o s (first_waiting s)
delivered-same law o k s m i busy sound same next at read free =
    let first : m ≡ first_waiting s = first-is k m (sym next) ∙ ap first_waiting same in
    let own : busy ≡ slice_index s.own (first_waiting s).to = own-read k s i m.to busy same (next-within law k m sound next) at read ∙ ap (λ (x : Message). slice_index s.own x.to) first in
    let time = ap (λ (x : Message). x.time) first in
    ap (λ (q : State). event_delivered o q m) same
    ∙ ap (λ (x : Message). event_delivered o s x) first
    ∙ sym (event-free o s (first_waiting s) (omega (arith, own, time, free)))

-- what a keeper took of an event, which is the same as another one
pub taken-same : {T : Type 0} (take : T → EventTold → T) (old room new : T) (e : EventTold) (x y : Happened) → new ≡ take room e → e ≡ x.entry → room ≡ old → x ≡ y → new ≡ take old y.entry
taken-same {T} take old room new e x y is told in-room same = is ∙ ap (λ (t : T). take t e) in-room ∙ ap (take old) told ∙ ap (λ (h : Happened). take old h.entry) same

-- a run of one event
abbrev pub IsOne : Opening → State → State → Type 0
IsOne o s q = between o s q ≡ record { state = q; entries = event (event_of o s (first_waiting s)).entry ∷ [] }

-- a step that made an event made a run of one
pub one-made : {X E : Type 0} (o : Opening) (s q : State) (r : Result X E) (x : X) → r ≡ Ok x → OnOk r (end_of o s ≡ None) → OnOk r (least s.post.waiting ≡ Some (first_waiting s))
    → OnOk r (q ≡ (event_of o s (first_waiting s)).state) → IsOne o s q
one-made {X} {E} o s q r x is going next state = between-one o s q (first_waiting s) (on-ok r x is going) (on-ok r x is next) (on-ok r x is state)

pub one-state : (o : Opening) (s q : State) → IsOne o s q → q ≡ (between o s q).state
one-state o s q one = sym (ap (λ (r : Run). r.state) one)

pub one-kept : {T : Type 0} (take : T → EventTold → T) (old new : T) (o : Opening) (s q : State) → IsOne o s q → new ≡ take old (event_of o s (first_waiting s)).entry
    → new ≡ folded take old (between o s q).entries
one-kept {T} take old new o s q one is = is ∙ sym (ap (λ (r : Run). folded take old r.entries) one)

pub one-told : (o : Opening) (s q : State) → IsOne o s q → IsTimely (event (event_of o s (first_waiting s)).entry) → All IsTimely (between o s q).entries
one-told o s q one timely = subst (λ (r : Run). All IsTimely r.entries) (sym one) (one-timely (event (event_of o s (first_waiting s)).entry) timely)
