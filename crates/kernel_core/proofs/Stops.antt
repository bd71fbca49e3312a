-- Runs that stop and go on.
use Rattle.std.proofs.Common.{◌≡◌, ℕ, ◌+◌, ◌-◌, ◌≤◌, ◌⊎◌, inl, inr, true, false, cond, Bool, List, [], ◌∷◌, Option, Some, None, refl, sym, ap, ◌∙◌, arith, suc, zero, subst, append_assoc}
use Rattle.std.proofs.lemmas.Bool.{cases_lt}
use Rattle.market_types.specs.declared.message.Message.{Message}
use Rattle.market_types.specs.Told.{EntryTold, event}
use Rattle.market_types.specs.declared.entry.End.{End}
use Rattle.market_types.specs.declared.entry.End.TheVariants.{QueueFull, EventLimit}
use Rattle.event_queue.specs.Waiting.{least}
use Rattle.market_floor.specs.declared.opening.Opening.{Opening}
use Rattle.kernel_core.specs.State.{State}
use Rattle.kernel_core.specs.Step.{Happened, end_of, end_of_waiting, step_of}
use Rattle.kernel_core.specs.Until.{Run, with_event, advanced, advanced_by, until, behind}
use Rattle.kernel_core.proofs.Runs.{event-events, advanced_going, advanced_by_ended, advanced_by-add, advanced_by-grows}

next_by : (a b : Bool) (o : Opening) (l : Option Message) → cond a (Some QueueFull) (cond b (Some EventLimit) (end_of_waiting o l)) ≡ None → (m : Message) × (l ≡ Some m)
next_by true b o l h = cc
next_by false true o l h = cc
next_by false false o None h = cc
next_by false false o (Some m) h = (m, refl)

-- a state that isn't ended has a next message
pub next-message : (o : Opening) (s : State) → end_of o s ≡ None → (m : Message) × (least s.post.waiting ≡ Some m)
next-message o s h = next_by _ _ o (least s.post.waiting) h

pub end_cases : (x : Option End) → (x ≡ None) ⊎ ((e : End) × (x ≡ Some e))
end_cases None = inl refl
end_cases (Some e) = inr (e, refl)

-- a run that isn't ended gets one event more
pub advanced-events : (o : Opening) (r : Run) → end_of o r.state ≡ None → (advanced o r).state.events ≡ r.state.events + 1
advanced-events o r h =
    let m = next-message o r.state h in
    ap (λ (q : Run). q.state.events) (advanced_going o r m.0 h m.1) ∙ event-events o r.state m.0

-- a run that isn't ended made all its events
pub going-events : (n : ℕ) (o : Opening) (r : Run) → end_of o (advanced_by n o r).state ≡ None → (advanced_by n o r).state.events ≡ r.state.events + n
going-events zero o r h = omega arith
going-events (suc n) o r h = elim (end_cases (end_of o r.state)) [
  | inl going ↦ omega (arith, going-events n o (advanced o r) h, advanced-events o r going)
  | inr over ↦
      let stays = advanced_by_ended (suc n) o r over.0 over.1 in
      let none : end_of o r.state ≡ None = subst (λ (q : Run). end_of o q.state ≡ None) stays h in
      cc (none, over.1)
]

-- a run has at most so many events more
pub most-events : (n : ℕ) (o : Opening) (r : Run) → (advanced_by n o r).state.events ≤ r.state.events + n
most-events zero o r = omega arith
most-events (suc n) o r = elim (end_cases (end_of o r.state)) [
  | inl going ↦ omega (arith, most-events n o (advanced o r), advanced-events o r going)
  | inr over ↦ omega (arith, ap (λ (q : Run). q.state.events) (advanced_by_ended (suc n) o r over.0 over.1))
]

-- events never fall
pub until-grows : (o : Opening) (n : ℕ) (r : Run) → r.state.events ≤ (until o n r).state.events
until-grows o n r = advanced_by-grows (n - r.state.events) o r

-- a run that stands at a stop at most goes no further than the stop
pub until-within : (o : Opening) (n : ℕ) (r : Run) → r.state.events ≤ n → (until o n r).state.events ≤ n
until-within o n r h = omega (arith, most-events (n - r.state.events) o r)

-- a run that stands past a stop stays
pub until-past : (o : Opening) (n : ℕ) (r : Run) → n ≤ r.state.events → until o n r ≡ r
until-past o n r h = let none : n - r.state.events ≡ 0 = omega arith in ap (λ (k : ℕ). advanced_by k o r) none

ended_again : (o : Opening) (r : Run) (k m : ℕ) (e : End) → end_of o (advanced_by k o r).state ≡ Some e → (advanced_by k o r).state.events ≤ r.state.events + m → advanced_by m o r ≡ advanced_by k o r
ended_again o r k m e over h = elim (cases_lt m k) [
  | inr more ↦ advanced_by-add k (m - k) m o r (omega arith) ∙ advanced_by_ended (m - k) o (advanced_by k o r) e over
  | inl less ↦
      let z = advanced_by m o r in
      let rest : advanced_by k o r ≡ advanced_by (k - m) o z = advanced_by-add m (k - m) k o r (omega arith) in
      elim (end_cases (end_of o z.state)) [
        | inr early ↦ sym (rest ∙ advanced_by_ended (k - m) o z early.0 early.1)
        | inl going ↦
            let first : advanced_by (k - m) o z ≡ advanced_by (k - m - 1) o (advanced o z) = advanced_by-add 1 (k - m - 1) (k - m) o z (omega arith) in
            let z_events = going-events m o r going in
            let one = advanced-events o z going in
            let grows = advanced_by-grows (k - m - 1) o (advanced o z) in
            let same = ap (λ (q : Run). q.state.events) (rest ∙ first) in
            absurd (omega arith)
      ]
]

-- A run that goes on to an event number that it hasn't passed is as if it hadn't stopped.
pub again : (o : Opening) (k m : ℕ) (r : Run) → (advanced_by k o r).state.events ≤ m → until o m (advanced_by k o r) ≡ until o m r
again o k m r h =
    let y = advanced_by k o r in
    let grows = advanced_by-grows k o r in
    elim (end_cases (end_of o y.state)) [
      | inl going ↦
          let made = going-events k o r going in
          sym (advanced_by-add k (m - y.state.events) (m - r.state.events) o r (omega arith))
      | inr over ↦ advanced_by_ended (m - y.state.events) o y over.0 over.1 ∙ sym (ended_again o r k (m - r.state.events) over.0 over.1 (omega arith))
    ]

-- so it is of a run that stopped at an event number
pub until-again : (o : Opening) (n m : ℕ) (r : Run) → (until o n r).state.events ≤ m → until o m (until o n r) ≡ until o m r
until-again o n m r h = again o (n - r.state.events) m r h

-- so it is where the second stop isn't before the first
pub until-until : (o : Opening) (n m : ℕ) (r : Run) → n ≤ m → until o m (until o n r) ≡ until o m r
until-until o n m r h = elim (cases_lt n r.state.events) [
  | inl past ↦ ap (λ (q : Run). until o m q) (until-past o n r (omega arith))
  | inr ahead ↦ until-again o n m r (omega (arith, until-within o n r ahead))
]

with_event-behind : (xs : List EntryTold) (r : Run) (h : Option Happened) → with_event (behind xs r) h ≡ behind xs (with_event r h)
with_event-behind xs r None = refl
with_event-behind xs r (Some h) =
    ap (λ (es : List EntryTold). let q : Run = record { state = h.state; entries = es } in q) (append_assoc xs r.entries (event h.entry ∷ []))

pub advanced-behind : (o : Opening) (xs : List EntryTold) (r : Run) → advanced o (behind xs r) ≡ behind xs (advanced o r)
unfolding advanced
advanced-behind o xs r = with_event-behind xs r (step_of o r.state)

pub advanced_by-behind : (n : ℕ) (o : Opening) (xs : List EntryTold) (r : Run) → advanced_by n o (behind xs r) ≡ behind xs (advanced_by n o r)
advanced_by-behind zero o xs r = refl
advanced_by-behind (suc n) o xs r =
    ap (λ (q : Run). advanced_by n o q) (advanced-behind o xs r) ∙ advanced_by-behind n o xs (advanced o r)

-- a run leaves the entries before it in front
pub until-behind : (o : Opening) (n : ℕ) (xs : List EntryTold) (r : Run) → until o n (behind xs r) ≡ behind xs (until o n r)
until-behind o n xs r = advanced_by-behind (n - r.state.events) o xs r
