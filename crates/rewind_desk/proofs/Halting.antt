-- Runs to a stop and to an event number.
use Rattle.std.proofs.Common.{◌≡◌, ℕ, ◌<◌, ◌≤◌, ◌-◌, min, inl, inr, false, Some, None, refl, sym, ap, ◌∙◌, arith, subst}
use Rattle.std.specs.Prelude.{max, nat_lt}
use Rattle.std.proofs.lemmas.Bool.{cases_lt, lt-ltb, le-ltb, ltb-false}
use Rattle.market_types.specs.declared.entry.End.{End}
use Rattle.branch_tree.specs.declared.stop.Stop.{Stop}
use Rattle.branch_tree.specs.declared.stop.Stop.TheVariants.{At, When}
use Rattle.market_floor.specs.declared.opening.Opening.{Opening}
use Rattle.shelf_core.proofs.Lists.{bool_cases}
use Rattle.kernel_core.specs.State.{State}
use Rattle.kernel_core.specs.Step.{end_of}
use Rattle.kernel_core.specs.Until.{Run, advanced, until}
use Rattle.kernel_core.specs.Due.{due_by, until_time}
use Rattle.kernel_core.proofs.Runs.{advanced_by_ended, going_below}
use Rattle.kernel_core.proofs.Stops.{advanced-events, end_cases, going-events, until-again, until-grows, until-past, until-until, until-within}
use Rattle.kernel_core.proofs.Times.{due-going, time-at, time-grows, time-number, time-on, time-over, time-short, time-step, time-within, until-short, until-stays}
use Rattle.kernel_copy.specs.UntilStop.{until_stop, until_part}
use Rattle.kernel_copy.specs.Segmentwise.{afresh}
use Rattle.kernel_copy.proofs.Halts.{stop-behind, stop-own}
use Rattle.kernel_copy.proofs.Pieces.{fresh}
use Rattle.rewind_desk.specs.Reach.{has_more}

-- the state that a run to a stop leads to needs no entries
pub stop-afresh : (o : Opening) (s : Stop) (r : Run) → (until_stop o s (afresh r.state)).state ≡ (until_stop o s r).state
stop-afresh o s r = ap (λ (q : Run). q.state) (sym (ap (λ (q : Run). until_stop o s q) (fresh r) ∙ stop-behind o s r.entries (afresh r.state)))

-- a run has no more events than it had before and than its number says
until-most : (o : Opening) (n : ℕ) (r : Run) → (until o n r).state.events ≤ max n r.state.events
until-most o n r = elim (cases_lt n r.state.events) [
  | inl past ↦ omega (arith, past, ap (λ (q : Run). q.state.events) (until-past o n r (omega (arith, past))))
  | inr ahead ↦ omega (arith, ahead, until-within o n r ahead)
]

-- A run to an event number that a run to a stop has reached stands there.
pub stop-at : (o : Opening) (s : Stop) (e : ℕ) (r : Run) → r.state.events ≤ e → e ≤ (until_stop o s r).state.events → (until o e r).state.events ≡ e
stop-at o (At n) e r low high = elim (cases_lt (until o e r).state.events e) [
  | inr full ↦ omega (arith, full, until-within o e r low)
  | inl less ↦ elim (cases_lt n e) [
    | inr after ↦ absurd (omega (arith, less, high, ap (λ (q : Run). q.state.events) (until-short o e n r after less)))
    | inl before ↦ absurd (omega (arith, less, high, before, until-grows o e r, until-most o n r))
  ]
]
stop-at o (When w) e r low high = ap (λ (q : Run). q.state.events) (sym (time-number o w o.limit e r high)) ∙ time-at o w o.limit e r low high

-- and goes on from there to the stop as if it hadn't stopped
pub stop-on : (o : Opening) (s : Stop) (n : ℕ) (r : Run) → n ≤ o.limit → r.state.events ≤ n → n ≤ (until_stop o s r).state.events → until_stop o s (until o n r) ≡ until_stop o s r
stop-on o (At m) n r few low high = elim (cases_lt m n) [
  | inr after ↦ until-until o n m r after
  | inl before ↦ ap (λ (q : Run). until o m q) (until-past o n r (omega (arith, low, high, before, until-most o m r)))
]
stop-on o (When w) n r few low high =
    ap (λ (q : Run). until_time o w o.limit q) (sym (time-number o w o.limit n r high)) ∙ time-on o w w n o.limit r (omega arith) few

-- an ended run goes on to no stop
pub stop-ended : (o : Opening) (s : Stop) (r : Run) (x : End) → end_of o r.state ≡ Some x → until_stop o s r ≡ r
stop-ended o (At n) r x over = advanced_by_ended (n - r.state.events) o r x over
stop-ended o (When w) r x over = time-over o w o.limit r (inr (rw over refl))

-- a state that has no more event before a stop is at the stop
stop-over : (o : Opening) (s : Stop) (r : Run) → has_more o s r.state ≡ false → until_stop o s r ≡ r
stop-over o (At n) r h = elim (end_cases (end_of o r.state)) [
  | inr over ↦ stop-ended o (At n) r over.0 over.1
  | inl going ↦
      let none : nat_lt r.state.events n ≡ false = rw going at h in
      until-past o n r (ltb-false r.state.events n none)
]
stop-over o (When w) r h = time-over o w o.limit r (inr h)

number-done : (o : Opening) (n : ℕ) (s : State) → (end_of o s ≡ None → n ≤ s.events) → has_more o (At n) s ≡ false
number-done o n s h = elim (end_cases (end_of o s)) [
  | inr over ↦ rw over.1 refl
  | inl going ↦ rw going (le-ltb s.events n (h going))
]

-- and where a run stopped there is no more
stop-done : (o : Opening) (s : Stop) (r : Run) → r.state.events ≤ o.limit → has_more o s (until_stop o s r).state ≡ false
stop-done o (At n) r few = number-done o n (until o n r).state (λ going. omega (arith, going-events (n - r.state.events) o r going))
stop-done o (When w) r few = elim (bool_cases (due_by o w (until_time o w o.limit r).state)) [
  | inr none ↦ none
  | inl due ↦
      let y : Run = until_time o w o.limit r in
      let going = due-going o w y.state due in
      let below : y.state.events < o.limit = omega (arith, time-within o w o.limit r few, going_below o y.state going) in
      let again = time-on o w w o.limit o.limit r (omega arith) (omega arith) in
      let step = time-step o w o.limit y below due in
      absurd (omega (arith, advanced-events o y going, time-grows o w o.limit (advanced o y), ap (λ (q : Run). q.state.events) (sym again ∙ step)))
]

-- a run to a stop and to no more than so many events has no more
pub part-within : (o : Opening) (s : Stop) (e : ℕ) (r : Run) → r.state.events ≤ e → (until_part o s e r).state.events ≤ e
part-within o (At n) e r low = omega (arith, low, until-most o (min n e) r)
part-within o (When w) e r low = time-within o w e r low

-- a run to a stop and to an event number past it is one to the stop
pub part-whole : (o : Opening) (s : Stop) (e : ℕ) (r : Run) → e ≤ o.limit → r.state.events ≤ e → (until_stop o s r).state.events ≤ e → until_part o s e r ≡ until_stop o s r
part-whole o (At n) e r few low high = elim (cases_lt e n) [
  | inr after ↦ let same : min n e ≡ n = omega (arith, after) in ap (λ (m : ℕ). until o m r) same
  | inl before ↦
      let same : min n e ≡ e = omega (arith, before) in
      ap (λ (m : ℕ). until o m r) same ∙ sym (until-again o n e r high) ∙ until-stays o n e r (omega (arith, before))
]
part-whole o (When w) e r few low high = elim (cases_lt (until_time o w e r).state.events e) [
  | inl less ↦ sym (time-short o w e o.limit r few less)
  | inr full ↦
      let y : Run = until_time o w e r in
      let on = time-on o w w e o.limit r (omega arith) few in
      let all : e ≡ (until_time o w o.limit r).state.events = omega (arith, high, full, time-grows o w o.limit y, ap (λ (q : Run). q.state.events) on) in
      time-number o w o.limit e r (omega (arith, all)) ∙ ap (λ (m : ℕ). until o m r) all ∙ stop-own o (When w) r
]

-- and one to the number before it
pub part-before : (o : Opening) (s : Stop) (e : ℕ) (r : Run) → r.state.events ≤ e → e < (until_stop o s r).state.events → until_part o s e r ≡ until o e r
part-before o (At n) e r low high =
    let same : min n e ≡ e = omega (arith, low, high, until-most o n r) in
    ap (λ (m : ℕ). until o m r) same
part-before o (When w) e r low high = time-number o w o.limit e r (omega (arith, high))

-- it has more events before the stop exactly where the run to the stop has
pub part-more : (o : Opening) (s : Stop) (e : ℕ) (r : Run) → e ≤ o.limit → r.state.events ≤ e → has_more o s (until_part o s e r).state ≡ nat_lt e (until_stop o s r).state.events
part-more o s e r few low = elim (cases_lt e (until_stop o s r).state.events) [
  | inl before ↦ elim (bool_cases (has_more o s (until_part o s e r).state)) [
    | inl more ↦ more ∙ sym (lt-ltb e (until_stop o s r).state.events before)
    | inr none ↦
        let here : has_more o s (until o e r).state ≡ false = subst (λ (q : Run). has_more o s q.state ≡ false) (part-before o s e r low before) none in
        let over = stop-over o s (until o e r) here in
        let on = stop-on o s e r few low (omega (arith, before)) in
        let at = stop-at o s e r low (omega (arith, before)) in
        absurd (omega (arith, before, at, ap (λ (q : Run). q.state.events) (sym over ∙ on)))
  ]
  | inr whole ↦
      ap (λ (q : Run). has_more o s q.state) (part-whole o s e r few low whole) ∙ stop-done o s r (omega (arith, few, low))
      ∙ sym (le-ltb e (until_stop o s r).state.events whole)
]
