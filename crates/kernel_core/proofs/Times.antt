-- Runs that stop at a time.
use Rattle.std.proofs.Common.{◌≡◌, ℕ, ◌+◌, ◌-◌, ◌<◌, ◌≤◌, ◌⊎◌, inl, inr, true, false, cond, Bool, List, Option, Some, None, is_some, refl, sym, ap, ◌∙◌, arith, suc, zero, subst}
use Rattle.std.proofs.lemmas.Bool.Decides.{nat_tests}
use Rattle.market_types.specs.declared.message.Message.{Message}
use Rattle.market_types.specs.declared.entry.End.{End}
use Rattle.market_types.specs.Told.{EntryTold}
use Rattle.event_queue.specs.Waiting.{least}
use Rattle.market_floor.specs.declared.opening.Opening.{Opening}
use Rattle.kernel_core.specs.State.{State}
use Rattle.kernel_core.specs.Step.{end_of}
use Rattle.kernel_core.specs.Until.{Run, advanced, advanced_by, until, behind}
use Rattle.kernel_core.specs.Due.{is_due, due_by, advanced_due, until_time}
use Rattle.kernel_core.proofs.Runs.{advanced_by-grows, advanced_by_ended}
use Rattle.kernel_core.proofs.Stops.{again, advanced-events, advanced-behind, end_cases, going-events, until-past, until-until}

bool_cases : (b : Bool) → (b ≡ true) ⊎ (b ≡ false)
bool_cases true = inl refl
bool_cases false = inr refl

going_by : (e : Option End) (b : Bool) → cond (is_some e) false b ≡ true → (e ≡ None) × (b ≡ true)
going_by None b h = (refl, h)
going_by (Some e) b h = cc

-- a state with a due message isn't ended
pub due-going : (o : Opening) (w : ℕ) (s : State) → due_by o w s ≡ true → end_of o s ≡ None
due-going o w s h = (going_by (end_of o s) (is_due w (least s.post.waiting)) h).0

later_by : (w v : ℕ) (l : Option Message) → w ≤ v → is_due w l ≡ true → is_due v l ≡ true
later_by w v None le h = cc
later_by w v (Some m) le h = grind (arith, nat_tests)

-- what is due by a time is due by a later one
pub due-later : (o : Opening) (w v : ℕ) (s : State) → w ≤ v → due_by o w s ≡ true → due_by o v s ≡ true
due-later o w v s le h =
    let p = going_by (end_of o s) (is_due w (least s.post.waiting)) h in
    rw p.0 (later_by w v (least s.post.waiting) le p.1)

-- a run up to a time is a run of so many events
pub time-some : (n : ℕ) (o : Opening) (w : ℕ) (r : Run) → (k : ℕ) × (advanced_due n o w r ≡ advanced_by k o r)
time-some zero o w r = (0, refl)
time-some (suc n) o w r = elim (bool_cases (due_by o w r.state)) [
  | inl due ↦ let p = time-some n o w (advanced o r) in (suc p.0, rw due p.1)
  | inr over ↦ (0, rw over refl)
]

-- A run that goes on from a time to an event number that it hasn't passed is as if it hadn't stopped.
pub time-again : (o : Opening) (w most m : ℕ) (r : Run) → (until_time o w most r).state.events ≤ m → until o m (until_time o w most r) ≡ until o m r
time-again o w most m r h =
    let p = time-some (most - r.state.events) o w r in
    ap (λ (q : Run). until o m q) p.1 ∙ again o p.0 m r (subst (λ (q : Run). q.state.events ≤ m) p.1 h)

pub due_first : (n : ℕ) (o : Opening) (w : ℕ) (r : Run) → due_by o w r.state ≡ true → advanced_due (suc n) o w r ≡ advanced_due n o w (advanced o r)
due_first n o w r due = rw due refl

-- events never fall
pub time-grows : (o : Opening) (w most : ℕ) (r : Run) → r.state.events ≤ (until_time o w most r).state.events
time-grows o w most r =
    let p = time-some (most - r.state.events) o w r in
    subst (λ (q : Run). r.state.events ≤ q.state.events) (sym p.1) (advanced_by-grows p.0 o r)

-- one event of a run up to a time
pub time-step : (o : Opening) (w most : ℕ) (r : Run) → r.state.events < most → due_by o w r.state ≡ true → until_time o w most r ≡ until_time o w most (advanced o r)
time-step o w most r l due =
    let more = advanced-events o r (due-going o w r.state due) in
    let n = most - (advanced o r).state.events in
    let size : most - r.state.events ≡ suc n = omega arith in
    ap (λ (k : ℕ). advanced_due k o w r) size ∙ rw due refl

pub over_by : (n : ℕ) (o : Opening) (w : ℕ) (r : Run) → due_by o w r.state ≡ false → advanced_due n o w r ≡ r
over_by zero o w r h = refl
over_by (suc n) o w r h = rw h refl

-- where nothing more is due, or so many events stand, a run stays
pub time-over : (o : Opening) (w most : ℕ) (r : Run) → (most ≤ r.state.events) ⊎ (due_by o w r.state ≡ false) → until_time o w most r ≡ r
time-over o w most r (inl full) = let none : most - r.state.events ≡ 0 = omega arith in ap (λ (k : ℕ). advanced_due k o w r) none
time-over o w most r (inr over) = over_by (most - r.state.events) o w r over

time-on_by : (n : ℕ) (o : Opening) (w v most more : ℕ) (r : Run) → n ≡ most - r.state.events → w ≤ v → most ≤ more → until_time o v more (advanced_due n o w r) ≡ until_time o v more r
time-on_by zero o w v most more r e le most_le = refl
time-on_by (suc n) o w v most more r e le most_le = elim (bool_cases (due_by o w r.state)) [
  | inl due ↦
      let one = advanced-events o r (due-going o w r.state due) in
      rw due (time-on_by n o w v most more (advanced o r) (omega arith) le most_le ∙ sym (time-step o v more r (omega arith) (due-later o w v r.state le due)))
  | inr over ↦ rw over refl
]

-- A run that goes on to a time that isn't earlier and to at least as many events is as if it hadn't stopped.
pub time-on : (o : Opening) (w v most more : ℕ) (r : Run) → w ≤ v → most ≤ more → until_time o v more (until_time o w most r) ≡ until_time o v more r
time-on o w v most more r le most_le = time-on_by (most - r.state.events) o w v most more r refl le most_le

-- so it is of a run that goes on to a later time
pub time-time : (o : Opening) (w v most : ℕ) (r : Run) → w ≤ v → until_time o v most (until_time o w most r) ≡ until_time o v most r
time-time o w v most r le = time-on o w v most most r le (omega arith)

number_by : (n m : ℕ) (o : Opening) (w : ℕ) (r : Run) → r.state.events + n ≤ (advanced_due m o w r).state.events → advanced_due n o w r ≡ advanced_by n o r
number_by zero m o w r h = refl
number_by (suc n) zero o w r h = absurd (omega arith)
number_by (suc n) (suc m) o w r h = elim (bool_cases (due_by o w r.state)) [
  | inl due ↦
      let one = advanced-events o r (due-going o w r.state due) in
      let there : r.state.events + suc n ≤ (advanced_due m o w (advanced o r)).state.events = subst (λ (q : Run). r.state.events + suc n ≤ q.state.events) (due_first m o w r due) h in
      rw due (number_by n m o w (advanced o r) (omega arith))
  | inr over ↦ let same = ap (λ (q : Run). q.state.events) (over_by (suc m) o w r over) in absurd (omega arith)
]

-- A run up to a time that has at least so many events made those as a run to their number makes them.
pub time-number : (o : Opening) (w most g : ℕ) (r : Run) → g ≤ (until_time o w most r).state.events → until_time o w g r ≡ until o g r
time-number o w most g r h =
    number_by (g - r.state.events) (most - r.state.events) o w r (omega (arith, time-grows o w most r))

reaches_by : (n m : ℕ) (o : Opening) (w : ℕ) (r : Run) → r.state.events + n ≤ (advanced_due m o w r).state.events → (advanced_due n o w r).state.events ≡ r.state.events + n
reaches_by zero m o w r h = omega arith
reaches_by (suc n) zero o w r h = absurd (omega arith)
reaches_by (suc n) (suc m) o w r h = elim (bool_cases (due_by o w r.state)) [
  | inl due ↦
      let one = advanced-events o r (due-going o w r.state due) in
      let there : r.state.events + suc n ≤ (advanced_due m o w (advanced o r)).state.events = subst (λ (q : Run). r.state.events + suc n ≤ q.state.events) (due_first m o w r due) h in
      rw due (omega (arith, reaches_by n m o w (advanced o r) (omega arith)))
  | inr over ↦ let same = ap (λ (q : Run). q.state.events) (over_by (suc m) o w r over) in absurd (omega arith)
]

-- and so it stands at that number
pub time-at : (o : Opening) (w most g : ℕ) (r : Run) → r.state.events ≤ g → g ≤ (until_time o w most r).state.events → (until_time o w g r).state.events ≡ g
time-at o w most g r l h =
    omega (arith, reaches_by (g - r.state.events) (most - r.state.events) o w r (omega arith))

short_by : (n m : ℕ) (o : Opening) (w : ℕ) (r : Run) → n ≤ m → (advanced_due n o w r).state.events < r.state.events + n → advanced_due m o w r ≡ advanced_due n o w r
short_by zero m o w r l h = absurd (omega arith)
short_by (suc n) zero o w r l h = absurd (omega arith)
short_by (suc n) (suc m) o w r l h = elim (bool_cases (due_by o w r.state)) [
  | inl due ↦
      let one = advanced-events o r (due-going o w r.state due) in
      let there : (advanced_due n o w (advanced o r)).state.events < r.state.events + suc n = subst (λ (q : Run). q.state.events < r.state.events + suc n) (due_first n o w r due) h in
      rw due (short_by n m o w (advanced o r) (omega arith) (omega arith))
  | inr over ↦ rw over refl
]

-- A run up to a time and a number that stops before the number goes no further with a higher one.
pub time-short : (o : Opening) (w g more : ℕ) (r : Run) → g ≤ more → (until_time o w g r).state.events < g → until_time o w more r ≡ until_time o w g r
time-short o w g more r l h =
    short_by (g - r.state.events) (more - r.state.events) o w r (omega arith) (omega (arith, time-grows o w g r))

-- and they stay within the most
time-within_by : (n : ℕ) (o : Opening) (w : ℕ) (r : Run) → (advanced_due n o w r).state.events ≤ r.state.events + n
time-within_by zero o w r = omega arith
time-within_by (suc n) o w r = elim (bool_cases (due_by o w r.state)) [
  | inl due ↦ rw due (omega (arith, time-within_by n o w (advanced o r), advanced-events o r (due-going o w r.state due)))
  | inr over ↦ rw over (omega arith)
]

pub time-within : (o : Opening) (w most : ℕ) (r : Run) → r.state.events ≤ most → (until_time o w most r).state.events ≤ most
time-within o w most r h = omega (arith, time-within_by (most - r.state.events) o w r)

time-behind_by : (n : ℕ) (o : Opening) (w : ℕ) (xs : List EntryTold) (r : Run) → advanced_due n o w (behind xs r) ≡ behind xs (advanced_due n o w r)
time-behind_by zero o w xs r = refl
time-behind_by (suc n) o w xs r = elim (bool_cases (due_by o w r.state)) [
  | inl due ↦ rw due (ap (λ (q : Run). advanced_due n o w q) (advanced-behind o xs r) ∙ time-behind_by n o w xs (advanced o r))
  | inr over ↦ rw over refl
]

-- a run leaves the entries before it in front
pub time-behind : (o : Opening) (w most : ℕ) (xs : List EntryTold) (r : Run) → until_time o w most (behind xs r) ≡ behind xs (until_time o w most r)
time-behind o w most xs r = time-behind_by (most - r.state.events) o w xs r

-- A run to a number that stopped before it is ended: it goes no further up to any number below.
pub until-stays : (o : Opening) (n e : ℕ) (r : Run) → e ≤ n → until o e (until o n r) ≡ until o n r
until-stays o n e r h =
    let t = until o n r in
    elim (end_cases (end_of o t.state)) [
      | inl going ↦ until-past o e t (omega (arith, going-events (n - r.state.events) o r going))
      | inr over ↦ advanced_by_ended (e - t.state.events) o t over.0 over.1
    ]

-- so does one to any higher number
pub until-short : (o : Opening) (n m : ℕ) (r : Run) → n ≤ m → (until o n r).state.events < n → until o m r ≡ until o n r
until-short o n m r h low =
    let t = until o n r in
    elim (end_cases (end_of o t.state)) [
      | inl going ↦ absurd (omega (arith, going-events (n - r.state.events) o r going))
      | inr over ↦ sym (until-until o n m r h) ∙ advanced_by_ended (m - t.state.events) o t over.0 over.1
    ]
