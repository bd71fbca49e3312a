-- Traces begin with what was made before.
use Rattle.std.proofs.Common.{◌≡◌, ◌<◌, ◌≤◌, ◌+◌, ◌-◌, ℕ, List, [], ◌∷◌, ◌++◌, refl, sym, ap, ◌∙◌, subst, arith, append_assoc, append-nil, length, min, suc, zero, inl, inr}
use Rattle.std.proofs.lemmas.Bool.{cases_lt}
use Rattle.market_types.specs.Told.{EntryTold, event, edit as edited_entry}
use Rattle.market_rules.specs.declared.edit.Edit.{Edit}
use Rattle.branch_tree.specs.declared.branch.Branch.{Branch}
use Rattle.branch_tree.specs.declared.stop.Stop.TheVariants.{At}
use Rattle.branch_tree.specs.Plan.{parent_at, stop_at}
use Rattle.market_floor.specs.declared.opening.Opening.{Opening}
use Rattle.kernel_core.specs.State.{State}
use Rattle.kernel_core.specs.Edited.{edited, edited_from, edited_one, mark_of}
use Rattle.kernel_core.specs.Until.{Run, advanced, advanced_by, behind, until}
use Rattle.kernel_core.proofs.EditRuns.{edited-behind}
use Rattle.kernel_core.proofs.Runs.{advanced_by-add, advanced_ended, advanced_going}
use Rattle.kernel_core.proofs.Stops.{advanced-events, end_cases, next-message, until-behind, until-past, until-within}
use Rattle.kernel_core.specs.Step.{end_of, event_of}
use Rattle.kernel_copy.specs.Segmentwise.{afresh}
use Rattle.kernel_copy.proofs.Pieces.{fresh}
use Rattle.session_desk.specs.Along.{BeginWith, event_count, onward}
use Rattle.session_desk.specs.Session.{SessionTold, IsSession, full_in}
use Rattle.session_desk.proofs.Along.{onward-behind, record-onward}

pub begin-all : (xs : List EntryTold) → BeginWith xs xs
begin-all xs = ([], append-nil xs)

pub begin-is : (xs ys : List EntryTold) → xs ≡ ys → BeginWith ys xs
begin-is xs ys e = ([], append-nil xs ∙ e)

pub begin-on : (xs ys zs : List EntryTold) → BeginWith ys xs → BeginWith zs ys → BeginWith zs xs
begin-on xs ys zs p q = (p.0 ++ q.0, sym (append_assoc xs p.0 q.0) ∙ ap (λ (l : List EntryTold). l ++ q.0) p.1 ∙ q.1)

pub begin-front : (pre xs ys : List EntryTold) → BeginWith ys xs → BeginWith (pre ++ ys) (pre ++ xs)
begin-front pre xs ys p = (p.0, append_assoc pre xs p.0 ∙ ap (λ (l : List EntryTold). pre ++ l) p.1)

pub begin-none : (pre ys : List EntryTold) → BeginWith (pre ++ ys) pre
begin-none pre ys = (ys, refl)

-- what makes a run go on leaves its entries in front
begin-by : (f : Run → Run) (r : Run) → ((xs : List EntryTold) (q : Run) → f (behind xs q) ≡ behind xs (f q)) → BeginWith (f r).entries r.entries
begin-by f r h = ((f (afresh r.state)).entries, sym (ap (λ (q : Run). q.entries) (ap f (fresh r) ∙ h r.entries (afresh r.state))))

pub until-begins : (o : Opening) (n : ℕ) (r : Run) → BeginWith (until o n r).entries r.entries
until-begins o n r = begin-by (λ (q : Run). until o n q) r (λ xs q. until-behind o n xs q)

pub edited-begins : (b : ℕ) (es : List Edit) (r : Run) → BeginWith (edited b es r).entries r.entries
edited-begins b es r = begin-by (λ (q : Run). edited b es q) r (λ xs q. edited-behind b es xs q)

pub onward-begins : (o : Opening) (bs : List Branch) (b e : ℕ) (r : Run) → BeginWith (onward o bs b e r).entries r.entries
onward-begins o bs b e r = begin-by (λ (q : Run). onward o bs b e q) r (λ xs q. onward-behind o bs b e xs q)

-- some events of a run to a number
advanced-begins : (n : ℕ) (o : Opening) (r : Run) → BeginWith (advanced_by n o r).entries r.entries
advanced-begins n o r =
    let same : until o (r.state.events + n) r ≡ advanced_by n o r = let k : r.state.events + n - r.state.events ≡ n = omega arith in ap (λ (m : ℕ). advanced_by m o r) k in
    subst (λ (q : Run). BeginWith q.entries r.entries) same (until-begins o (r.state.events + n) r)

-- As much of a run as was made is what the whole begins with.
pub made-begins : (o : Opening) (n : ℕ) (r : Run) (s : State) (es : List EntryTold) → record { state = s; entries = es } ≡ advanced_by (s.events - r.state.events) o r → s.events ≤ (until o n r).state.events
    → BeginWith (until o n r).entries es
made-begins o n r s es made within =
    let k = s.events - r.state.events in
    let here : advanced_by k o r ≡ record { state = s; entries = es } = sym made in
    elim (cases_lt n r.state.events) [
      | inl past ↦
          let stays = until-past o n r (omega (arith, past)) in
          let none : k ≡ 0 = omega (arith, within, ap (λ (q : Run). q.state.events) stays) in
          begin-is es (until o n r).entries (ap (λ (q : Run). q.entries) (made ∙ ap (λ (m : ℕ). advanced_by m o r) none ∙ sym stays))
      | inr ahead ↦
          let most = until-within o n r ahead in
          let rest = n - r.state.events - k in
          let whole : until o n r ≡ advanced_by rest o (record { state = s; entries = es }) = advanced_by-add k rest (n - r.state.events) o r (omega (arith, within, most)) ∙ ap (λ (q : Run). advanced_by rest o q) here in
          subst (λ (q : Run). BeginWith q.entries es) (sym whole) (advanced-begins rest o (record { state = s; entries = es }))
    ]

one-begins : (b i : ℕ) (e : Edit) (r : Run) → BeginWith (edited_one b i e r).entries r.entries
unfolding edited_one
one-begins b i e r = (edited_entry (mark_of b i e r.state) ∷ [], refl)

-- so it is of the rest of a list of edits
pub rest-begins : (b i : ℕ) (es : List Edit) (r : Run) → BeginWith (edited_from b i es r).entries r.entries
rest-begins b i [] r = begin-all r.entries
rest-begins b i (e ∷ es) r =
    let next = edited_one b i e r in
    begin-on r.entries next.entries (edited_from b (i + 1) es next).entries (one-begins b i e r) (rest-begins b (i + 1) es next)

pub edits-begin : (b i : ℕ) (es : List Edit) (r q : Run) → edited_from b i es r ≡ q → BeginWith q.entries r.entries
edits-begin b i es r q e = subst (λ (x : Run). BeginWith x.entries r.entries) e (rest-begins b i es r)

-- A branch's full run begins with its parent's up to the branch's stop.
pub entries-onward : (s : SessionTold) (b e n q m : ℕ) → IsSession s → 0 < b → b < length s.branches → stop_at s.branches b ≡ At n → e ≤ s.course.opening.limit → q ≡ parent_at s.branches b → m ≡ min e n
    → BeginWith (full_in s b e).entries (full_in s q m).entries
entries-onward s b e n q m h pos l is few parent before =
    let r = full_in s q m in
    let whole = record-onward s b e n q m [] r h pos l is few parent before refl in
    subst (λ (x : Run). BeginWith x.entries r.entries) whole (onward-begins s.course.opening s.branches b e r)

-- How many events joined: as many as a run made.
count-push : (xs ys : List EntryTold) → event_count (xs ++ ys) ≡ event_count xs + event_count ys
count-push [] ys = omega arith
count-push (event x ∷ xs) ys = omega (arith, count-push xs ys)
count-push (edited_entry x ∷ xs) ys = count-push xs ys

one-count : (o : Opening) (r : Run) → event_count (advanced o r).entries + r.state.events ≡ event_count r.entries + (advanced o r).state.events
one-count o r = elim (end_cases (end_of o r.state)) [
  | inr over ↦
      let same = advanced_ended o r over.0 over.1 in
      omega (arith, ap (λ (q : Run). event_count q.entries) same, ap (λ (q : Run). q.state.events) same)
  | inl going ↦
      let m = next-message o r.state going in
      let same = advanced_going o r m.0 going m.1 in
      let joined = count-push r.entries (event (event_of o r.state m.0).entry ∷ []) in
      omega (arith, ap (λ (q : Run). event_count q.entries) same, joined, advanced-events o r going)
]

pub advanced-count : (n : ℕ) (o : Opening) (r : Run) → event_count (advanced_by n o r).entries + r.state.events ≡ event_count r.entries + (advanced_by n o r).state.events
advanced-count zero o r = refl
advanced-count (suc n) o r = omega (arith, one-count o r, advanced-count n o (advanced o r))

pub made-count : (o : Opening) (r : Run) (s : State) (es : List EntryTold) → record { state = s; entries = es } ≡ advanced_by (s.events - r.state.events) o r → event_count es + r.state.events ≡ event_count r.entries + s.events
made-count o r s es made =
    let n = s.events - r.state.events in
    omega (arith, advanced-count n o r, ap (λ (q : Run). event_count q.entries) made, ap (λ (q : Run). q.state.events) made)

-- and its entries begin with those before
pub made-keeps : (o : Opening) (r : Run) (s : State) (es : List EntryTold) → record { state = s; entries = es } ≡ advanced_by (s.events - r.state.events) o r → BeginWith es r.entries
made-keeps o r s es made = subst (λ (q : Run). BeginWith q.entries r.entries) (sym made) (advanced-begins (s.events - r.state.events) o r)

-- an edit is none of them
pub edit-count : (b i : ℕ) (e : Edit) (r q : Run) → q ≡ edited_one b i e r → event_count q.entries ≡ event_count r.entries
unfolding edited_one
edit-count b i e r q is = omega (arith, ap (λ (x : Run). event_count x.entries) is, count-push r.entries (edited_entry (mark_of b i e r.state) ∷ []))

pub edit-keeps : (b i : ℕ) (e : Edit) (r q : Run) → q ≡ edited_one b i e r → BeginWith q.entries r.entries
edit-keeps b i e r q is = subst (λ (x : Run). BeginWith x.entries r.entries) (sym is) (one-begins b i e r)
