-- The edits of a course's runs are marked within their ranges.
use Rattle.std.proofs.Common.{◌≡◌, ℕ, zero, suc, ◌+◌, ◌<◌, ◌≤◌, true, false, cond, ltb, inl, inr, List, [], ◌∷◌, ◌++◌, length, All, refl, sym, subst, slice_index, arith}
use Rattle.std.specs.Prelude.{◌==◌, if◌then◌else◌}
use Rattle.std.proofs.lemmas.Bool.{cases_lt}
use Rattle.std.proofs.lemmas.Bool.Decides.{nat_tests}
use Rattle.std.proofs.lemmas.List.{get_or_past}
use Rattle.std.proofs.lemmas.List.Elements.{All-append, All-cons, All-drop, All-get_or, All-head, All-nil, All-push, All-tail}
use Rattle.market_types.specs.declared.message.Message.{Message}
use Rattle.market_types.specs.Told.{event, edit as edited_entry}
use Rattle.market_rules.specs.declared.edit.Edit.{Edit}
use Rattle.market_rules.specs.declared.edit.Edit.TheVariants.{Tick, Fee, Halt, Resume, Latency, Agent, Silence, Inject, Series}
use Rattle.market_rules.specs.Edits.{letter_of}
use Rattle.branch_tree.specs.declared.branch.Branch.{Branch}
use Rattle.branch_tree.specs.Paths.{path_of, path_within}
use Rattle.branch_tree.specs.Plan.{branch_at, no_branch, parent_at}
use Rattle.branch_tree.specs.Planned.{IsTree}
use Rattle.market_floor.specs.declared.opening.Opening.{Opening}
use Rattle.market_floor.specs.Opening.{IsOpening}
use Rattle.kernel_core.specs.Edited.{edited_one, mark_of}
use Rattle.kernel_core.specs.State.{State}
use Rattle.kernel_core.specs.Step.{Happened, event_back, event_delivered, event_of}
use Rattle.kernel_core.specs.Until.{Run}
use Rattle.kernel_core.proofs.Runs.{event-events, going_below, next-time}
use Rattle.kernel_copy.specs.Courses.{AreEdits, CourseTold, IsCourse}
use Rattle.kernel_copy.specs.Full.{forks_of, full, opening_run}
use Rattle.kernel_copy.proofs.Trees.{course-few, course-tree}
use Rattle.market_laws.specs.Fields.{HasMark, IsMark}
use Rattle.market_laws.proofs.EachRun.{AllowsAll, AllowsFrom, AreKept, kept-along}

-- a run within its limit and its hours, whose edits are marked
record IsMarkedRun (o : Opening) (r : Run) : Type 0 where
  events : r.state.events ≤ o.limit
  time : r.state.time ≤ o.close
  marks : All HasMark r.entries

event-time : (o : Opening) (s : State) (m : Message) → (event_of o s m).state.time ≡ m.time
unfolding event_of
event-time o s m =
    elim (ltb m.time (slice_index s.own m.to)) as (λ b. let h : Happened = cond b (event_back o s m (slice_index s.own m.to)) (event_delivered o s m) in h.state.time ≡ m.time) [ true ↦ refl | false ↦ refl ]

letter-small : (e : Edit) → letter_of e < 256
letter-small (Tick stock table) = omega arith
letter-small (Fee stock fees) = omega arith
letter-small (Halt stock) = omega arith
letter-small (Resume stock) = omega arith
letter-small (Latency from to base jitter) = omega arith
letter-small (Agent agent name value) = omega arith
letter-small (Silence agent) = omega arith
letter-small (Inject agent after message) = omega arith
letter-small (Series stock offset) = omega arith

-- an edit of a branch that there can be, among its edits
abbrev IsPlaced : ℕ → ℕ → Edit → Type 0
IsPlaced b i e = (b < 256) × (i < 16)

marked-edit : (o : Opening) (b i : ℕ) (e : Edit) (r : Run) → IsOpening o → IsPlaced b i e → IsMarkedRun o r → IsMarkedRun o (edited_one b i e r)
unfolding edited_one
marked-edit o b i e r is placed h =
    let mark : IsMark (mark_of b i e r.state) = record {
      events = omega (arith, h.events, is.limit);
      time = omega (arith, h.time, is.close);
      branch = placed.0;
      index = placed.1;
      letter = letter-small e;
    } in
    record { events = h.events; time = h.time; marks = All-push HasMark r.entries (edited_entry (mark_of b i e r.state)) h.marks mark }

each-kept : (o : Opening) → IsOpening o → AreKept o (IsMarkedRun o) IsPlaced
each-kept o is = record {
  event = λ r m going next h. record {
    events = omega (arith, event-events o r.state m, going_below o r.state going, h.events);
    time = omega (arith, event-time o r.state m, next-time o r.state m (sym next) going);
    marks = All-push HasMark r.entries (event (event_of o r.state m).entry) h.marks tt;
  };
  edit = λ b i e r placed h. marked-edit o b i e r is placed h;
}

-- ---- the places of edits

placed-from : (b i : ℕ) (es : List Edit) → b < 256 → i + length es ≤ 16 → AllowsFrom IsPlaced b i es
placed-from b i [] small few = tt
placed-from b i (e ∷ es) small few = ((small, omega (arith, few)), placed-from b (i + 1) es small (omega (arith, few)))

abbrev HasEdits : Opening → Branch → Type 0
HasEdits o b = AreEdits o b.edits

few-edits : (o : Opening) (bs : List Branch) (b : ℕ) → All (HasEdits o) bs → length (branch_at bs b).edits ≤ 16
few-edits o bs b h = elim (cases_lt b (length bs)) [
  | inl l ↦ (All-get_or (HasEdits o) bs b no_branch l h).few
  | inr past ↦ subst (λ (x : Branch). length x.edits ≤ 16) (sym (get_or_past bs b no_branch past)) (omega arith)
]

abbrev IsSmall : ℕ → Type 0
IsSmall b = b < 256

all-placed : (o : Opening) (bs : List Branch) (cs : List ℕ) → All (HasEdits o) bs → All IsSmall cs → All (AllowsAll IsPlaced bs) cs
all-placed o bs [] edits small = All-nil (AllowsAll IsPlaced bs)
all-placed o bs (b ∷ cs) edits small =
    All-cons (AllowsAll IsPlaced bs) b cs (placed-from b 0 (branch_at bs b).edits (All-head IsSmall b cs small) (omega (arith, few-edits o bs b edits)))
    (all-placed o bs cs edits (All-tail IsSmall b cs small))

parent-small : (bs : List Branch) (limit b : ℕ) → IsTree bs limit → (b == 0) ≡ false → b < length bs → parent_at bs b < length bs
parent-small bs limit b tree e l =
    let more : 0 < b = first_of (grind (arith, nat_tests), cc) in
    omega (arith, tree.parents b more l, l)

path-small : (n : ℕ) (bs : List Branch) (limit b : ℕ) → IsTree bs limit → length bs ≤ 256 → b < length bs → All IsSmall (path_within n bs b)
path-small zero bs limit b tree few l = All-cons IsSmall b [] (omega (arith, few, l)) (All-nil IsSmall)
path-small (suc n) bs limit b tree few l =
    let one = All-cons IsSmall b [] (omega (arith, few, l)) (All-nil IsSmall) in
    elim (b == 0) as (λ t. (b == 0) ≡ t → All IsSmall (if t then b ∷ [] else path_within n bs (parent_at bs b) ++ b ∷ [])) [
      | true ↦ λ e. one
      | false ↦ λ e. All-append IsSmall (path_within n bs (parent_at bs b)) (b ∷ []) (path-small n bs limit (parent_at bs b) tree few (parent-small bs limit b tree e l)) one
    ] refl

-- each full run of a course
pub marked-full : (c : CourseTold) (b e : ℕ) → IsCourse c → b < length c.plan.branches → All HasMark (full c.opening c.plan b e).entries
unfolding full
marked-full c b e is l =
    let o = c.opening in
    let bs = c.plan.branches in
    let start : IsMarkedRun o (opening_run o) = record { events = omega arith; time = is.opening.start; marks = All-nil HasMark } in
    let small = All-drop IsSmall 1 (path_of bs b) (path-small b bs c.plan.limit b (course-tree c is) (course-few c is) l) in
    (kept-along o (IsMarkedRun o) IsPlaced bs e (forks_of bs b) (opening_run o) (each-kept o is.opening) (all-placed o bs (forks_of bs b) is.edits small) start).marks
