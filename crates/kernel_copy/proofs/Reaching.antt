-- Each state of a course is one where edits can be made, and each feed is timely.
use Rattle.std.proofs.Common.{◌≡◌, ℕ, ◌+◌, ◌*◌, ◌<◌, ◌≤◌, ◌^◌, ◌-◌, zero, suc, true, false, inl, inr, List, [], ◌∷◌, ◌++◌, length, All, refl, sym, subst, arith}
use Rattle.std.specs.Prelude.{nat_le, ◌==◌, if◌then◌else◌}
use Rattle.std.proofs.lemmas.Bool.{cases_lt}
use Rattle.std.proofs.lemmas.List.{get_or_past, length-append, length-drop}
use Rattle.std.proofs.lemmas.List.Elements.{All-append, All-cons, All-get_or, All-head, All-nil, All-tail, All-weaker}
use Rattle.market_types.specs.Timely.{IsTimely}
use Rattle.market_types.specs.Told.{EntryTold, event, edit as edited_entry}
use Rattle.market_rules.specs.declared.edit.Edit.{Edit}
use Rattle.market_rules.specs.EditRanges.{is_near_zero}
use Rattle.exchange_agent.specs.Sound.{IsWithin}
use Rattle.exchange_agent.proofs.Withins.{within-more}
use Rattle.branch_tree.specs.declared.branch.Branch.{Branch}
use Rattle.branch_tree.specs.declared.stop.Stop.{Stop}
use Rattle.branch_tree.specs.declared.stop.Stop.TheVariants.{At, When}
use Rattle.branch_tree.specs.Paths.{path_of, path_within}
use Rattle.branch_tree.specs.Plan.{no_branch, branch_at, parent_at, stop_at}
use Rattle.branch_tree.specs.Segments.{segments_in, segment_at}
use Rattle.market_floor.specs.declared.opening.Opening.{Opening}
use Rattle.kernel_core.specs.Open.{opened}
use Rattle.kernel_core.specs.State.{State}
use Rattle.kernel_core.specs.Step.{end_of, event_of}
use Rattle.kernel_core.specs.Until.{Run, advanced, advanced_by, until}
use Rattle.kernel_core.specs.Edited.{IsEditOf, edited_from, edited_one, mark_of}
use Rattle.kernel_core.proofs.Runs.{advanced_ended, advanced_going}
use Rattle.kernel_core.proofs.Stops.{end_cases, next-message}
use Rattle.kernel_core.proofs.Times.{time-some}
use Rattle.kernel_copy.specs.UntilStop.{until_stop}
use Rattle.kernel_copy.specs.Full.{opening_run, edited_by, forked, forks_of, begun, full_along, full}
use Rattle.kernel_copy.specs.Segmentwise.{parent_end, segment_end, segment_entries}
use Rattle.kernel_copy.specs.Reached.{IsReached, IsReachedFloor}
use Rattle.kernel_copy.specs.Courses.{CourseTold, AreEdits, IsCourse}
use Rattle.kernel_copy.proofs.Floors.{ShortLaws}
use Rattle.kernel_copy.proofs.States.{event-is}
use Rattle.kernel_copy.proofs.Changes.{edit-possible, edit-reached, mark-timely, within-near}
use Rattle.kernel_copy.proofs.Opened.{opened-reached, opened-stocks, opened-traders}
use Rattle.kernel_copy.proofs.Trees.{course-few, course-tree}
use Rattle.kernel_copy.proofs.Walks.{planned-at, segment-copy}

-- A run of a course after so many edits.
pub record IsReachedRun (o : Opening) (e : ℕ) (r : Run) : Type 0 where
  pub state : IsReached o e r.state
  pub timely : All IsTimely r.entries

-- more edits are allowed for
floor-more : (o : Opening) (n e d : ℕ) (s : State) → e ≤ d → IsReachedFloor o n e s.floor → IsReachedFloor o n d s.floor
floor-more o n e d s le h = record {
  stocks = h.stocks;
  parties = h.parties;
  kinds = h.kinds;
  traders = h.traders;
  books = h.books;
  offsets = All-weaker (IsWithin (2000000000 * e)) (IsWithin (2000000000 * d)) (λ x q. within-more (2000000000 * e) (2000000000 * d) x (omega (arith, le)) q) s.floor.offsets h.offsets;
}

pub reached-more : (o : Opening) (e d : ℕ) (s : State) → e ≤ d → IsReached o e s → IsReached o d s
reached-more o e d s le h = record { fits = h.fits; close = h.close; due = h.due; floor = floor-more o s.events e d s le h.floor; drops = omega (arith, le, h.drops) }

run-more : (o : Opening) (e d : ℕ) (r : Run) → e ≤ d → IsReachedRun o e r → IsReachedRun o d r
run-more o e d r le h = record { state = reached-more o e d r.state le h.state; timely = h.timely }

entry-more : (xs : List EntryTold) (x : EntryTold) → All IsTimely xs → IsTimely x → All IsTimely (xs ++ x ∷ [])
entry-more xs x h k = All-append IsTimely xs (x ∷ []) h (All-cons IsTimely x [] k (All-nil IsTimely))

advanced-reached : ShortLaws → (o : Opening) (e : ℕ) (r : Run) → IsReachedRun o e r → IsReachedRun o e (advanced o r)
advanced-reached laws o e r h = elim (end_cases (end_of o r.state)) [
  | inl going ↦
      let m = next-message o r.state going in
      let k = event-is laws o e r.state m.0 going m.1 h.state in
      subst (λ (q : Run). IsReachedRun o e q) (sym (advanced_going o r m.0 going m.1))
      (record { state = k.state; timely = entry-more r.entries (event (event_of o r.state m.0).entry) h.timely k.timely })
  | inr over ↦ subst (λ (q : Run). IsReachedRun o e q) (sym (advanced_ended o r over.0 over.1)) h
]

advanced_by-reached : ShortLaws → (n : ℕ) (o : Opening) (e : ℕ) (r : Run) → IsReachedRun o e r → IsReachedRun o e (advanced_by n o r)
advanced_by-reached laws zero o e r h = h
advanced_by-reached laws (suc n) o e r h = advanced_by-reached laws n o e (advanced o r) (advanced-reached laws o e r h)

until-reached : ShortLaws → (o : Opening) (n e : ℕ) (r : Run) → IsReachedRun o e r → IsReachedRun o e (until o n r)
until-reached laws o n e r h = advanced_by-reached laws (n - r.state.events) o e r h

stop-reached : ShortLaws → (o : Opening) (s : Stop) (e : ℕ) (r : Run) → IsReachedRun o e r → IsReachedRun o e (until_stop o s r)
stop-reached laws o (At n) e r h = until-reached laws o n e r h
stop-reached laws o (When w) e r h =
    let p = time-some (o.limit - r.state.events) o w r in
    subst (λ (q : Run). IsReachedRun o e q) (sym p.1) (advanced_by-reached laws p.0 o e r h)

-- an edit of a course can be made in each of its states
pub edit-of : (o : Opening) (e : ℕ) (s : State) (x : Edit) → IsReached o e s → IsEditOf (opened o) x → IsEditOf s x
edit-of o e s x h i = edit-possible o e s (opened o) x refl (opened-stocks o) (opened-traders o) refl h i

edited_one-reached : (o : Opening) (e b i : ℕ) (x : Edit) (r : Run) → IsEditOf (opened o) x → IsReachedRun o e r → IsReachedRun o (e + 1) (edited_one b i x r)
unfolding edited_one
edited_one-reached o e b i x r k h = record {
  state = edit-reached o e r.state x (edit-of o e r.state x h.state k) h.state;
  timely = entry-more r.entries (edited_entry (mark_of b i x r.state)) h.timely (mark-timely o e b i r.state x h.state);
}

-- one edit more of a state, without its trace
pub one-reached : (o : Opening) (e b i : ℕ) (x : Edit) (r : Run) → IsEditOf (opened o) x → IsReached o e r.state → IsReached o (e + 1) (edited_one b i x r).state
unfolding edited_one
one-reached o e b i x r k h = edit-reached o e r.state x (edit-of o e r.state x h k) h

edited_from-reached : (o : Opening) (e b i : ℕ) (xs : List Edit) (r : Run) → All (λ (x : Edit). IsEditOf (opened o) x) xs → IsReachedRun o e r → IsReachedRun o (e + length xs) (edited_from b i xs r)
edited_from-reached o e b i [] r k h = run-more o e (e + 0) r (omega arith) h
edited_from-reached o e b i (x ∷ xs) r k h =
    let P : Edit → Type 0 = λ y. IsEditOf (opened o) y in
    let next = edited_from-reached o (e + 1) b (i + 1) xs (edited_one b i x r) (All-tail P x xs k) (edited_one-reached o e b i x r (All-head P x xs k) h) in
    run-more o (e + 1 + length xs) (e + length (x ∷ xs)) _ (omega arith) next

-- a branch's edits are few and can be made, and no branch has none
branch-edits : (o : Opening) (bs : List Branch) (b : ℕ) → All (λ (x : Branch). AreEdits o x.edits) bs → AreEdits o (branch_at bs b).edits
branch-edits o bs b h = elim (cases_lt b (length bs)) [
  | inl l ↦ All-get_or (λ (x : Branch). AreEdits o x.edits) bs b no_branch l h
  | inr past ↦ subst (λ (x : Branch). AreEdits o x.edits) (sym (get_or_past bs b no_branch past)) (record { few = omega arith; fit = All-nil (λ (e : Edit). IsEditOf (opened o) e) })
]

by-reached : (o : Opening) (e : ℕ) (bs : List Branch) (b : ℕ) (r : Run) → All (λ (x : Branch). AreEdits o x.edits) bs → IsReachedRun o e r → IsReachedRun o (e + 16) (edited_by bs b r)
by-reached o e bs b r k h =
    let a = branch-edits o bs b k in
    let xs = (branch_at bs b).edits in
    run-more o (e + length xs) (e + 16) (edited_by bs b r) (omega (arith, a.few)) (edited_from-reached o e b 0 xs r a.fit h)

forked-reached : ShortLaws → (o : Opening) (e : ℕ) (bs : List Branch) (cs : List ℕ) (r : Run) → All (λ (x : Branch). AreEdits o x.edits) bs → IsReachedRun o e r → IsReachedRun o (e + 16 * length cs) (forked o bs cs r)
forked-reached laws o e bs [] r k h = run-more o e (e + 16 * 0) r (omega arith) h
forked-reached laws o e bs (c ∷ cs) r k h =
    let t = until_stop o (stop_at bs c) r in
    let next = forked-reached laws o (e + 16) bs cs (edited_by bs c t) k (by-reached o e bs c t k (stop-reached laws o (stop_at bs c) e r h)) in
    run-more o (e + 16 + 16 * length cs) (e + 16 * length (c ∷ cs)) _ (omega arith) next

along-reached : ShortLaws → (o : Opening) (e n : ℕ) (bs : List Branch) (cs : List ℕ) (r : Run) → All (λ (x : Branch). AreEdits o x.edits) bs → IsReachedRun o e r → IsReachedRun o (e + 16 * length cs) (full_along o bs n cs r)
along-reached laws o e n bs [] r k h = run-more o e (e + 16 * 0) (until o n r) (omega arith) (until-reached laws o n e r h)
along-reached laws o e n bs (c ∷ cs) r k h =
    let t = until_stop o (stop_at bs c) r in
    let next = along-reached laws o (e + 16) n bs cs (edited_by bs c t) k (by-reached o e bs c t k (stop-reached laws o (stop_at bs c) e r h)) in
    let more = run-more o (e + 16 + 16 * length cs) (e + 16 * length (c ∷ cs)) _ (omega arith) next in
    let stays = run-more o e (e + 16 * length (c ∷ cs)) (until o n r) (omega arith) (until-reached laws o n e r h) in
    elim (nat_le t.state.events n) as (λ b. IsReachedRun o (e + 16 * length (c ∷ cs)) (if b then full_along o bs n cs (edited_by bs c t) else until o n r)) [ true ↦ more | false ↦ stays ]

path-length : (n : ℕ) (bs : List Branch) (b : ℕ) → length (path_within n bs b) ≤ n + 1
path-length zero bs b = omega arith
path-length (suc n) bs b = elim (b == 0) as (λ t. length (if t then b ∷ [] else path_within n bs (parent_at bs b) ++ b ∷ []) ≤ suc n + 1) [
  | true ↦ omega arith
  | false ↦ omega (arith, length-append (path_within n bs (parent_at bs b)) (b ∷ []), path-length n bs (parent_at bs b))
]

forks-length : (bs : List Branch) (b : ℕ) → length (forks_of bs b) ≤ b
forks-length bs b = omega (arith, length-drop 1 (path_of bs b), path-length b bs b)

-- the most edits on the way to a branch
few-forks : (c : CourseTold) (b : ℕ) → IsCourse c → b < length c.plan.branches → 16 * length (forks_of c.plan.branches b) ≤ 4080
few-forks c b h l = omega (arith, forks-length c.plan.branches b, course-few c h)

opening-reached : (c : CourseTold) → IsCourse c → IsReachedRun c.opening 0 (opening_run c.opening)
opening-reached c h = record { state = opened-reached c.opening h.opening; timely = All-nil IsTimely }

begun-reached : ShortLaws → (c : CourseTold) (b : ℕ) → IsCourse c → b < length c.plan.branches → IsReachedRun c.opening 4080 (begun c.opening c.plan b)
unfolding begun
begun-reached laws c b h l =
    let cs = forks_of c.plan.branches b in
    run-more c.opening (0 + 16 * length cs) 4080 _ (omega (arith, few-forks c b h l)) (forked-reached laws c.opening 0 c.plan.branches cs (opening_run c.opening) h.edits (opening-reached c h))

-- each state of a full run
pub full-reached : ShortLaws → (c : CourseTold) (b e : ℕ) → IsCourse c → b < length c.plan.branches → IsReachedRun c.opening 4080 (full c.opening c.plan b e)
unfolding full
full-reached laws c b e h l =
    let cs = forks_of c.plan.branches b in
    run-more c.opening (0 + 16 * length cs) 4080 _ (omega (arith, few-forks c b h l)) (along-reached laws c.opening 0 e c.plan.branches cs (opening_run c.opening) h.edits (opening-reached c h))

-- each segment's end
pub end-reached : ShortLaws → (c : CourseTold) (s : ℕ) → IsCourse c → s < length (segments_in c.plan) → IsReachedRun c.opening 4080 (segment_end c.opening c.plan (segment_at c.plan s))
unfolding segment_end
end-reached laws c s h l =
    let g = segment_at c.plan s in
    stop-reached laws c.opening g.stop 4080 (begun c.opening c.plan g.branch) (begun-reached laws c g.branch h (planned-at c.plan s (course-tree c h) l).branch)

rest-timely : (xs ys : List EntryTold) → All IsTimely (xs ++ ys) → All IsTimely ys
rest-timely [] ys h = h
rest-timely (x ∷ xs) ys h = rest-timely xs ys (All-tail IsTimely x (xs ++ ys) h)

-- each segment's own entries
pub entries-timely : ShortLaws → (c : CourseTold) (s : ℕ) → IsCourse c → s < length (segments_in c.plan) → All IsTimely (segment_entries c.opening c.plan (segment_at c.plan s))
entries-timely laws c s h l =
    let g = segment_at c.plan s in
    let whole = subst (λ (r : Run). All IsTimely r.entries) (segment-copy c.opening c.plan s (course-tree c h) h.limit l) (end-reached laws c s h l).timely in
    rest-timely (parent_end c.opening c.plan g.parent).entries (segment_entries c.opening c.plan g) whole

-- What the kernel asks for where it makes an edit.
pub record IsRoomy (s : State) : Type 0 where
  pub drops : s.post.dropped < 2 ^ 63
  pub offsets : All (λ n. is_near_zero (2 ^ 62) n ≡ true) s.floor.offsets

pub roomy : (o : Opening) (e : ℕ) (s : State) → e ≤ 4096 → IsReached o e s → IsRoomy s
roomy o e s few h = record {
  drops = omega (arith, h.drops, few);
  offsets = All-weaker (IsWithin (2000000000 * e)) (λ n. is_near_zero (2 ^ 62) n ≡ true) (λ n q. within-near (2000000000 * e) (2 ^ 62) n (omega (arith, few)) q) s.floor.offsets h.floor.offsets;
}
