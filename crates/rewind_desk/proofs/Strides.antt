-- How near the states are that the workers surely leave.
use Rattle.std.proofs.Common.{◌≡◌, ◌≤◌, ◌<◌, ℕ, ◌+◌, ◌-◌, ◌*◌, ◌/◌, ◌%◌, true, ◌&&◌, inl, inr, List, [], ◌∷◌, ◌++◌, Option, Some, None, get_or, length, refl, sym, ap, ◌∙◌, arith, subst, suc, zero}
use Rattle.std.specs.Prelude.{nat_le, nat_lt}
use Rattle.std.proofs.Math.Nat.{mul-mod_left, mod-lt}
use Rattle.std.proofs.lemmas.Bool.{cases_eq, cases_lt, le-leb, lt-ltb, or_left, or_right, ne_eqb}
use Rattle.std.proofs.lemmas.Nat.{div-add-mod'}
use Rattle.shelf_core.specs.declared.plan.Key.{Key}
use Rattle.shelf_core.specs.declared.plan.ShelfPlan.{ShelfPlan}
use Rattle.shelf_core.specs.Plan.{is_in, is_sole}
use Rattle.shelf_core.proofs.Plans.{and_left, and_right}
use Rattle.checkpoint_shelf.specs.Told.{ClosedTold}
use Rattle.branch_tree.specs.declared.branch.Branch.{Branch}
use Rattle.branch_tree.specs.declared.segment.Segment.{Segment}
use Rattle.branch_tree.specs.declared.stop.Stop.{Stop}
use Rattle.branch_tree.specs.declared.stop.Stop.TheVariants.{At, When}
use Rattle.branch_tree.specs.Plan.{stop_at}
use Rattle.branch_tree.specs.Segments.{cuts_of, count_before, last_of, no_segment, origin_of, fork_of, parts, segments_before, segments_in, segments_of, segment_at}
use Rattle.branch_tree.proofs.PartLemmas.{last-at}
use Rattle.kernel_core.specs.State.{State}
use Rattle.kernel_core.specs.Step.{end_of}
use Rattle.kernel_core.specs.Until.{Run, until}
use Rattle.kernel_core.proofs.Stops.{end_cases, going-events, until-past}
use Rattle.kernel_copy.specs.Courses.{CourseTold, IsCourse}
use Rattle.kernel_copy.specs.UntilStop.{until_stop}
use Rattle.kernel_copy.specs.Full.{begun}
use Rattle.kernel_copy.specs.Segmentwise.{fork_number, from_count, parent_end, segment_end, started_at}
use Rattle.kernel_copy.proofs.Afters.{after-end}
use Rattle.kernel_copy.proofs.Trees.{course-tree}
use Rattle.kernel_copy.proofs.Walks.{has_parent, planned-at, segment-copy, segment-next, segment-until, segment-within}
use Rattle.branch_workers.specs.Layout.{start_number, stop_number}
use Rattle.rewind_desk.specs.Best.{best, count_at, is_held, is_held_near, is_near, is_on, keys_in}
use Rattle.rewind_desk.specs.Reach.{IsOn}
use Rattle.rewind_desk.specs.Rewinds.{last_event}
use Rattle.rewind_desk.specs.Sure.{end_events, is_passed, is_sure, is_sure_near, sure, HoldsSure, IsLaidFor, AreAllSole, IsWhole, IsWholeAtForks}
use Rattle.rewind_desk.proofs.Arrivals.{end-reach, parent-events, standing-events, standing-state, started-events}
use Rattle.rewind_desk.proofs.Chained.{on-more, on-self, parent_cases}
use Rattle.rewind_desk.proofs.Halting.{stop-ended}
use Rattle.rewind_desk.proofs.Lasts.{last-end}
use Rattle.rewind_desk.proofs.Most.{and-true, most-fewer, most-least}
use Rattle.rewind_desk.proofs.Laying.{in-left as in-front, in-right as in-back}

-- segments that go on from no other start at a stop
abbrev Start : Stop → List Segment → Type 0
Start m [] = Unit {0}
Start m (g ∷ gs) = (g.parent ≡ None → g.start ≡ m) × Start m gs

start-append : (m : Stop) (xs ys : List Segment) → Start m xs → Start m ys → Start m (xs ++ ys)
start-append m [] ys h k = k
start-append m (g ∷ xs) ys h k = (h.0, start-append m xs ys h.1 k)

start-at : (m : Stop) (xs : List Segment) (s : ℕ) (d : Segment) → s < length xs → Start m xs → (get_or xs s d).parent ≡ None → (get_or xs s d).start ≡ m
start-at m [] s d l h none = absurd (omega arith)
start-at m (g ∷ xs) zero d l h none = h.0 none
start-at m (g ∷ xs) (suc s) d l h none = start-at m xs s d (omega arith) h.1 none

parts-starts : (m : Stop) (limit branch number : ℕ) (parent : Option ℕ) (start : Stop) (cuts : List Stop) → (parent ≡ None → start ≡ m) → Start m (parts limit branch number parent start cuts)
parts-starts m limit branch number parent start [] h = (h, tt)
parts-starts m limit branch number parent start (c ∷ cs) h = (h, parts-starts m limit branch (number + 1) (Some number) c cs (λ none. cc none))

origin-starts : (bs : List Branch) (b : ℕ) → origin_of bs b ≡ None → stop_at bs b ≡ stop_at bs 0
origin-starts bs b none = elim (cases_eq b 0) [
  | inl is ↦ ap (λ (x : ℕ). stop_at bs x) is
  | inr other ↦ let some : Some (fork_of bs b) ≡ None = rw (ne_eqb b 0 other) at none in cc some
]

before-starts : (bs : List Branch) (limit b : ℕ) → Start (stop_at bs 0) (segments_before bs limit b)
before-starts bs limit zero = tt
before-starts bs limit (suc b) =
    start-append (stop_at bs 0) (segments_before bs limit b) (segments_of bs limit b) (before-starts bs limit b)
    (parts-starts (stop_at bs 0) limit b (count_before bs b) (origin_of bs b) (stop_at bs b) (cuts_of bs b) (origin-starts bs b))

-- and so with the root, at 0
first-start : (c : CourseTold) (s : ℕ) → IsCourse c → s < length (segments_in c.plan) → (segment_at c.plan s).parent ≡ None → (segment_at c.plan s).start ≡ At 0
first-start c s h l none =
    start-at (stop_at c.plan.branches 0) (segments_in c.plan) s no_segment l (before-starts c.plan.branches c.plan.limit (length c.plan.branches)) none ∙ h.rooted.stop

-- the events before a segment's own
abbrev pub from_events : CourseTold → ℕ → ℕ
from_events c s = from_count c.opening c.plan (segment_at c.plan s)

-- before a segment that goes on from no other there are none
pub first-events : (c : CourseTold) (s : ℕ) → (segment_at c.plan s).parent ≡ None → from_events c s ≡ 0
first-events c s none = ap (λ (x : Option ℕ). (parent_end c.opening c.plan x).state.events) none

-- the state of a fork has the events of its segment's end
end-count : (c : CourseTold) (s : ℕ) → count_at c (record { segment = s; event = fork_number (segment_at c.plan s).stop }) ≡ end_events c s
end-count c s = ap (λ (k : State). k.events) (after-end c.opening c.plan (segment_at c.plan s))

-- the state at an event number at which a segment's run stands has as many events
pub passed-count : (c : CourseTold) (s n : ℕ) → IsCourse c → s < length (segments_in c.plan) → from_events c s ≤ n → n ≤ end_events c s → count_at c (record { segment = s; event = n }) ≡ n
passed-count c s n h l from to =
    ap (λ (k : State). k.events) (standing-state c (record { segment = s; event = n }) h l from to) ∙ standing-events c s n h l from to

-- A segment that goes on in its own branch from an end before its start, an event number, has no event of its own.
still-ended : (c : CourseTold) (s q m : ℕ) → IsCourse c → s < length (segments_in c.plan) → (segment_at c.plan s).parent ≡ Some q
    → (segment_at c.plan q).branch ≡ (segment_at c.plan s).branch → (segment_at c.plan q).stop ≡ At m → end_events c q < m → end_events c s ≡ end_events c q
still-ended c s q m h l is same stop early =
    let o = c.opening in
    let y = segment_end o c.plan (segment_at c.plan q) in
    let first = begun o c.plan (segment_at c.plan q).branch in
    let at : y ≡ until o m first = end-reach c q ∙ ap (λ (x : Stop). until_stop o x first) stop in
    elim (end_cases (end_of o y.state)) [
      | inl going ↦
          let made = going-events (m - first.state.events) o first (subst (λ (r : Run). end_of o r.state ≡ None) at going) in
          absurd (omega (arith, early, made, ap (λ (r : Run). r.state.events) at))
      | inr over ↦ ap (λ (r : Run). r.state.events) (segment-next o c.plan s q (course-tree c h) h.limit l is same ∙ stop-ended o (segment_at c.plan s).stop y over.0 over.1)
    ]

-- where one has events of its own, all events up to its start stood there
next-start : (c : CourseTold) (s q : ℕ) (at : Stop) → IsCourse c → s < length (segments_in c.plan) → (segment_at c.plan s).parent ≡ Some q
    → (segment_at c.plan q).branch ≡ (segment_at c.plan s).branch → (segment_at c.plan q).stop ≡ at → end_events c q < end_events c s → start_number at ≤ end_events c q
next-start c s q (At m) h l is same stop own = elim (cases_lt (end_events c q) m) [
  | inl early ↦ absurd (omega (arith, own, still-ended c s q m h l is same stop early))
  | inr reached ↦ reached
]
next-start c s q (When w) h l is same stop own = omega arith

whole-start : (at : Stop) (events : ℕ) → IsWhole at events → start_number at ≤ events
whole-start (At n) events h = h
whole-start (When w) events h = omega arith

-- so the grid of a segment with events of its own begins no later than they
start-from : (c : CourseTold) (b s : ℕ) → IsCourse c → IsWholeAtForks c b → IsOn c.plan (last_of c.plan.branches b) s → s < length (segments_in c.plan)
    → from_events c s < end_events c s → start_number (segment_at c.plan s).start ≤ from_events c s
start-from c b s h whole on l own = elim (parent_cases (segment_at c.plan s).parent) [
  | inl none ↦ omega (arith, ap (λ (x : Stop). start_number x) (first-start c s h l none))
  | inr some ↦
      let q = some.0 in
      let is = some.1 in
      let t = course-tree c h in
      let events = parent-events c s q is in
      elim (has_parent c.plan s q t l is).joins [
        | inl n ↦ omega (arith, events, next-start c s q (segment_at c.plan s).start h l is n.branch n.meets (omega (arith, own, events)))
        | inr n ↦
            let under = t.parents (segment_at c.plan s).branch n.later (planned-at c.plan s t l).branch in
            let all = whole-start (segment_at c.plan q).stop (end_events c q) (whole s q on is (λ same. absurd (omega (arith, under, same, n.parent)))) in
            let meets : start_number (segment_at c.plan q).stop ≡ start_number (segment_at c.plan s).start = ap (λ (x : Stop). start_number x) (n.meets ∙ sym n.start) in
            omega (arith, events, all, meets)
      ]
]

-- a segment that begins past its stop has no event of its own
past-stop : (c : CourseTold) (s m : ℕ) → IsCourse c → s < length (segments_in c.plan) → (segment_at c.plan s).stop ≡ At m → m < from_events c s → end_events c s ≡ from_events c s
past-stop c s m h l stop past =
    let o = c.opening in
    let g = segment_at c.plan s in
    let first = started_at o c.plan g in
    let count = started-events c s h l in
    ap (λ (r : Run). r.state.events) (segment-copy o c.plan s (course-tree c h) h.limit l)
    ∙ ap (λ (x : Stop). (until_stop o x first).state.events) stop
    ∙ ap (λ (r : Run). r.state.events) (until-past o m first (omega (arith, past, count)))
    ∙ count

-- and the grid of one with events of its own ends no earlier than they
stop-above : (c : CourseTold) (s n : ℕ) (stop : Stop) → IsCourse c → s < length (segments_in c.plan) → (segment_at c.plan s).stop ≡ stop → from_events c s < end_events c s → n < end_events c s
    → n < stop_number c.plan.limit stop
stop-above c s n (At m) h l is own less = elim (cases_lt m (from_events c s)) [
  | inl past ↦ absurd (omega (arith, own, past-stop c s m h l is past))
  | inr ahead ↦ omega (arith, less, segment-until c.opening c.plan s m (course-tree c h) h.limit l is ahead)
]
stop-above c s n (When w) h l is own less = omega (arith, less, h.limit, segment-within c.opening c.plan s (course-tree c h) h.limit l)

-- a state that surely stands and is near has at most the events of the nearest one
pub sure-least : (c : CourseTold) (plan : ShelfPlan) (b e : ℕ) (k : Key) → is_in k (keys_in plan) ≡ true → is_sure c plan k ≡ true → IsOn c.plan (last_of c.plan.branches b) k.segment
    → count_at c k ≤ e → count_at c k ≤ sure c plan b e
sure-least c plan b e k i known on early =
    let s = last_of c.plan.branches b in
    let near = and-true (is_on c.plan s k.segment) (nat_le (count_at c k) e) on (le-leb (count_at c k) e early) in
    most-least (count_at c) (is_sure_near c plan s e) k (keys_in plan) i (and-true (is_sure c plan k) (is_near c s e k) known near)

-- the state at a fork is one of them
pub fork-least : (c : CourseTold) (plan : ShelfPlan) (b e stride s q : ℕ) → IsCourse c → IsLaidFor c.plan stride plan → s < length (segments_in c.plan) → (segment_at c.plan s).parent ≡ Some q
    → IsOn c.plan (last_of c.plan.branches b) q → end_events c q ≤ e → end_events c q ≤ sure c plan b e
fork-least c plan b e stride s q h laid l is on early =
    let parent = has_parent c.plan s q (course-tree c h) l is in
    let k : Key = record { segment = q; event = fork_number (segment_at c.plan q).stop } in
    let here = laid.forks q (omega (arith, l, parent.earlier)) parent.unfinished in
    let count = end-count c q in
    let least = sure-least c plan b e k (in-front k plan.forks plan.grid here)
    (or_left (is_in k plan.forks) (is_sole plan k && is_passed c k.segment k.event) here) on (omega (arith, count, early)) in
    omega (arith, count, least)

-- so is that at a grid key that its segment passes
grid-least : (c : CourseTold) (plan : ShelfPlan) (b e stride s n : ℕ) → IsCourse c → IsLaidFor c.plan stride plan → AreAllSole plan → IsWholeAtForks c b → s < length (segments_in c.plan)
    → IsOn c.plan (last_of c.plan.branches b) s → from_events c s < n → n < end_events c s → n % stride ≡ 0 → n ≤ e → n ≤ sure c plan b e
grid-least c plan b e stride s n h laid sole whole l on above below at early =
    let k : Key = record { segment = s; event = n } in
    let own : from_events c s < end_events c s = omega (arith, above, below) in
    let from = start-from c b s h whole on l own in
    let here = laid.grid s n l (omega (arith, from, above)) (stop-above c s n (segment_at c.plan s).stop h l refl own below) at in
    let count = passed-count c s n h l (omega (arith, above)) (omega (arith, below)) in
    let passed = and-true (nat_lt (from_events c s) n) (nat_le n (end_events c s)) (lt-ltb (from_events c s) n above) (le-leb n (end_events c s) (omega (arith, below))) in
    let least = sure-least c plan b e k (in-back k plan.forks plan.grid here)
    (or_right (is_in k plan.forks) (is_sole plan k && is_passed c k.segment k.event) (and-true (is_sole plan k) (is_passed c s n) (sole k here) passed)) on (omega (arith, count, early)) in
    omega (arith, count, least)

-- a multiple of the stride is less than a number, and at most the stride before it
pub record IsBefore (stride e n : ℕ) : Type 0 where
  pub less : n < e
  pub near : e ≤ n + stride
  pub at : n % stride ≡ 0

multiple-before : (stride e : ℕ) → 0 < stride → 0 < e → IsBefore stride e ((e - 1) / stride * stride)
multiple-before stride e some more =
    let whole = div-add-mod' (e - 1) stride in
    let rest = mod-lt (e - 1) some in
    record { less = omega (arith, whole); near = omega (arith, whole, rest); at = mul-mod_left ((e - 1) / stride) stride }

-- what of a segment is its own
own-near : (c : CourseTold) (plan : ShelfPlan) (b e stride s : ℕ) → IsCourse c → 0 < stride → IsLaidFor c.plan stride plan → AreAllSole plan → IsWholeAtForks c b → s < length (segments_in c.plan)
    → ((k : ℕ) → IsOn c.plan s k → IsOn c.plan (last_of c.plan.branches b) k) → from_events c s < e → e ≤ end_events c s → e ≤ sure c plan b e + stride
own-near c plan b e stride s h some laid sole whole l on above most =
    let t = course-tree c h in
    let n = (e - 1) / stride * stride in
    let before = multiple-before stride e some (omega (arith, above)) in
    elim (cases_lt (from_events c s) n) [
      | inl past ↦
          let least = grid-least c plan b e stride s n h laid sole whole l (on s (on-self c.plan s t l)) past (omega (arith, before.less, most)) before.at (omega (arith, before.less)) in
          omega (arith, before.near, least)
      | inr under ↦ elim (parent_cases (segment_at c.plan s).parent) [
        | inl none ↦ omega (arith, before.near, under, first-events c s none)
        | inr parent ↦
            let q = parent.0 in
            let is = parent.1 in
            let lq : q < length (segments_in c.plan) = omega (arith, l, (has_parent c.plan s q t l is).earlier) in
            let events = parent-events c s q is in
            let least = fork-least c plan b e stride s q h laid l is (on q (on-more c.plan s q q t l is (on-self c.plan q t lq))) (omega (arith, events, above)) in
            omega (arith, before.near, under, events, least)
      ]
    ]

-- and what is before it, by what is said of its parent
step-near : (c : CourseTold) (plan : ShelfPlan) (b e stride s : ℕ) → IsCourse c → 0 < stride → IsLaidFor c.plan stride plan → AreAllSole plan → IsWholeAtForks c b → s < length (segments_in c.plan)
    → ((k : ℕ) → IsOn c.plan s k → IsOn c.plan (last_of c.plan.branches b) k)
    → ((q : ℕ) → (segment_at c.plan s).parent ≡ Some q → e ≤ end_events c q → e ≤ sure c plan b e + stride) → e ≤ end_events c s → e ≤ sure c plan b e + stride
step-near c plan b e stride s h some laid sole whole l on up most = elim (cases_lt (from_events c s) e) [
  | inl above ↦ own-near c plan b e stride s h some laid sole whole l on above most
  | inr below ↦ elim (parent_cases (segment_at c.plan s).parent) [
    | inl none ↦ omega (arith, below, first-events c s none)
    | inr parent ↦ up parent.0 parent.1 (omega (arith, below, parent-events c s parent.0 parent.1))
  ]
]

chain-near : (m : ℕ) (c : CourseTold) (plan : ShelfPlan) (b e stride s : ℕ) → IsCourse c → 0 < stride → IsLaidFor c.plan stride plan → AreAllSole plan → IsWholeAtForks c b → s < length (segments_in c.plan)
    → s ≤ m → ((k : ℕ) → IsOn c.plan s k → IsOn c.plan (last_of c.plan.branches b) k) → e ≤ end_events c s → e ≤ sure c plan b e + stride
chain-near zero c plan b e stride s h some laid sole whole l low on most =
    step-near c plan b e stride s h some laid sole whole l on (λ q is more. let k = has_parent c.plan s q (course-tree c h) l is in absurd (omega (arith, k.earlier))) most
chain-near (suc m) c plan b e stride s h some laid sole whole l low on most =
    let t = course-tree c h in
    step-near c plan b e stride s h some laid sole whole l on
    (λ q is more.
    let k = has_parent c.plan s q t l is in
    chain-near m c plan b e stride q h some laid sole whole (omega (arith, k.earlier)) (omega (arith, k.earlier)) (λ x o. on x (on-more c.plan s q x t l is o)) more)
    most

pub sure-near : (c : CourseTold) (plan : ShelfPlan) (b e stride : ℕ) → IsCourse c → b < length c.plan.branches → e ≤ last_event c b → 0 < stride → IsLaidFor c.plan stride plan → AreAllSole plan
    → IsWholeAtForks c b → e ≤ sure c plan b e + stride
sure-near c plan b e stride h l most some laid sole whole =
    let s = last_of c.plan.branches b in
    chain-near s c plan b e stride s h some laid sole whole (last-at c.plan b l).0 (omega arith) (λ k o. o) (omega (arith, last-end c b h l))

-- what surely stands is held
pub sure-held : (shelf : ClosedTold CourseTold) (b e : ℕ) → HoldsSure shelf → sure shelf.course shelf.plan b e ≤ best shelf b e
sure-held shelf b e holds =
    let c = shelf.course in
    let s = last_of c.plan.branches b in
    most-fewer (count_at c) (is_sure_near c shelf.plan s e) (is_held_near shelf s e) (keys_in shelf.plan)
    (λ k i p. and-true (is_held shelf k) (is_near c s e k) (holds k i (and_left (is_sure c shelf.plan k) (is_near c s e k) p)) (and_right (is_sure c shelf.plan k) (is_near c s e k) p))

pub best-near : (shelf : ClosedTold CourseTold) (b e stride : ℕ) → IsCourse shelf.course → b < length shelf.course.plan.branches → e ≤ last_event shelf.course b → 0 < stride → HoldsSure shelf
    → IsLaidFor shelf.course.plan stride shelf.plan → AreAllSole shelf.plan → IsWholeAtForks shelf.course b → e ≤ best shelf b e + stride
best-near shelf b e stride h l most some holds laid sole whole =
    omega (arith, sure-near shelf.course shelf.plan b e stride h l most some laid sole whole, sure-held shelf b e holds)
