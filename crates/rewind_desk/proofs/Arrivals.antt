-- Where a run stands in a segment.
use Rattle.std.proofs.Common.{◌≡◌, ◌≤◌, ◌<◌, ℕ, Bool, true, false, inl, inr, List, Option, Some, None, length, refl, sym, ap, ◌∙◌, arith, subst, suc, zero}
use Rattle.std.specs.Prelude.{nat_lt}
use Rattle.std.proofs.lemmas.Bool.{cases_eq, cases_lt, lt-ltb, ltb-true, ltb-false}
use Rattle.market_types.specs.Told.{EntryTold}
use Rattle.shelf_core.specs.declared.plan.Key.{Key}
use Rattle.branch_tree.specs.Segments.{segments_in, segment_at, last_of}
use Rattle.branch_tree.proofs.PartLemmas.{last-at}
use Rattle.kernel_core.specs.State.{State}
use Rattle.kernel_core.specs.Open.{opened}
use Rattle.kernel_core.specs.Until.{Run, until}
use Rattle.kernel_core.proofs.Stops.{until-again, until-grows}
use Rattle.kernel_copy.specs.Courses.{CourseTold, IsCourse, IsKeyOf, state_at}
use Rattle.kernel_copy.specs.UntilStop.{until_stop, until_part}
use Rattle.kernel_copy.specs.Full.{begun, reach, full}
use Rattle.kernel_copy.specs.Segmentwise.{after, afresh, from_count, parent_end, segment_end, started_at, started_from}
use Rattle.kernel_copy.proofs.Afters.{after-end, after-full, after-past}
use Rattle.kernel_copy.proofs.Pieces.{state_afresh}
use Rattle.kernel_copy.proofs.Trees.{course-tree}
use Rattle.kernel_copy.proofs.Walks.{full-begun, has_parent, planned-at, segment-after, segment-before, segment-copy, segment-ends, segment-first, segment-goes, segment-grows, segment-stays, segment-within, started-first, started-goes}
use Rattle.rewind_desk.specs.Best.{count_at}
use Rattle.rewind_desk.specs.Reach.{IsAt, IsOn, RunsOn, has_more}
use Rattle.rewind_desk.proofs.Chained.{parent_cases, on-first, on-parent}
use Rattle.rewind_desk.proofs.Halting.{part-before, part-more, part-whole, stop-afresh, stop-at, stop-on}

pub end-reach : (c : CourseTold) (s : ℕ) → segment_end c.opening c.plan (segment_at c.plan s) ≡ reach c.opening c.plan (segment_at c.plan s).branch (segment_at c.plan s).stop
unfolding segment_end
end-reach c s = refl

-- a branch begins no later than its segments
begins : (c : CourseTold) (s : ℕ) → IsCourse c → s < length (segments_in c.plan) → (begun c.opening c.plan (segment_at c.plan s).branch).state.events ≤ from_count c.opening c.plan (segment_at c.plan s)
begins c s h l = (segment-goes c.opening c.plan s (course-tree c h) h.limit l).begins

-- where a segment's run stands at an event number, its branch's full run does
pub standing-events : (c : CourseTold) (s e : ℕ) → IsCourse c → s < length (segments_in c.plan) → from_count c.opening c.plan (segment_at c.plan s) ≤ e
    → e ≤ (segment_end c.opening c.plan (segment_at c.plan s)).state.events → (full c.opening c.plan (segment_at c.plan s).branch e).state.events ≡ e
standing-events c s e h l from to =
    let o = c.opening in
    let g = segment_at c.plan s in
    let first = begun o c.plan g.branch in
    let low : first.state.events ≤ e = omega (arith, begins c s h l, from) in
    let end = ap (λ (r : Run). r.state.events) (end-reach c s) in
    ap (λ (r : Run). r.state.events) (full-begun o c.plan g.branch e low) ∙ stop-at o g.stop e first low (omega (arith, end, to))

-- a course's state at a number at which a segment's run stands
pub standing-state : (c : CourseTold) (key : Key) → IsCourse c → key.segment < length (segments_in c.plan) → from_count c.opening c.plan (segment_at c.plan key.segment) ≤ key.event
    → key.event ≤ (segment_end c.opening c.plan (segment_at c.plan key.segment)).state.events → state_at c key ≡ (full c.opening c.plan (segment_at c.plan key.segment).branch key.event).state
standing-state c key h l from to = after-full c.opening c.plan key.segment key.event (course-tree c h) h.limit (omega (arith, h.opening.limit)) l from to

-- A state at a key is its branch's after as many events as it has: no fewer than before the segment's own, and no more than
-- its end's.
pub record KeyStands (c : CourseTold) (key : Key) : Type 0 where
  pub from : from_count c.opening c.plan (segment_at c.plan key.segment) ≤ count_at c key
  pub to : count_at c key ≤ (segment_end c.opening c.plan (segment_at c.plan key.segment)).state.events
  pub state : state_at c key ≡ (full c.opening c.plan (segment_at c.plan key.segment).branch (count_at c key)).state

stands-end : (c : CourseTold) (key : Key) → IsCourse c → key.segment < length (segments_in c.plan) → state_at c key ≡ (segment_end c.opening c.plan (segment_at c.plan key.segment)).state → KeyStands c key
stands-end c key h l is =
    let o = c.opening in
    let g = segment_at c.plan key.segment in
    let count : count_at c key ≡ (segment_end o c.plan g).state.events = ap (λ (k : State). k.events) is in
    record {
      from = omega (arith, count, segment-grows o c.plan key.segment (course-tree c h) h.limit l);
      to = omega (arith, count);
      state = is ∙ ap (λ (r : Run). r.state) (segment-ends o c.plan g) ∙ ap (λ (n : ℕ). (full o c.plan g.branch n).state) (sym count);
    }

stands-at : (c : CourseTold) (key : Key) → IsCourse c → key.segment < length (segments_in c.plan) → from_count c.opening c.plan (segment_at c.plan key.segment) ≤ key.event
    → key.event ≤ (segment_end c.opening c.plan (segment_at c.plan key.segment)).state.events → KeyStands c key
stands-at c key h l from to =
    let b = (segment_at c.plan key.segment).branch in
    let is = standing-state c key h l from to in
    let count : count_at c key ≡ key.event = ap (λ (x : State). x.events) is ∙ standing-events c key.segment key.event h l from to in
    record {
      from = omega (arith, count, from);
      to = omega (arith, count, to);
      state = is ∙ ap (λ (n : ℕ). (full c.opening c.plan b n).state) (sym count);
    }

pub key-stands : (c : CourseTold) (key : Key) → IsCourse c → IsKeyOf c key → KeyStands c key
key-stands c key h k =
    let o = c.opening in
    let g = segment_at c.plan key.segment in
    elim k.event [
      | inl fork ↦ stands-end c key h k.segment (ap (λ (n : ℕ). after o c.plan g n) fork ∙ after-end o c.plan g)
      | inr other ↦ elim other [
        | inl at ↦ stands-at c key h k.segment at.from at.to
        | inr past ↦ stands-end c key h k.segment (after-past o c.plan g key.event past)
      ]
    ]

pub parent-events : (c : CourseTold) (s q : ℕ) → (segment_at c.plan s).parent ≡ Some q → from_count c.opening c.plan (segment_at c.plan s) ≡ (segment_end c.opening c.plan (segment_at c.plan q)).state.events
parent-events c s q is = ap (λ (x : Option ℕ). (parent_end c.opening c.plan x).state.events) is

-- the states of a chain have at most the events of its end
chain-count : (n : ℕ) (c : CourseTold) (s : ℕ) (key : Key) → IsCourse c → s < length (segments_in c.plan) → s ≤ n → IsOn c.plan s key.segment → IsKeyOf c key
    → count_at c key ≤ (segment_end c.opening c.plan (segment_at c.plan s)).state.events
chain-count zero c s key h l most on k = elim (cases_eq s key.segment) [
  | inl same ↦ subst (λ (x : ℕ). count_at c key ≤ (segment_end c.opening c.plan (segment_at c.plan x)).state.events) (sym same) (key-stands c key h k).to
  | inr other ↦ elim (parent_cases (segment_at c.plan s).parent) [
    | inl none ↦ absurd (other (on-first c.plan s key.segment none on))
    | inr some ↦ let parent = has_parent c.plan s some.0 (course-tree c h) l some.1 in absurd (omega (arith, parent.earlier))
  ]
]
chain-count (suc n) c s key h l most on k = elim (cases_eq s key.segment) [
  | inl same ↦ subst (λ (x : ℕ). count_at c key ≤ (segment_end c.opening c.plan (segment_at c.plan x)).state.events) (sym same) (key-stands c key h k).to
  | inr other ↦ elim (parent_cases (segment_at c.plan s).parent) [
    | inl none ↦ absurd (other (on-first c.plan s key.segment none on))
    | inr some ↦
        let q = some.0 in
        let t = course-tree c h in
        let parent = has_parent c.plan s q t l some.1 in
        let less = chain-count n c q key h (omega (arith, parent.earlier)) (omega (arith, parent.earlier)) (on-parent c.plan s q key.segment t l some.1 other on) k in
        omega (arith, less, parent-events c s q some.1, segment-grows c.opening c.plan s t h.limit l)
  ]
]

pub chain-end : (c : CourseTold) (s : ℕ) (key : Key) → IsCourse c → s < length (segments_in c.plan) → IsOn c.plan s key.segment → IsKeyOf c key
    → count_at c key ≤ (segment_end c.opening c.plan (segment_at c.plan s)).state.events
chain-end c s key h l on k = chain-count s c s key h l (omega arith) on k

-- from a state at a key its segment's run goes on
pub from-key : (c : CourseTold) (key : Key) → IsCourse c → IsKeyOf c key → RunsOn c key.segment (state_at c key)
from-key c key h k =
    let o = c.opening in
    let g = segment_at c.plan key.segment in
    let first = begun o c.plan g.branch in
    let n = count_at c key in
    let stands = key-stands c key h k in
    let low : first.state.events ≤ n = omega (arith, begins c key.segment h k.segment, stands.from) in
    let few : n ≤ o.limit = omega (arith, stands.to, segment-within o c.plan key.segment (course-tree c h) h.limit k.segment) in
    let at : state_at c key ≡ (until o n first).state = stands.state ∙ ap (λ (r : Run). r.state) (full-begun o c.plan g.branch n low) in
    let end = end-reach c key.segment in
    let high : n ≤ (until_stop o g.stop first).state.events = omega (arith, ap (λ (r : Run). r.state.events) end, stands.to) in
    record {
      ends = ap (λ (x : State). (until_stop o g.stop (afresh x)).state) at
          ∙ stop-afresh o g.stop (until o n first)
          ∙ ap (λ (r : Run). r.state) (stop-on o g.stop n first few low high ∙ sym end);
      runs = λ m under.
          let here : (until o n first).state.events ≤ m = omega (arith, under, ap (λ (x : State). x.events) at) in
          let begun_by : first.state.events ≤ m = omega (arith, here, until-grows o n first) in
          ap (λ (x : State). (until o m (afresh x)).state) at
          ∙ state_afresh o m (until o n first)
          ∙ ap (λ (r : Run). r.state) (until-again o n m first here ∙ sym (full-begun o c.plan g.branch m begun_by));
    }

-- so is the opening in a segment that goes on from no other
pub from-opening : (c : CourseTold) (s : ℕ) (k : State) → IsCourse c → s < length (segments_in c.plan) → (segment_at c.plan s).parent ≡ None → k ≡ opened c.opening → RunsOn c s k
from-opening c s k h l none is =
    let o = c.opening in
    let g = segment_at c.plan s in
    let t = course-tree c h in
    let zero_events : from_count o c.plan g ≡ 0 = ap (λ (x : Option ℕ). (parent_end o c.plan x).state.events) none in
    let opening : RunsOn c s (opened o) = record {
      ends = ap (λ (r : Run). r.state) (sym (segment-first o c.plan s t h.limit l none));
      runs = λ e low.
          ap (λ (r : Run). (until o e r).state) (sym (started-first o c.plan g none))
          ∙ sym (ap (λ (r : Run). r.state) (segment-after o c.plan s e t h.limit l (omega (arith, zero_events))));
    } in
    subst (λ (x : State). RunsOn c s x) (sym is) opening

-- a segment's own run begins with the events before it
pub started-events : (c : CourseTold) (s : ℕ) → IsCourse c → s < length (segments_in c.plan) → (started_at c.opening c.plan (segment_at c.plan s)).state.events ≡ from_count c.opening c.plan (segment_at c.plan s)
unfolding started_at
started-events c s h l = (segment-goes c.opening c.plan s (course-tree c h) h.limit l).counts

-- so a kernel that goes on from the parent's end has as many events as before
pub go-events : (c : CourseTold) (s q : ℕ) (old new : State) (es : List EntryTold) → IsCourse c → s < length (segments_in c.plan) → (segment_at c.plan s).parent ≡ Some q
    → old ≡ (segment_end c.opening c.plan (segment_at c.plan q)).state → record { state = new; entries = es } ≡ started_from c.opening c.plan (segment_at c.plan s).branch (Some q) → new.events ≡ old.events
go-events c s q old new es h l is end started =
    ap (λ (r : Run). r.state.events) (started ∙ sym (started-goes c.opening c.plan (segment_at c.plan s) q is)) ∙ started-events c s h l ∙ parent-events c s q is
    ∙ sym (ap (λ (x : State). x.events) end)

-- and from it the segment's run goes on
pub from-parent : (c : CourseTold) (s q : ℕ) (k : State) (es : List EntryTold) → IsCourse c → s < length (segments_in c.plan) → (segment_at c.plan s).parent ≡ Some q
    → record { state = k; entries = es } ≡ started_from c.opening c.plan (segment_at c.plan s).branch (Some q) → RunsOn c s k
from-parent c s q k es h l is started =
    let o = c.opening in
    let g = segment_at c.plan s in
    let t = course-tree c h in
    let r : Run = record { state = k; entries = es } in
    let start : r ≡ started_at o c.plan g = started ∙ sym (started-goes o c.plan g q is) in
    let count : k.events ≡ from_count o c.plan g = ap (λ (x : Run). x.state.events) start ∙ started-events c s h l in
    record {
      ends = stop-afresh o g.stop r ∙ ap (λ (x : Run). (until_stop o g.stop x).state) start ∙ sym (ap (λ (x : Run). x.state) (segment-copy o c.plan s t h.limit l));
      runs = λ e low.
          state_afresh o e r ∙ ap (λ (x : Run). (until o e x).state) start
          ∙ sym (ap (λ (x : Run). x.state) (segment-after o c.plan s e t h.limit l (omega (arith, low, count))));
    }

-- where a state comes to from which a segment's run goes on
pub arrives : (c : CourseTold) (s e : ℕ) (k y : State) (more : Bool) → RunsOn c s k → k.events ≤ e → e ≤ c.opening.limit
    → y ≡ (until_part c.opening (segment_at c.plan s).stop e (afresh k)).state → more ≡ has_more c.opening (segment_at c.plan s).stop y → IsAt c s e y more
arrives c s e k y more on low few is has =
    let o = c.opening in
    let stop = (segment_at c.plan s).stop in
    let r : Run = afresh k in
    let end : (until_stop o stop r).state.events ≡ (segment_end o c.plan (segment_at c.plan s)).state.events = ap (λ (x : State). x.events) on.ends in
    record {
      further = has ∙ ap (λ (x : State). has_more o stop x) is ∙ part-more o stop e r few low ∙ ap (λ (n : ℕ). nat_lt e n) end;
      events = λ less. let before : e < (until_stop o stop r).state.events = omega (arith, end, less) in
          ap (λ (x : State). x.events) is ∙ ap (λ (q : Run). q.state.events) (part-before o stop e r low before) ∙ stop-at o stop e r low (omega (arith, before));
      state = λ less. let before : e < (until_stop o stop r).state.events = omega (arith, end, less) in
          is ∙ ap (λ (q : Run). q.state) (part-before o stop e r low before) ∙ on.runs e low;
      whole = λ all. is ∙ ap (λ (q : Run). q.state) (part-whole o stop e r few low (omega (arith, end, all))) ∙ on.ends;
    }

-- what was reached for an event number has no more events
pub at-within : (c : CourseTold) (s e : ℕ) (k : State) (more : Bool) → IsAt c s e k more → k.events ≤ e
at-within c s e k more at = elim (cases_lt e (segment_end c.opening c.plan (segment_at c.plan s)).state.events) [
  | inl less ↦ omega (arith, at.events less)
  | inr all ↦ omega (arith, all, ap (λ (x : State). x.events) (at.whole all))
]

-- before the end of a segment's parent the segment's branch is where the parent's is
pub at-parent : (c : CourseTold) (s q e : ℕ) (k : State) (more : Bool) → IsCourse c → s < length (segments_in c.plan) → (segment_at c.plan s).parent ≡ Some q → more ≡ true
    → IsAt c q e k more → IsAt c s e k more
at-parent c s q e k more h l is has at =
    let o = c.opening in
    let t = course-tree c h in
    let x = (segment_end o c.plan (segment_at c.plan q)).state in
    let less : e < x.events = ltb-true e x.events (sym at.further ∙ has) in
    let past : e < (segment_end o c.plan (segment_at c.plan s)).state.events = omega (arith, less, parent-events c s q is, segment-grows o c.plan s t h.limit l) in
    record {
      further = has ∙ sym (lt-ltb e (segment_end o c.plan (segment_at c.plan s)).state.events past);
      events = λ high. at.events less;
      state = λ high. elim (has_parent c.plan s q t l is).joins [
        | inl n ↦ at.state less ∙ ap (λ (b : ℕ). (full o c.plan b e).state) n.branch
        | inr n ↦
            let under = (planned-at c.plan s t l).branch in
            let earlier = t.parents (segment_at c.plan s).branch n.later under in
            at.state less ∙ sym (ap (λ (r : Run). r.state) (segment-before o c.plan s q e t l is (omega (arith, earlier, n.parent)) less))
      ];
      whole = λ all. absurd (omega (arith, all, past));
    }

-- and where the parent has no more events, its end was reached
pub at-end : (c : CourseTold) (q e : ℕ) (k : State) (more : Bool) → more ≡ false → IsAt c q e k more → k ≡ (segment_end c.opening c.plan (segment_at c.plan q)).state
at-end c q e k more has at = at.whole (ltb-false e (segment_end c.opening c.plan (segment_at c.plan q)).state.events (sym at.further ∙ has))

-- a state of a branch's last segment is the full run's, up to the limit of events
pub at-last : (c : CourseTold) (b e : ℕ) (k : State) (more : Bool) → IsCourse c → b < length c.plan.branches → e ≤ c.opening.limit → IsAt c (last_of c.plan.branches b) e k more
    → k ≡ (full c.opening c.plan b e).state
at-last c b e k more h l most at =
    let o = c.opening in
    let g = segment_at c.plan (last_of c.plan.branches b) in
    let last = (last-at c.plan b l).1 in
    let mine : k ≡ (full o c.plan g.branch e).state = elim (cases_lt e (segment_end o c.plan g).state.events) [
      | inl less ↦ at.state less
      | inr all ↦ at.whole all ∙ sym (ap (λ (r : Run). r.state) (segment-stays o c.plan g c.plan.limit e last.stop all (omega (arith, h.limit, most))))
    ] in
    mine ∙ ap (λ (x : ℕ). (full o c.plan x e).state) last.branch
