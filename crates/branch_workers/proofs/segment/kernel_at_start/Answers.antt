use Rattle.std.proofs.Common.{◌≡◌, ℕ, true, List, All, Some, None, length, sym, ap, ◌∙◌, subst, arith, Result, Ok, Err, OnOk, ◌<◌}
use Rattle.std.proofs.lemmas.Result.{IfOk-weaker}
use Rattle.branch_tree.specs.declared.segment.Segment.{Segment}
use Rattle.branch_tree.specs.Segments.{segments_in, segment_at, last_of}
use Rattle.std.proofs.lemmas.List.Elements.{All-nil}
use Rattle.market_types.specs.Told.{EntryTold}
use Rattle.market_types.specs.Timely.{IsTimely}
use Rattle.kernel_core.specs.Step.{Fits}
use Rattle.market_floor.specs.declared.opening.Opening.{Opening}
use Rattle.kernel_core.specs.State.{State}
use Rattle.kernel_core.specs.Open.{opened}
use Rattle.kernel_core.specs.Until.{Run}
use Rattle.kernel_copy.specs.Segmentwise.{started_from, segment_end}
use Rattle.kernel_copy.specs.Courses.{CourseTold}
use Rattle.shelf_core.specs.Plan.{is_in}
use Rattle.shelf_core.proofs.Lists.{not_some, some_same}
use Rattle.branch_workers.specs.Layout.{end_key}
use Rattle.shelf_core.proofs.Staying.{stays_self}
use Rattle.branch_workers.specs.Runs.{run_at_start}
use Rattle.kernel_copy.proofs.Walks.{started-first, started-goes}
use Rattle.branch_workers.proofs.segment.kernel_at_start.Goals as goal

-- what holds always, where a result is an `Ok` too
on_ok_always : {T E P : Type 0} (r : Result T E) → P → OnOk r P
on_ok_always (Ok x) p = p
on_ok_always (Err e) p = tt

pub end_of-requires-clause-segment : goal.end_of-requires-clause-segment
end_of-requires-clause-segment g c = omega (arith, (c.segment-g.ensures.parent c.in-Some.parent c.in-Some.is).earlier)

pub go_on-requires-clause-segment : goal.go_on-requires-clause-segment
go_on-requires-clause-segment g c =
    let same = ap (λ (x : CourseTold). length (segments_in x.plan)) c.deref-course.ensures in
    omega (arith, (c.segment-g.ensures.parent c.in-Some.parent c.in-Some.is).earlier, c.requires.segment)

pub returns-in-Ok-go_on-clause-state : goal.returns-in-Ok-go_on-clause-state
returns-in-Ok-go_on-clause-state g c =
    let k : CourseTold = c.deref-course.result.now in
    let x = segment_at k.plan c.args.segment in
    let q = c.in-Some.parent in
    let some : x.parent ≡ Some q = sym (ap (λ (y : Segment). y.parent) c.segment-g.ensures.value) ∙ c.in-Some.is in
    c.in-Ok-go_on.ensures.state
    ∙ ap (λ (y : Segment). started_from k.opening k.plan y.branch (Some q)) c.segment-g.ensures.value
    ∙ sym (started-goes k.opening k.plan x q some)
    ∙ ap (λ (y : CourseTold). run_at_start y c.args.segment) c.deref-course.ensures

pub returns-in-Ok-go_on-clause-stays : goal.returns-in-Ok-go_on-clause-stays
returns-in-Ok-go_on-clause-stays g c = c.end_of.ensures.stays

pub returns-in-Ok-go_on-clause-found : goal.returns-in-Ok-go_on-clause-found
returns-in-Ok-go_on-clause-found g c = λ q is.
    let k : CourseTold = c.args.shift.now.course.now.value in
    let same = some_same c.in-Some.parent q
    (sym c.in-Some.is ∙ ap (λ (y : Segment). y.parent) c.segment-g.ensures.value ∙ ap (λ (x : CourseTold). (segment_at x.plan c.args.segment).parent) c.deref-course.ensures ∙ is) in
    subst (λ (n : ℕ). is_in (end_key k.plan n) c.end_of.new.seat.view.found ≡ true) same c.in-Ok.ensures.found

pub returns-in-Ok-go_on-clause-fits : goal.returns-in-Ok-go_on-clause-fits
returns-in-Ok-go_on-clause-fits g c = subst (λ (x : CourseTold). Fits x.opening c.go_on.new.kernel) c.deref-course.ensures c.go_on.ensures.fits

pub returns-in-Ok-go_on-clause-timely : goal.returns-in-Ok-go_on-clause-timely
returns-in-Ok-go_on-clause-timely g c = c.go_on.ensures.timely

pub end_of-requires-clause-seat : goal.end_of-requires-clause-seat
end_of-requires-clause-seat g c = c.requires.seat

pub end_of-requires-clause-shelf : goal.end_of-requires-clause-shelf
end_of-requires-clause-shelf g c = c.requires.shelf

pub returns-in-None-clause-state : goal.returns-in-None-clause-state
returns-in-None-clause-state g c =
    let k : CourseTold = c.deref-course.result.now in
    let x = segment_at k.plan c.args.segment in
    let none : x.parent ≡ None = sym (ap (λ (y : Segment). y.parent) c.segment-g.ensures.value) ∙ c.in-None.is in
    IfOk-weaker c.open.result (λ y. y ≡ opened c.opening.result.now) (λ y. record { state = y; entries = c.args.trace.now.list } ≡ run_at_start c.args.shift.now.course.now.value c.args.segment)
    (λ y is.
    ap (λ (s : State). let r : Run = record { state = s; entries = c.args.trace.now.list } in r) (is ∙ ap (λ (o : Opening). opened o) c.opening.ensures.value)
    ∙ ap (λ (es : List EntryTold). let r : Run = record { state = opened k.opening; entries = es } in r) c.requires.empty
    ∙ sym (started-first k.opening k.plan x none)
    ∙ ap (λ (z : CourseTold). run_at_start z c.args.segment) c.deref-course.ensures) c.open.ensures.opened

pub returns-in-None-clause-fits : goal.returns-in-None-clause-fits
returns-in-None-clause-fits g c =
    IfOk-weaker c.open.result (λ y. Fits c.opening.result.now y) (λ y. Fits c.args.shift.now.course.now.value.opening y)
    (λ y fits. subst (λ (x : CourseTold). Fits x.opening y) c.deref-course.ensures (subst (λ (o : Opening). Fits o y) c.opening.ensures.value fits)) c.open.ensures.fitting

pub returns-in-None-clause-stays : goal.returns-in-None-clause-stays
returns-in-None-clause-stays g c = stays_self c.args.seat.now.view

pub returns-in-None-clause-found : goal.returns-in-None-clause-found
returns-in-None-clause-found g c = on_ok_always c.open.result (λ q is. absurd (not_some q
    (sym c.in-None.is ∙ ap (λ (y : Segment). y.parent) c.segment-g.ensures.value ∙ ap (λ (x : CourseTold). (segment_at x.plan c.args.segment).parent) c.deref-course.ensures ∙ is)))

pub returns-in-None-clause-timely : goal.returns-in-None-clause-timely
returns-in-None-clause-timely g c = subst (λ (es : List EntryTold). All IsTimely es) (sym c.requires.empty) (All-nil IsTimely)

pub returns-in_default-clause-stays : goal.returns-in_default-clause-stays
returns-in_default-clause-stays g c = c.end_of.ensures.stays

pub returns-in_default-clause-timely : goal.returns-in_default-clause-timely
returns-in_default-clause-timely g c = subst (λ (es : List EntryTold). All IsTimely es) (sym c.requires.empty) (All-nil IsTimely)

pub returns-in_default-go_on-clause-stays : goal.returns-in_default-go_on-clause-stays
returns-in_default-go_on-clause-stays g c = c.end_of.ensures.stays

pub returns-in_default-go_on-clause-timely : goal.returns-in_default-go_on-clause-timely
returns-in_default-go_on-clause-timely g c = c.go_on.ensures.timely

pub end_of-requires-clause-unfinished : goal.end_of-requires-clause-unfinished
end_of-requires-clause-unfinished g c =
    let q = c.in-Some.parent in
    subst (λ (x : CourseTold). q < last_of x.plan.branches (segment_at x.plan q).branch) c.deref-course.ensures (c.segment-g.ensures.parent q c.in-Some.is).unfinished

pub go_on-requires-clause-branch : goal.go_on-requires-clause-branch
go_on-requires-clause-branch g c = c.segment-g.ensures.branch

pub go_on-requires-clause-end : goal.go_on-requires-clause-end
go_on-requires-clause-end g c =
    let q = c.in-Some.parent in
    c.in-Ok.ensures.state ∙ ap (λ (x : CourseTold). (segment_end x.opening x.plan (segment_at x.plan q)).state) (sym c.deref-course.ensures)
