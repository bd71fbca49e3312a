use Rattle.std.proofs.Common.{◌≡◌, IfOk, ap, ◌∙◌, subst}
use Rattle.branch_tree.specs.Segments.{segment_at}
use Rattle.kernel_core.specs.State.{State}
use Rattle.kernel_copy.specs.Courses.{CourseTold, CheckpointTold, state_at}
use Rattle.branch_workers.proofs.Ends.{key_is, has_place, end_state_of}
use Rattle.branch_workers.proofs.segment.end_of.Goals as goal

pub wait_for-requires-clause-place : goal.wait_for-requires-clause-place
wait_for-requires-clause-place g c =
    let k : CourseTold = c.args.shift.now.course.now.value in
    let s = c.args.segment in
    let is = c.segment-stop.ensures.value ∙ ap (λ (x : CourseTold). segment_at x.plan s) c.deref.ensures in
    (has_place k c.args.shift.now.stride c.args.shift.now.shelf.now s (record { segment = s; event = c.number_of_end-event.result }) c.requires.shelf c.requires.segment c.requires.unfinished
    (key_is k s c.number_of_end-event.result c.segment-stop.result is c.number_of_end-event.ensures)).0

pub returns-clause-state : goal.returns-clause-state
returns-clause-state g c =
    let k : CourseTold = c.args.shift.now.course.now.value in
    let s = c.args.segment in
    let f = c.in-Ok.ensures.found in
    let is = c.segment-stop.ensures.value ∙ ap (λ (x : CourseTold). segment_at x.plan s) c.deref.ensures in
    let key = key_is k s c.number_of_end-event.result c.segment-stop.result is c.number_of_end-event.ensures in
    let state = end_state_of k s c.in-Ok.end.value (f.0 ∙ key) (f.1 ∙ c.requires.shelf.course) in
    subst (λ (y : State). IfOk c.resume-kernel.result (λ (z : State). z ≡ y)) (ap (λ (t : CheckpointTold). state_at t.course t.key) c.deref-2.ensures ∙ state) c.resume-kernel.ensures.state

pub returns-clause-same : goal.returns-clause-same
returns-clause-same g c = c.wait_for.ensures.same

pub returns-clause-stays : goal.returns-clause-stays
returns-clause-stays g c = c.wait_for.ensures.stays

pub returns-clause-turns : goal.returns-clause-turns
returns-clause-turns g c = c.wait_for.ensures.turns

pub returns-in_default-clause-same : goal.returns-in_default-clause-same
returns-in_default-clause-same g c = c.wait_for.ensures.same

pub returns-in_default-clause-stays : goal.returns-in_default-clause-stays
returns-in_default-clause-stays g c = c.wait_for.ensures.stays

pub returns-in_default-clause-turns : goal.returns-in_default-clause-turns
returns-in_default-clause-turns g c = c.wait_for.ensures.turns

pub wait_for-requires-clause-seat : goal.wait_for-requires-clause-seat
wait_for-requires-clause-seat g c = c.requires.seat
