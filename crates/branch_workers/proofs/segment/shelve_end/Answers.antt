use Rattle.std.proofs.Common.{◌≡◌, ◌<◌, ℕ, true, Option, Some, Global, option_map, sym, ap, ◌∙◌, subst}
use Rattle.std.specs.declared.sync.Arc.{Arc}
use Rattle.kernel_copy.specs.declared.checkpoint.Checkpoint.{Checkpoint}
use Rattle.kernel_copy.specs.Courses.{CourseTold, CheckpointTold, kept_of}
use Rattle.shelf_core.specs.declared.plan.Key.{Key}
use Rattle.shelf_core.specs.Plan.{is_in}
use Rattle.shelf_core.specs.Views.{times}
use Rattle.shelf_core.proofs.Staying.{stays_self}
use Rattle.branch_workers.proofs.Ends.{kept_is, kept_none, has_place}
use Rattle.branch_workers.proofs.segment.shelve_end.Goals as goal

abbrev told : Option (Arc Checkpoint Global) → Option CheckpointTold
told o = option_map (λ (a : Arc Checkpoint Global). a.value) o

pub shelve-requires-clause-place : goal.shelve-requires-clause-place
shelve-requires-clause-place g c =
    let k : CourseTold = c.args.shift.now.course.now.value in
    let x : CheckpointTold = c.in-Some.end.value in
    let kept : Some x ≡ kept_of k c.args.segment = sym (ap told c.in-Some.is) ∙ c.in_ok-end.ensures in
    let is = kept_is k c.args.segment x kept in
    (has_place k c.args.shift.now.stride c.args.shift.now.shelf.now c.args.segment x.key c.requires.shelf c.requires.segment is.1 (ap (λ (y : CheckpointTold). y.key) is.0)).0

pub shelve-requires-clause-sole : goal.shelve-requires-clause-sole
shelve-requires-clause-sole g c =
    let k : CourseTold = c.args.shift.now.course.now.value in
    let x : CheckpointTold = c.in-Some.end.value in
    let kept : Some x ≡ kept_of k c.args.segment = sym (ap told c.in-Some.is) ∙ c.in_ok-end.ensures in
    let is = kept_is k c.args.segment x kept in
    (has_place k c.args.shift.now.stride c.args.shift.now.shelf.now c.args.segment x.key c.requires.shelf c.requires.segment is.1 (ap (λ (y : CheckpointTold). y.key) is.0)).1

pub shelve-requires-clause-claim : goal.shelve-requires-clause-claim
shelve-requires-clause-claim g c =
    let k : CourseTold = c.args.shift.now.course.now.value in
    let x : CheckpointTold = c.in-Some.end.value in
    let kept : Some x ≡ kept_of k c.args.segment = sym (ap told c.in-Some.is) ∙ c.in_ok-end.ensures in
    let is = (kept_is k c.args.segment x kept).0 in
    subst (λ (s : ℕ). 0 < times s c.args.seat.now.view.claims) (sym (ap (λ (y : CheckpointTold). y.key.segment) is)) c.requires.claim

pub returns-clause-known : goal.returns-clause-known
returns-clause-known g c = λ less.
    let k : CourseTold = c.args.shift.now.course.now.value in
    let x : CheckpointTold = c.in-Some.end.value in
    let kept : Some x ≡ kept_of k c.args.segment = sym (ap told c.in-Some.is) ∙ c.in_ok-end.ensures in
    let is = (kept_is k c.args.segment x kept).0 in
    subst (λ (key : Key). is_in key c.shelve.new.seat.view.known ≡ true) (ap (λ (y : CheckpointTold). y.key) is) c.shelve.ensures.known

pub returns-clause-stays : goal.returns-clause-stays
returns-clause-stays g c = c.shelve.ensures.stays

pub returns-in_default-clause-stays : goal.returns-in_default-clause-stays
returns-in_default-clause-stays g c = stays_self c.args.seat.now.view

pub returns-in_err-end-clause-stays : goal.returns-in_err-end-clause-stays
returns-in_err-end-clause-stays g c = stays_self c.args.seat.now.view

pub returns-clause-same : goal.returns-clause-same
returns-clause-same g c = c.shelve.ensures.same

pub returns-clause-turns : goal.returns-clause-turns
returns-clause-turns g c = c.shelve.ensures.turns

pub shelve-requires-clause-seat : goal.shelve-requires-clause-seat
shelve-requires-clause-seat g c = c.requires.seat

pub shelve-requires-clause-turns : goal.shelve-requires-clause-turns
shelve-requires-clause-turns g c = c.requires.turns

pub kept_end-requires-clause-state : goal.kept_end-requires-clause-state
kept_end-requires-clause-state g c = c.requires.state

pub returns-in_default-clause-known : goal.returns-in_default-clause-known
returns-in_default-clause-known g c = λ less. absurd (kept_none c.args.shift.now.course.now.value c.args.segment (sym (ap told c.in_default.is) ∙ c.in_ok-end.ensures) less)

pub shelve-requires-clause-course : goal.shelve-requires-clause-course
shelve-requires-clause-course g c =
    let k : CourseTold = c.args.shift.now.course.now.value in
    let x : CheckpointTold = c.in-Some.end.value in
    let kept : Some x ≡ kept_of k c.args.segment = sym (ap told c.in-Some.is) ∙ c.in_ok-end.ensures in
    ap (λ (y : CheckpointTold). y.course) (kept_is k c.args.segment x kept).0 ∙ sym c.requires.shelf.course

pub kept_end-requires-clause-segment : goal.kept_end-requires-clause-segment
kept_end-requires-clause-segment g c = c.requires.segment
