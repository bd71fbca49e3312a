use Rattle.std.proofs.Common.{◌≡◌, ℕ, Bool, true, true≢false, not, Option, is_some, sym, ap, ◌∙◌, subst, arith, refl}
use Rattle.kernel_copy.specs.Courses.{CourseTold, IsCourse}
use Rattle.kernel_copy.specs.Ran.{RanTold, ran_told}
use Rattle.shelf_core.proofs.Staying.{stays_self}
use Rattle.branch_workers.proofs.Grids.{sole_place}
use Rattle.branch_workers.proofs.Underway.{number_is_key, state_there, passed_events}
use Rattle.branch_workers.proofs.grid.pass.Goals as goal

pub returns-then-is_none-clause-known : goal.returns-then-is_none-clause-known
returns-then-is_none-clause-known g c = λ sole passed.
    let place : is_some c.place_of.result ≡ true = ap (λ (o : Option ℕ). is_some o) c.place_of.ensures ∙ sole_place c.args.shift.now.shelf.now.plan c.args.key sole in
    absurd (true≢false (sym place ∙ c.is_none.ensures ∙ ap (λ (b : Bool). not b) c.if-is_none.true))

pub returns-then-is_none-clause-ended : goal.returns-then-is_none-clause-ended
returns-then-is_none-clause-ended g c = λ e passed. true≢false e

pub returns-clause-ended : goal.returns-clause-ended
returns-clause-ended g c = λ e passed. true≢false e

pub returns-then-events-key-clause-ended : goal.returns-then-events-key-clause-ended
returns-then-events-key-clause-ended g c = λ e passed.
    let k : CourseTold = c.args.shift.now.course.now.value in
    let s = c.args.key.segment in
    let e = c.args.key.event in
    let x : RanTold = ran_told c.continue_to.new.ran in
    let course : IsCourse k = subst IsCourse c.deref.ensures c.know_course.ensures in
    let events = passed_events k s course c.requires.segment c.args.shift.now.keep e x c.in-Ok.ensures.ran passed in
    absurd (omega (arith, c.events.ensures, c.if-events-key.true))

pub returns-then-events-key-clause-known : goal.returns-then-events-key-clause-known
returns-then-events-key-clause-known g c = λ sole passed.
    let k : CourseTold = c.args.shift.now.course.now.value in
    let s = c.args.key.segment in
    let e = c.args.key.event in
    let x : RanTold = ran_told c.continue_to.new.ran in
    let course : IsCourse k = subst IsCourse c.deref.ensures c.know_course.ensures in
    let events = passed_events k s course c.requires.segment c.args.shift.now.keep e x c.in-Ok.ensures.ran passed in
    absurd (omega (arith, c.events.ensures, c.if-events-key.true))

pub shelve_copy-requires-clause-key : goal.shelve_copy-requires-clause-key
shelve_copy-requires-clause-key g c =
    let k : CourseTold = c.args.shift.now.course.now.value in
    let s = c.args.key.segment in
    let e = c.args.key.event in
    let x : RanTold = ran_told c.continue_to.new.ran in
    let course : IsCourse k = subst IsCourse c.deref.ensures c.know_course.ensures in
    let events : x.state.events ≡ e = omega (arith, c.events.ensures, c.if-events-key.false) in
    let key = number_is_key k s course c.requires.segment e c.requires.begins c.requires.within c.args.shift.now.keep x c.in-Ok.ensures.ran events in
    record { segment = key.segment; event = key.event }

pub shelve_copy-requires-clause-state : goal.shelve_copy-requires-clause-state
shelve_copy-requires-clause-state g c =
    let k : CourseTold = c.args.shift.now.course.now.value in
    let s = c.args.key.segment in
    let e = c.args.key.event in
    let x : RanTold = ran_told c.continue_to.new.ran in
    let course : IsCourse k = subst IsCourse c.deref.ensures c.know_course.ensures in
    let events : x.state.events ≡ e = omega (arith, c.events.ensures, c.if-events-key.false) in
    state_there k s course c.requires.segment e c.requires.begins c.requires.within c.args.shift.now.keep x c.in-Ok.ensures.ran events

pub returns-then-is_none-clause-stays : goal.returns-then-is_none-clause-stays
returns-then-is_none-clause-stays g c = stays_self c.args.seat.now.view

pub returns-in_default-clause-stays : goal.returns-in_default-clause-stays
returns-in_default-clause-stays g c = stays_self c.args.seat.now.view

pub returns-then-events-key-clause-stays : goal.returns-then-events-key-clause-stays
returns-then-events-key-clause-stays g c = stays_self c.args.seat.now.view

pub returns-in_default-shelve_copy-clause-stays : goal.returns-in_default-shelve_copy-clause-stays
returns-in_default-shelve_copy-clause-stays g c = c.shelve_copy.ensures.stays

pub returns-clause-stays : goal.returns-clause-stays
returns-clause-stays g c = c.shelve_copy.ensures.stays

pub returns-then-is_none-clause-few : goal.returns-then-is_none-clause-few
returns-then-is_none-clause-few g c =
    let u = c.requires.underway in
    omega (arith, ap (λ (x : RanTold). x.state.events) u.is, u.few)

pub returns-then-is_none-clause-underway : goal.returns-then-is_none-clause-underway
returns-then-is_none-clause-underway g c = c.requires.underway

pub returns-then-events-key-clause-underway : goal.returns-then-events-key-clause-underway
returns-then-events-key-clause-underway g c = c.in-Ok.ensures.underway

pub returns-clause-underway : goal.returns-clause-underway
returns-clause-underway g c = c.in-Ok.ensures.underway

pub returns-clause-known : goal.returns-clause-known
returns-clause-known g c = λ sole passed. c.in-Ok-shelve_copy.ensures.known sole

pub shelve_copy-requires-clause-claim : goal.shelve_copy-requires-clause-claim
shelve_copy-requires-clause-claim g c = c.requires.claim

pub continue_to-requires-clause-count : goal.continue_to-requires-clause-count
continue_to-requires-clause-count g c = c.requires.count

pub continue_to-requires-clause-most : goal.continue_to-requires-clause-most
continue_to-requires-clause-most g c = c.requires.within

pub continue_to-requires-clause-segment : goal.continue_to-requires-clause-segment
continue_to-requires-clause-segment g c = c.requires.segment

pub continue_to-requires-clause-underway : goal.continue_to-requires-clause-underway
continue_to-requires-clause-underway g c = c.requires.underway

pub returns-clause-few : goal.returns-clause-few
returns-clause-few g c = c.continue_to.ensures.few

pub returns-clause-grows : goal.returns-clause-grows
returns-clause-grows g c = c.continue_to.ensures.grows

pub returns-clause-ticks : goal.returns-clause-ticks
returns-clause-ticks g c = c.continue_to.ensures.ticks

pub returns-clause-same : goal.returns-clause-same
returns-clause-same g c = c.shelve_copy.ensures.same

pub returns-clause-turns : goal.returns-clause-turns
returns-clause-turns g c = c.shelve_copy.ensures.turns

pub returns-in_default-clause-few : goal.returns-in_default-clause-few
returns-in_default-clause-few g c = c.continue_to.ensures.few

pub returns-in_default-clause-grows : goal.returns-in_default-clause-grows
returns-in_default-clause-grows g c = c.continue_to.ensures.grows

pub returns-in_default-clause-ticks : goal.returns-in_default-clause-ticks
returns-in_default-clause-ticks g c = c.continue_to.ensures.ticks

pub returns-in_default-clause-turns : goal.returns-in_default-clause-turns
returns-in_default-clause-turns g c = c.requires.turns

pub returns-in_default-shelve_copy-clause-few : goal.returns-in_default-shelve_copy-clause-few
returns-in_default-shelve_copy-clause-few g c = c.continue_to.ensures.few

pub returns-in_default-shelve_copy-clause-grows : goal.returns-in_default-shelve_copy-clause-grows
returns-in_default-shelve_copy-clause-grows g c = c.continue_to.ensures.grows

pub returns-in_default-shelve_copy-clause-ticks : goal.returns-in_default-shelve_copy-clause-ticks
returns-in_default-shelve_copy-clause-ticks g c = c.continue_to.ensures.ticks

pub returns-in_default-shelve_copy-clause-same : goal.returns-in_default-shelve_copy-clause-same
returns-in_default-shelve_copy-clause-same g c = c.shelve_copy.ensures.same

pub returns-in_default-shelve_copy-clause-turns : goal.returns-in_default-shelve_copy-clause-turns
returns-in_default-shelve_copy-clause-turns g c = c.shelve_copy.ensures.turns

pub returns-then-events-key-clause-few : goal.returns-then-events-key-clause-few
returns-then-events-key-clause-few g c = c.continue_to.ensures.few

pub returns-then-events-key-clause-grows : goal.returns-then-events-key-clause-grows
returns-then-events-key-clause-grows g c = c.continue_to.ensures.grows

pub returns-then-events-key-clause-ticks : goal.returns-then-events-key-clause-ticks
returns-then-events-key-clause-ticks g c = c.continue_to.ensures.ticks

pub returns-then-events-key-clause-turns : goal.returns-then-events-key-clause-turns
returns-then-events-key-clause-turns g c = c.requires.turns

pub returns-then-is_none-clause-ticks : goal.returns-then-is_none-clause-ticks
returns-then-is_none-clause-ticks g c = refl

pub returns-then-is_none-clause-turns : goal.returns-then-is_none-clause-turns
returns-then-is_none-clause-turns g c = c.requires.turns

pub shelve_copy-requires-clause-course : goal.shelve_copy-requires-clause-course
shelve_copy-requires-clause-course g c = c.requires.course

pub shelve_copy-requires-clause-seat : goal.shelve_copy-requires-clause-seat
shelve_copy-requires-clause-seat g c = c.requires.seat

pub shelve_copy-requires-clause-turns : goal.shelve_copy-requires-clause-turns
shelve_copy-requires-clause-turns g c = c.requires.turns

pub shelve_copy-requires-clause-events : goal.shelve_copy-requires-clause-events
shelve_copy-requires-clause-events g c = omega (arith, c.events.ensures, c.if-events-key.false)
