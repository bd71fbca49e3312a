use Rattle.std.proofs.Common.{◌≡◌, ◌<◌, ◌≤◌, ◌+◌, ℕ, inr, min, ap, sym, ◌∙◌, subst, arith}
use Rattle.market_floor.specs.declared.opening.Opening.{Opening}
use Rattle.kernel_copy.specs.Courses.{CourseTold}
use Rattle.rewind_desk.specs.Best.{best}
use Rattle.session_desk.specs.Anchors.{anchor_of, shared_count}
use Rattle.session_desk.specs.Session.{full_in, last_event_in}
use Rattle.session_desk.proofs.Along.{reached-event, reached-last}
use Rattle.session_desk.proofs.Refused.{not-refused, refused-branch, refused-event}
use Rattle.session_desk.proofs.session.Session.state.Goals as goal

pub returns-then-events-event-clause-refused : goal.returns-then-events-event-clause-refused
returns-then-events-event-clause-refused g c =
    let s = c.args.self.now in
    let b = c.args.branch in
    let e = c.args.event in
    let k = c.in-Ok.kernel in
    let limit : c.opening.result.now.limit ≡ s.course.opening.limit =
    ap (λ (o : Opening). o.limit) (c.opening.ensures.value ∙ ap (λ (x : CourseTold). x.opening) (c.deref.ensures ∙ c.course.ensures.value)) in
    let most : c.min-most.result ≡ min e s.course.opening.limit = omega (arith, limit, c.min-most.ensures) in
    let less : k.events < e = omega (arith, c.events-events.ensures, c.if-events-event.true) in
    let last = reached-last s b e c.min-most.result k most c.in-Ok.ensures.state less c.in-Ok.ensures.early in
    inr (refused-event s b e c.events-events.result (c.lacks.ensures.there c.if-lacks.false) (c.events-events.ensures ∙ last) c.if-events-event.true)

pub returns-else-events-event-clause-made : goal.returns-else-events-event-clause-made
returns-else-events-event-clause-made g c =
    let s = c.args.self.now in
    let b = c.args.branch in
    let e = c.args.event in
    let k = c.in-Ok.kernel in
    let limit : c.opening.result.now.limit ≡ s.course.opening.limit =
    ap (λ (o : Opening). o.limit) (c.opening.ensures.value ∙ ap (λ (x : CourseTold). x.opening) (c.deref.ensures ∙ c.course.ensures.value)) in
    let most : c.min-most.result ≡ min e s.course.opening.limit = omega (arith, limit, c.min-most.ensures) in
    let there = reached-event s b e c.min-most.result k most c.in-Ok.ensures.state (omega (arith, c.events-events.ensures, c.if-events-event.false)) c.in-Ok.ensures.early in
    not-refused s b e (c.lacks.ensures.there c.if-lacks.false) there.1

pub returns-else-events-event-clause-rose : goal.returns-else-events-event-clause-rose
returns-else-events-event-clause-rose g c =
    let s = c.args.self.now in
    let b = c.args.branch in
    let e = c.args.event in
    let k = c.in-Ok.kernel in
    let limit : c.opening.result.now.limit ≡ s.course.opening.limit =
    ap (λ (o : Opening). o.limit) (c.opening.ensures.value ∙ ap (λ (x : CourseTold). x.opening) (c.deref.ensures ∙ c.course.ensures.value)) in
    let most : c.min-most.result ≡ min e s.course.opening.limit = omega (arith, limit, c.min-most.ensures) in
    let high : e ≤ k.events = omega (arith, c.events-events.ensures, c.if-events-event.false) in
    let there = reached-event s b e c.min-most.result k most c.in-Ok.ensures.state high c.in-Ok.ensures.early in
    let same : k.events ≡ e = omega (arith, high, c.in-Ok.ensures.early, there.0) in
    sym (ap (λ (n : ℕ). c.reach.new.steps + best c.args.shelf.now (anchor_of s b) (shared_count s b n)) there.0) ∙ c.in-Ok.ensures.ticks ∙ ap (λ (n : ℕ). c.args.steps.now + n) same

pub returns-then-lacks-clause-refused : goal.returns-then-lacks-clause-refused
returns-then-lacks-clause-refused g c = inr (refused-branch c.args.self.now c.args.branch c.args.event (c.lacks.ensures.lacking c.if-lacks.true))

pub reach-requires-clause-exists : goal.reach-requires-clause-exists
reach-requires-clause-exists g c = c.lacks.ensures.there c.if-lacks.false

pub reach-requires-clause-within : goal.reach-requires-clause-within
reach-requires-clause-within g c =
    let s = c.args.self.now in
    let limit : c.opening.result.now.limit ≡ s.course.opening.limit =
    ap (λ (o : Opening). o.limit) (c.opening.ensures.value ∙ ap (λ (x : CourseTold). x.opening) (c.deref.ensures ∙ c.course.ensures.value)) in
    omega (arith, limit, c.min-most.ensures)

pub reach-requires-clause-count : goal.reach-requires-clause-count
reach-requires-clause-count g c =
    let s = c.args.self.now in
    let limit : c.opening.result.now.limit ≡ s.course.opening.limit =
    ap (λ (o : Opening). o.limit) (c.opening.ensures.value ∙ ap (λ (x : CourseTold). x.opening) (c.deref.ensures ∙ c.course.ensures.value)) in
    omega (arith, limit, c.min-most.ensures, c.requires.count)

pub returns-else-events-event-clause-state : goal.returns-else-events-event-clause-state
returns-else-events-event-clause-state g c =
    let s = c.args.self.now in
    let b = c.args.branch in
    let e = c.args.event in
    let k = c.in-Ok.kernel in
    let limit : c.opening.result.now.limit ≡ s.course.opening.limit =
    ap (λ (o : Opening). o.limit) (c.opening.ensures.value ∙ ap (λ (x : CourseTold). x.opening) (c.deref.ensures ∙ c.course.ensures.value)) in
    let most : c.min-most.result ≡ min e s.course.opening.limit = omega (arith, limit, c.min-most.ensures) in
    let there = reached-event s b e c.min-most.result k most c.in-Ok.ensures.state (omega (arith, c.events-events.ensures, c.if-events-event.false)) c.in-Ok.ensures.early in
    c.in-Ok.ensures.state ∙ ap (λ (n : ℕ). (full_in s b n).state) there.0

pub returns-then-events-event-clause-no_branch : goal.returns-then-events-event-clause-no_branch
returns-then-events-event-clause-no_branch g c = λ h. absurd (omega (arith, h, c.lacks.ensures.there c.if-lacks.false))

pub returns-then-events-event-clause-unmoved : goal.returns-then-events-event-clause-unmoved
returns-then-events-event-clause-unmoved g c = λ h. absurd (omega (arith, h, c.lacks.ensures.there c.if-lacks.false))

pub returns-then-events-event-clause-most : goal.returns-then-events-event-clause-most
returns-then-events-event-clause-most g c =
    let s = c.args.self.now in
    let limit : c.opening.result.now.limit ≡ s.course.opening.limit =
    ap (λ (o : Opening). o.limit) (c.opening.ensures.value ∙ ap (λ (x : CourseTold). x.opening) (c.deref.ensures ∙ c.course.ensures.value)) in
    omega (arith, limit, c.min-most.ensures, c.reach.ensures.most)

pub returns-else-events-event-clause-no_branch : goal.returns-else-events-event-clause-no_branch
returns-else-events-event-clause-no_branch g c = λ h. absurd (omega (arith, h, c.lacks.ensures.there c.if-lacks.false))

pub returns-else-events-event-clause-unmoved : goal.returns-else-events-event-clause-unmoved
returns-else-events-event-clause-unmoved g c = λ h. absurd (omega (arith, h, c.lacks.ensures.there c.if-lacks.false))

pub returns-else-events-event-clause-most : goal.returns-else-events-event-clause-most
returns-else-events-event-clause-most g c =
    let s = c.args.self.now in
    let limit : c.opening.result.now.limit ≡ s.course.opening.limit =
    ap (λ (o : Opening). o.limit) (c.opening.ensures.value ∙ ap (λ (x : CourseTold). x.opening) (c.deref.ensures ∙ c.course.ensures.value)) in
    omega (arith, limit, c.min-most.ensures, c.reach.ensures.most)

pub returns-in-Err-clause-no_branch : goal.returns-in-Err-clause-no_branch
returns-in-Err-clause-no_branch g c = λ h. absurd (omega (arith, h, c.lacks.ensures.there c.if-lacks.false))

pub returns-in-Err-clause-unmoved : goal.returns-in-Err-clause-unmoved
returns-in-Err-clause-unmoved g c = λ h. absurd (omega (arith, h, c.lacks.ensures.there c.if-lacks.false))

pub returns-in-Err-clause-most : goal.returns-in-Err-clause-most
returns-in-Err-clause-most g c =
    let s = c.args.self.now in
    let limit : c.opening.result.now.limit ≡ s.course.opening.limit =
    ap (λ (o : Opening). o.limit) (c.opening.ensures.value ∙ ap (λ (x : CourseTold). x.opening) (c.deref.ensures ∙ c.course.ensures.value)) in
    omega (arith, limit, c.min-most.ensures, c.reach.ensures.most)

pub returns-then-events-event-clause-past : goal.returns-then-events-event-clause-past
returns-then-events-event-clause-past g c =
    let s = c.args.self.now in
    let b = c.args.branch in
    let e = c.args.event in
    let k = c.in-Ok.kernel in
    let limit : c.opening.result.now.limit ≡ s.course.opening.limit =
    ap (λ (o : Opening). o.limit) (c.opening.ensures.value ∙ ap (λ (x : CourseTold). x.opening) (c.deref.ensures ∙ c.course.ensures.value)) in
    let most : c.min-most.result ≡ min e s.course.opening.limit = omega (arith, limit, c.min-most.ensures) in
    let less : k.events < e = omega (arith, c.events-events.ensures, c.if-events-event.true) in
    let last : k.events ≡ last_event_in s b = reached-last s b e c.min-most.result k most c.in-Ok.ensures.state less c.in-Ok.ensures.early in
    let ticks : c.reach.new.steps + best c.args.shelf.now (anchor_of s b) (shared_count s b k.events) ≡ c.args.steps.now + k.events =
    omega (arith, c.in-Ok.ensures.ticks, c.in-Ok.ensures.nearest) in
    λ h. subst (λ (n : ℕ). c.reach.new.steps + best c.args.shelf.now (anchor_of s b) (shared_count s b n) ≡ c.args.steps.now + n) last ticks
