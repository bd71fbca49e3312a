use Rattle.std.proofs.Common.{sym, ap, ◌∙◌, arith}
use Rattle.kernel_copy.specs.Courses.{CourseTold}
use Rattle.rewind_desk.specs.Best.{is_on}
use Rattle.rewind_desk.proofs.Bests.{kept-count, kept-key, kept-near, nearest-free, nearest-late, nearest-off}
use Rattle.rewind_desk.proofs.finding.near_at.Goals as goal

pub returns-in_default : goal.returns-in_default
returns-in_default c = nearest-free c.args.shelf.now c.args.last c.args.event c.args.key c.in_default.ensures.none

pub returns-then-near-event : goal.returns-then-near-event
returns-then-near-event c =
    let shelf = c.args.shelf.now in
    let told = c.in-Some.ensures.some in
    let of = ap (λ x. x.course) c.deref.ensures ∙ told.2 in
    let at = ap (λ x. x.key) c.deref.ensures ∙ told.1 in
    let count = kept-count shelf c.args.key c.deref.result.now c.counted-near.result.events at of c.counted-near.ensures.events in
    nearest-late shelf c.args.last c.args.event c.args.key (kept-key shelf c.args.key c.deref.result.now c.counted-near.result at of c.counted-near.ensures.key c.counted-near.ensures.of) (omega (arith, count, c.if-near-event.true))

pub returns-then-not-is_on_chain : goal.returns-then-not-is_on_chain
returns-then-not-is_on_chain c =
    let shelf = c.args.shelf.now in
    let s = c.args.last in
    let told = c.in-Some.ensures.some in
    let of = ap (λ x. x.course) c.deref.ensures ∙ told.2 in
    let at = ap (λ x. x.key) c.deref.ensures ∙ told.1 in
    let off = ap (λ (x : CourseTold). is_on x.plan s c.args.key.segment) c.requires.shelf ∙ sym c.is_on_chain.ensures ∙ c.if-not-is_on_chain.true in
    nearest-off shelf s c.args.event c.args.key (kept-key shelf c.args.key c.deref.result.now c.counted-near.result at of c.counted-near.ensures.key c.counted-near.ensures.of) off

pub returns : goal.returns
returns c =
    let shelf = c.args.shelf.now in
    let s = c.args.last in
    let told = c.in-Some.ensures.some in
    let of = ap (λ x. x.course) c.deref.ensures ∙ told.2 in
    let at = ap (λ x. x.key) c.deref.ensures ∙ told.1 in
    kept-near shelf s c.args.event c.args.key c.deref.result.now c.counted-near.result told.0 at of c.counted-near.ensures.key c.counted-near.ensures.events c.counted-near.ensures.of
    (omega (arith, c.if-near-event.false)) (ap (λ (x : CourseTold). is_on x.plan s c.args.key.segment) c.requires.shelf ∙ sym c.is_on_chain.ensures ∙ c.if-not-is_on_chain.false)
