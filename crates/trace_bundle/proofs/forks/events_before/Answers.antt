use Rattle.std.proofs.Common.{ℕ, Option, sym, ap, ◌∙◌}
use Rattle.bundle_frames.specs.declared.closing.Closing.{Closing}
use Rattle.kernel_copy.specs.Courses.{CourseTold}
use Rattle.kernel_copy.specs.Segmentwise.{parent_end}
use Rattle.trace_bundle.proofs.forks.events_before.Goals as goal

pub returns-in-None : goal.returns-in-None
returns-in-None g c =
    let k : CourseTold = c.args.course.now in
    ap (λ (x : Option ℕ). (parent_end k.opening k.plan x).state.events) (sym c.in-None.is ∙ c.origin.ensures.value)

pub returns-in-Some : goal.returns-in-Some
returns-in-Some g c =
    let k : CourseTold = c.args.course.now in
    let s = c.in-Some.segment in
    ap (λ (x : Closing). x.counts.events) (c.closing.ensures ∙ c.requires.ran.closing s (c.origin.ensures.exists s c.in-Some.is))
    ∙ ap (λ (x : Option ℕ). (parent_end k.opening k.plan x).state.events) (sym c.in-Some.is ∙ c.origin.ensures.value)
