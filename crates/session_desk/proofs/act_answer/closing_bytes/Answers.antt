use Rattle.std.proofs.Common.{◌≡◌, ◌∙◌, ap, sym, subst}
use Rattle.market_floor.specs.declared.opening.Opening.{Opening}
use Rattle.kernel_core.specs.State.{State}
use Rattle.kernel_core.specs.Step.{Fits}
use Rattle.kernel_copy.specs.Courses.{CourseTold}
use Rattle.session_desk.specs.Session.{SessionTold, standing}
use Rattle.session_desk.proofs.act_answer.closing_bytes.Goals as goal

pub closing_of-requires : goal.closing_of-requires
closing_of-requires c =
    let s : SessionTold = c.args.session.now in
    let reached = c.courses_stay_in_range.ensures.states (standing s) c.args.branch s.course.opening.limit c.course.ensures.session.tree c.requires.branch in
    let opening : c.opening.result.now ≡ s.course.opening = c.opening.ensures.value ∙ ap (λ (k : CourseTold). k.opening) (c.deref.ensures ∙ c.course.ensures.value) in
    subst (λ (o : Opening). Fits o c.args.kernel.now) (sym opening) (subst (λ (k : State). Fits s.course.opening k) (sym c.requires.state) reached.fits)
