use Rattle.std.proofs.Common.{sym, subst}
use Rattle.market_floor.specs.declared.opening.Opening.{Opening}
use Rattle.kernel_core.specs.State.{State}
use Rattle.kernel_core.specs.Step.{Fits}
use Rattle.kernel_copy.specs.Courses.{CourseTold}
use Rattle.abides_run.proofs.rewinds.target_bytes.Goals as goal

pub state_frames-requires : goal.state_frames-requires
state_frames-requires c =
    let k : CourseTold = c.args.course.now in
    let t = c.args.target in
    let reached = c.courses_stay_in_range.ensures.states k t.branch t.event c.opening.ensures.course c.requires.branch in
    subst (λ (o : Opening). Fits o c.args.kernel.now) (sym c.opening.ensures.value) (subst (λ (s : State). Fits k.opening s) (sym c.requires.state) reached.fits)
