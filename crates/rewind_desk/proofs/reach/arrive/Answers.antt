use Rattle.std.proofs.Common.{sym, ap, ◌∙◌, arith, subst}
use Rattle.branch_tree.specs.declared.segment.Segment.{Segment}
use Rattle.branch_tree.specs.declared.stop.Stop.{Stop}
use Rattle.market_floor.specs.declared.opening.Opening.{Opening}
use Rattle.kernel_core.specs.State.{State}
use Rattle.kernel_core.specs.Step.{Fits}
use Rattle.kernel_copy.specs.Courses.{CourseTold}
use Rattle.kernel_copy.specs.Ran.{RanTold}
use Rattle.kernel_copy.specs.Segmentwise.{afresh}
use Rattle.kernel_copy.specs.UntilStop.{until_part}
use Rattle.rewind_desk.specs.Reach.{has_more}
use Rattle.rewind_desk.proofs.Arrivals.{arrives}
use Rattle.rewind_desk.proofs.Halting.{part-within}
use Rattle.rewind_desk.proofs.reach.arrive.Goals as goal

pub run_to-requires-clause-fits : goal.run_to-requires-clause-fits
run_to-requires-clause-fits g c = subst (λ (o : Opening). Fits o c.args.kernel) (sym c.opening-o.ensures.value) c.requires.fits

pub returns-in_default-clause-most : goal.returns-in_default-clause-most
returns-in_default-clause-most g c =
    omega (arith, part-within c.opening-o.result.now c.segment-stop.result.stop c.args.event (afresh c.args.kernel) c.requires.early, c.run_to.ensures.ticks, c.run_to.ensures.within)

pub returns-clause-most : goal.returns-clause-most
returns-clause-most g c =
    omega (arith, part-within c.opening-o.result.now c.segment-stop.result.stop c.args.event (afresh c.args.kernel) c.requires.early, c.run_to.ensures.ticks, c.run_to.ensures.within)

pub returns-clause-at : goal.returns-clause-at
returns-clause-at g c =
    let k : CourseTold = c.args.course.now in
    let y : State = c.run_to.new.self.kernel in
    let value = c.opening-o.ensures.value in
    let stop = ap (λ (x : Segment). x.stop) c.segment-stop.ensures.value in
    arrives k c.args.segment c.args.event c.args.kernel y c.has_more-more.result c.requires.on c.requires.early c.requires.within
    (ap (λ (x : RanTold). x.state) c.in-Ok.ensures.ran
    ∙ ap (λ (o : Opening). (until_part o c.segment-stop.result.stop c.args.event (afresh c.args.kernel)).state) value
    ∙ ap (λ (x : Stop). (until_part k.opening x c.args.event (afresh c.args.kernel)).state) stop)
    (c.has_more-more.ensures ∙ ap (λ (o : Opening). has_more o c.segment-stop.result.stop y) value ∙ ap (λ (x : Stop). has_more k.opening x y) stop)
