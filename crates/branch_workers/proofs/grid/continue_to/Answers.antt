use Rattle.std.proofs.Common.{◌≤◌, ap, sym, ◌∙◌, subst, arith}
use Rattle.std.proofs.lemmas.Result.{on_ok_weaker}
use Rattle.branch_tree.specs.declared.segment.Segment.{Segment}
use Rattle.branch_tree.specs.Segments.{segment_at}
use Rattle.market_floor.specs.declared.opening.Opening.{Opening}
use Rattle.kernel_core.specs.Step.{Fits}
use Rattle.kernel_copy.specs.Courses.{CourseTold, IsCourse}
use Rattle.kernel_copy.specs.Ran.{RanTold, ran_told, ran_with}
use Rattle.kernel_copy.specs.Segmentwise.{afresh}
use Rattle.kernel_copy.specs.UntilStop.{until_part}
use Rattle.branch_workers.proofs.Underway.{goes_few, goes_to, goes_on, stop_within, underway_fits}
use Rattle.branch_workers.proofs.grid.continue_to.Goals as goal

pub run_to-requires-clause-fits : goal.run_to-requires-clause-fits
run_to-requires-clause-fits g c =
    let before : RanTold = ran_told c.args.ran.now in
    subst (λ (o : Opening). Fits o c.args.ran.now.kernel) (sym (c.opening.ensures.value ∙ ap (λ (x : CourseTold). x.opening) c.deref-2.ensures))
    (underway_fits c.args.shift.now.course.now.value c.args.shift.now.keep c.args.segment c.args.most before c.requires.underway)

pub run_to-requires-clause-count : goal.run_to-requires-clause-count
run_to-requires-clause-count g c = omega (arith, c.requires.count, c.requires.most)

pub returns-clause-ran : goal.returns-clause-ran
returns-clause-ran g c =
    let k : CourseTold = c.args.shift.now.course.now.value in
    let segment = c.segment-stop.ensures.value ∙ ap (λ (x : CourseTold). segment_at x.plan c.args.segment) c.deref.ensures in
    let opening = c.opening.ensures.value ∙ ap (λ (x : CourseTold). x.opening) c.deref-2.ensures in
    let within = stop_within k c.args.segment (subst IsCourse c.deref.ensures c.segment-stop.ensures.course) c.requires.segment in
    let e = c.args.most in
    let before : RanTold = ran_told c.args.ran.now in
    let after : RanTold = ran_told c.run_to.new.self in
    on_ok_weaker c.run_to.result (λ ran. goes_to k c.args.shift.now.keep c.args.segment e before after within c.requires.most c.requires.underway
    (ran
    ∙ ap (λ (o : Opening). ran_with before (until_part o c.segment-stop.result.stop e (afresh before.state))) opening
    ∙ ap (λ (x : Segment). ran_with before (until_part k.opening x.stop e (afresh before.state))) segment)) c.run_to.ensures.ran

pub returns-clause-underway : goal.returns-clause-underway
returns-clause-underway g c =
    let k : CourseTold = c.args.shift.now.course.now.value in
    let segment = c.segment-stop.ensures.value ∙ ap (λ (x : CourseTold). segment_at x.plan c.args.segment) c.deref.ensures in
    let opening = c.opening.ensures.value ∙ ap (λ (x : CourseTold). x.opening) c.deref-2.ensures in
    let within = stop_within k c.args.segment (subst IsCourse c.deref.ensures c.segment-stop.ensures.course) c.requires.segment in
    let e = c.args.most in
    let before : RanTold = ran_told c.args.ran.now in
    let after : RanTold = ran_told c.run_to.new.self in
    on_ok_weaker c.run_to.result (λ ran. goes_on k c.args.shift.now.keep c.args.segment e before after within c.requires.most c.requires.underway
    (ran
    ∙ ap (λ (o : Opening). ran_with before (until_part o c.segment-stop.result.stop e (afresh before.state))) opening
    ∙ ap (λ (x : Segment). ran_with before (until_part k.opening x.stop e (afresh before.state))) segment)
    (subst (λ (o : Opening). Fits o after.state) opening c.run_to.ensures.fitting)) c.run_to.ensures.ran

pub returns-clause-few : goal.returns-clause-few
returns-clause-few g c =
    let k : CourseTold = c.args.shift.now.course.now.value in
    let segment = c.segment-stop.ensures.value ∙ ap (λ (x : CourseTold). segment_at x.plan c.args.segment) c.deref.ensures in
    let opening = c.opening.ensures.value ∙ ap (λ (x : CourseTold). x.opening) c.deref-2.ensures in
    let within = stop_within k c.args.segment (subst IsCourse c.deref.ensures c.segment-stop.ensures.course) c.requires.segment in
    let e = c.args.most in
    let before : RanTold = ran_told c.args.ran.now in
    let n = c.run_to.new.self.kernel.events in
    goes_few k c.args.shift.now.keep c.args.segment e before before within c.requires.most c.requires.underway n
    (subst (λ (x : Segment). n ≤ (until_part k.opening x.stop e (afresh before.state)).state.events) segment
    (subst (λ (o : Opening). n ≤ (until_part o c.segment-stop.result.stop e (afresh before.state)).state.events) opening c.run_to.ensures.within))
