use Rattle.std.proofs.Common.{◌≡◌, ap, ◌∙◌, sym, subst}
use Rattle.std.proofs.lemmas.Result.{IfOk-weaker}
use Rattle.shelf_core.specs.declared.plan.Key.{Key}
use Rattle.branch_tree.specs.Segments.{segment_at}
use Rattle.kernel_core.specs.State.{State}
use Rattle.kernel_core.specs.Step.{Fits}
use Rattle.kernel_copy.specs.Courses.{CourseTold, IsKeyOf, state_at}
use Rattle.kernel_copy.proofs.Trees.{course-tree}
use Rattle.kernel_copy.proofs.Walks.{planned-at}
use Rattle.rewind_desk.specs.Best.{count_at}
use Rattle.rewind_desk.specs.Reach.{RunsOn}
use Rattle.rewind_desk.proofs.Arrivals.{from-key, key-stands}
use Rattle.rewind_desk.proofs.reach.resumed.Goals as goal

pub returns-clause-segment : goal.returns-clause-segment
returns-clause-segment c =
    (subst (λ (x : CourseTold). IsKeyOf x c.args.near.key) c.requires.shelf c.requires.near.key).segment

pub returns-clause-fits : goal.returns-clause-fits
returns-clause-fits c =
    let k : CourseTold = c.args.course.now in
    let n = c.args.near in
    let kept = c.deref.result.now in
    let told = c.in-Some.ensures.some in
    let key : IsKeyOf k n.key = subst (λ (x : CourseTold). IsKeyOf x n.key) c.requires.shelf c.requires.near.key in
    let course = c.know_course.ensures in
    let same : state_at kept.course kept.key ≡ state_at k n.key =
    ap (λ (x : CourseTold). state_at x kept.key) (ap (λ x. x.course) c.deref.ensures ∙ told.2 ∙ c.requires.shelf)
    ∙ ap (λ (x : Key). state_at k x) (ap (λ x. x.key) c.deref.ensures ∙ told.1) in
    let under = (planned-at k.plan n.key.segment (course-tree k course) key.segment).branch in
    let fits = (c.courses_stay_in_range.ensures.states k (segment_at k.plan n.key.segment).branch (count_at k n.key) course under).fits in
    IfOk-weaker c.resume.result (λ x. x ≡ state_at kept.course kept.key) (λ x. Fits k.opening x)
    (λ x is. subst (λ (s : State). Fits k.opening s) (sym (is ∙ same ∙ (key-stands k n.key course key).state)) fits) c.resume.ensures.state

pub returns-clause-on : goal.returns-clause-on
returns-clause-on c =
    let k : CourseTold = c.args.course.now in
    let n = c.args.near in
    let kept = c.deref.result.now in
    let told = c.in-Some.ensures.some in
    let key : IsKeyOf k n.key = subst (λ (x : CourseTold). IsKeyOf x n.key) c.requires.shelf c.requires.near.key in
    let same : state_at kept.course kept.key ≡ state_at k n.key =
    ap (λ (x : CourseTold). state_at x kept.key) (ap (λ x. x.course) c.deref.ensures ∙ told.2 ∙ c.requires.shelf)
    ∙ ap (λ (x : Key). state_at k x) (ap (λ x. x.key) c.deref.ensures ∙ told.1) in
    IfOk-weaker c.resume.result (λ x. x ≡ state_at kept.course kept.key) (λ x. RunsOn k n.key.segment x)
    (λ x is. subst (λ (s : State). RunsOn k n.key.segment s) (sym (is ∙ same)) (from-key k n.key c.know_course.ensures key)) c.resume.ensures.state

pub returns-clause-events : goal.returns-clause-events
returns-clause-events c =
    let k : CourseTold = c.args.course.now in
    let n = c.args.near in
    let kept = c.deref.result.now in
    let told = c.in-Some.ensures.some in
    let same : state_at kept.course kept.key ≡ state_at k n.key =
    ap (λ (x : CourseTold). state_at x kept.key) (ap (λ x. x.course) c.deref.ensures ∙ told.2 ∙ c.requires.shelf)
    ∙ ap (λ (x : Key). state_at k x) (ap (λ x. x.key) c.deref.ensures ∙ told.1) in
    IfOk-weaker c.resume.result (λ x. x ≡ state_at kept.course kept.key) (λ x. x.events ≡ n.events)
    (λ x is. ap (λ (s : State). s.events) (is ∙ same) ∙ sym (c.requires.near.events ∙ ap (λ (x : CourseTold). count_at x n.key) c.requires.shelf)) c.resume.ensures.state
