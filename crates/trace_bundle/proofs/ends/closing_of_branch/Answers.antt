use Rattle.std.proofs.Common.{◌≡◌, ◌≤◌, length, All, ap, ◌∙◌, sym, subst, arith}
use Rattle.std.proofs.lemmas.List.Elements.{All-weaker}
use Rattle.bundle_frames.specs.declared.closing.Closing.{Closing}
use Rattle.bundle_frames.specs.declared.closing.ClosingAgent.{ClosingAgent}
use Rattle.bundle_frames.specs.Frames.{HasFewPositions}
use Rattle.branch_tree.specs.Segments.{segment_at}
use Rattle.kernel_core.specs.Until.{Run}
use Rattle.kernel_copy.specs.Courses.{CourseTold}
use Rattle.kernel_copy.specs.Segmentwise.{segment_end}
use Rattle.kernel_copy.specs.Closing.{closing_at}
use Rattle.trace_bundle.proofs.Sending.{full-end}
use Rattle.trace_bundle.proofs.ends.closing_of_branch.Goals as goal

pub returns-clause-value : goal.returns-clause-value
returns-clause-value g c =
    let k : CourseTold = c.args.course.now in
    let s = c.last_segment.result in
    c.closing.ensures ∙ c.requires.ran.closing s c.last_segment.ensures.exists
    ∙ ap (λ (r : Run). closing_at k.opening r.state) (full-end k c.args.branch s c.know_course.ensures c.requires.branch c.last_segment.ensures.last)

pub returns-clause-few : goal.returns-clause-few
returns-clause-few g c =
    let k : CourseTold = c.args.course.now in
    let s = c.last_segment.result in
    let state = (segment_end k.opening k.plan (segment_at k.plan s)).state in
    let course = c.know_course.ensures in
    let reached = c.courses_stay_in_range.ensures.ends k s course c.last_segment.ensures.exists in
    let few : length state.floor.exchange.stocks ≤ 16 = omega (arith, course.opening.market.few, reached.fits.stocks) in
    let all = All-weaker (λ (a : ClosingAgent). length a.positions ≡ length state.floor.exchange.stocks) HasFewPositions
    (λ a q. omega (arith, q, few)) (closing_at k.opening state).agents (c.agents_have_all_positions.ensures k.opening state) in
    subst (λ (x : Closing). All HasFewPositions x.agents) (sym (c.closing.ensures ∙ c.requires.ran.closing s c.last_segment.ensures.exists)) all

pub returns-clause-early : goal.returns-clause-early
returns-clause-early g c =
    let k : CourseTold = c.args.course.now in
    let s = c.last_segment.result in
    let course = c.know_course.ensures in
    let reached = c.courses_stay_in_range.ensures.ends k s course c.last_segment.ensures.exists in
    let state = (segment_end k.opening k.plan (segment_at k.plan s)).state in
    let time : c.closing.result.now.counts.time ≡ state.time = ap (λ (x : Closing). x.counts.time) (c.closing.ensures ∙ c.requires.ran.closing s c.last_segment.ensures.exists) in
    omega (arith, time, reached.close, course.opening.close)
