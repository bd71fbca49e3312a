use Rattle.std.proofs.Common.{◌≡◌, ◌<◌, ◌≤◌, ℕ, length, sym, ap, ◌∙◌, subst, arith}
use Rattle.branch_tree.specs.declared.stop.Stop.{Stop}
use Rattle.branch_tree.specs.Stops.{number_of}
use Rattle.kernel_core.specs.State.{State}
use Rattle.kernel_core.specs.Until.{Run}
use Rattle.kernel_copy.specs.Courses.{CourseTold, IsCourse}
use Rattle.kernel_copy.specs.Full.{full}
use Rattle.kernel_copy.specs.Reached.{IsReached}
use Rattle.rewind_desk.specs.Best.{best}
use Rattle.session_desk.specs.Session.{standing}
use Rattle.session_desk.specs.Anchors.{anchor_of, shared_count}
use Rattle.session_desk.proofs.Along.{reach-onward}
use Rattle.session_desk.proofs.Anchors.{anchor-runs, is-anchor, is-further}
use Rattle.session_desk.proofs.Nearest.{near-onward, nearest-last, ticks-onward}
use Rattle.session_desk.proofs.walk.+reach.Goals as goal

pub reached-requires-clause-branch : goal.reached-requires-clause-branch
reached-requires-clause-branch g t c =
    let s = c.args.session.now in
    let b = c.args.branch in
    let course : c.deref.result.now ≡ s.course = c.deref.ensures ∙ c.course.ensures.value in
    let k = is-anchor s b c.course.ensures.session c.requires.exists (sym c.is_kept.ensures ∙ c.if-is_kept.true) in
    subst (λ (x : CourseTold). b < length x.plan.branches) (sym course) k.there

pub returns-then-is_kept-clause-state : goal.returns-then-is_kept-clause-state
returns-then-is_kept-clause-state g t c =
    let s = c.args.session.now in
    let b = c.args.branch in
    let e = c.args.event in
    let course : c.deref.result.now ≡ s.course = c.deref.ensures ∙ c.course.ensures.value in
    let k = is-anchor s b c.course.ensures.session c.requires.exists (sym c.is_kept.ensures ∙ c.if-is_kept.true) in
    let few : e ≤ c.deref.result.now.opening.limit = subst (λ (x : CourseTold). e ≤ x.opening.limit) (sym course) c.requires.within in
    c.in-Ok.ensures.along few
    ∙ ap (λ (x : CourseTold). (full x.opening x.plan b e).state) course
    ∙ ap (λ (r : Run). r.state) (anchor-runs s b e k)

pub returns-then-is_kept-clause-ticks : goal.returns-then-is_kept-clause-ticks
returns-then-is_kept-clause-ticks g t c =
    let s = c.args.session.now in
    let b = c.args.branch in
    let e = c.args.event in
    let shelf = c.args.shelf.now in
    let k = is-anchor s b c.course.ensures.session c.requires.exists (sym c.is_kept.ensures ∙ c.if-is_kept.true) in
    let same : best shelf (anchor_of s b) (shared_count s b e) ≡ best shelf b e =
    ap (λ (a : ℕ). best shelf a (shared_count s b e)) k.anchor ∙ ap (λ (n : ℕ). best shelf b n) (k.shared e) in
    omega (arith, same, c.in-Ok.ensures.ticks, c.in-Ok.ensures.from)

pub returns-then-is_kept-clause-nearest : goal.returns-then-is_kept-clause-nearest
returns-then-is_kept-clause-nearest g t c =
    let s = c.args.session.now in
    let b = c.args.branch in
    let e = c.args.event in
    let shelf = c.args.shelf.now in
    let events = c.in-Ok.found.kernel.events in
    let course : c.deref.result.now ≡ s.course = c.deref.ensures ∙ c.course.ensures.value in
    let h = c.course.ensures.session in
    let k = is-anchor s b h c.requires.exists (sym c.is_kept.ensures ∙ c.if-is_kept.true) in
    let study : IsCourse c.deref.result.now = subst (λ (x : CourseTold). IsCourse x) (sym course) h.study in
    let under : b < length c.deref.result.now.plan.branches = subst (λ (x : CourseTold). b < length x.plan.branches) (sym course) k.there in
    let last = nearest-last shelf c.deref.result.now b e events (c.requires.shelf ∙ sym course) study c.reached.ensures.keys under c.in-Ok.ensures.within c.in-Ok.ensures.whole in
    ap (λ (a : ℕ). best shelf a (shared_count s b events)) k.anchor ∙ ap (λ (n : ℕ). best shelf b n) (k.shared events)
    ∙ last
    ∙ sym (ap (λ (a : ℕ). best shelf a (shared_count s b e)) k.anchor ∙ ap (λ (n : ℕ). best shelf b n) (k.shared e))

pub reach-requires : goal.reach-requires
reach-requires g t c κs within =
    let s = c.args.session.now in
    let b = c.args.branch in
    let f = is-further s b c.parent_of-parent.ensures.session c.requires.exists (sym c.is_kept.ensures ∙ c.if-is_kept.false) in
    let earlier : c.parent_of-parent.result < b = c.parent_of-parent.ensures.earlier f.later in
    (omega (arith, earlier, c.decreases), (within, (omega (arith, earlier, c.requires.exists), (c.requires.shelf, (omega (arith, c.min-before.ensures, c.requires.within), omega (arith, c.min-before.ensures, c.requires.count))))))

pub go_onward-requires-clause-reached : goal.go_onward-requires-clause-reached
go_onward-requires-clause-reached g t c =
    let s = c.args.session.now in
    let b = c.args.branch in
    let h = c.parent_of-parent.ensures.session in
    let f = is-further s b h c.requires.exists (sym c.is_kept.ensures ∙ c.if-is_kept.false) in
    let earlier : c.parent_of-parent.result < b = c.parent_of-parent.ensures.earlier f.later in
    subst (λ (k : State). IsReached s.course.opening 4080 k) (sym c.in-Ok-reach.ensures.state)
    (c.courses_stay_in_range.ensures.states (standing s) c.parent_of-parent.result c.min-before.result h.tree (omega (arith, earlier, c.requires.exists)))

pub returns-clause-state : goal.returns-clause-state
returns-clause-state g t c =
    let s = c.args.session.now in
    let b = c.args.branch in
    let h = c.parent_of-parent.ensures.session in
    let f = is-further s b h c.requires.exists (sym c.is_kept.ensures ∙ c.if-is_kept.false) in
    let first : Run = record { state = c.in-Ok-reach.kernel; entries = c.new-trace.result.list } in
    ap (λ (r : Run). r.state) c.in-Ok-go_onward.ensures.ran
    ∙ reach-onward s b c.args.event c.stop_of.result c.parent_of-parent.result c.min-before.result first h f.later c.requires.exists c.stop_of.ensures c.requires.within c.parent_of-parent.ensures.value c.min-before.ensures
    c.in-Ok-reach.ensures.state

pub returns-clause-ticks : goal.returns-clause-ticks
returns-clause-ticks g t c =
    let s = c.args.session.now in
    let b = c.args.branch in
    let f = is-further s b c.parent_of-parent.ensures.session c.requires.exists (sym c.is_kept.ensures ∙ c.if-is_kept.false) in
    let is = sym (ap (λ (x : Stop). number_of x) c.stop_of.ensures) in
    let same = ticks-onward c.args.shelf.now s b c.args.event c.stop_of.result c.parent_of-parent.result c.min-before.result f is c.parent_of-parent.ensures.value c.min-before.ensures in
    omega (arith, same, c.in-Ok-reach.ensures.ticks, c.go_onward.ensures.ticks)

pub returns-clause-nearest : goal.returns-clause-nearest
returns-clause-nearest g t c =
    let s = c.args.session.now in
    let b = c.args.branch in
    let f = is-further s b c.parent_of-parent.ensures.session c.requires.exists (sym c.is_kept.ensures ∙ c.if-is_kept.false) in
    let is = sym (ap (λ (x : Stop). number_of x) c.stop_of.ensures) in
    near-onward c.args.shelf.now s b c.args.event c.stop_of.result c.parent_of-parent.result c.min-before.result c.in-Ok-reach.kernel.events c.go_onward.new.kernel.events f is c.parent_of-parent.ensures.value c.min-before.ensures
    c.in-Ok-reach.ensures.early c.go_onward.ensures.grows c.go_onward.ensures.within c.in-Ok-reach.ensures.nearest
