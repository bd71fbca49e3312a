use Rattle.std.proofs.Common.{◌<◌, ◌++◌, sym, ap, ◌∙◌, subst, arith}
use Rattle.kernel_core.specs.State.{State}
use Rattle.kernel_core.specs.Until.{Run}
use Rattle.kernel_copy.specs.Reached.{IsReached}
use Rattle.session_desk.specs.Along.{BeginWith}
use Rattle.session_desk.specs.Session.{full_in, standing}
use Rattle.session_desk.proofs.Along.{record-onward}
use Rattle.session_desk.proofs.Traces.{begin-front, begin-on, entries-onward}
use Rattle.session_desk.proofs.walk.+recorded.Goals as goal

pub recorded-requires : goal.recorded-requires
recorded-requires g t c κs within =
    let pos : 0 < c.args.branch = omega (arith, c.if-branch-eq0.false) in
    let earlier = c.parent_of-parent.ensures.earlier pos in
    (omega (arith, earlier, c.decreases), (within, (omega (arith, earlier, c.requires.exists), (omega (arith, c.min-before.ensures, c.requires.within), omega (arith, c.min-before.ensures, c.requires.count)))))

pub returns-in_default-clause-part : goal.returns-in_default-clause-part
returns-in_default-clause-part g t c =
    let s = c.args.session.now in
    let b = c.args.branch in
    let e = c.args.event in
    let q = c.parent_of-parent.result in
    let m = c.min-before.result in
    let pre = c.args.trace.now.list in
    let pos : 0 < b = omega (arith, c.if-branch-eq0.false) in
    let on = entries-onward s b e c.stop_of.result q m c.parent_of-parent.ensures.session pos c.requires.exists c.stop_of.ensures c.requires.within c.parent_of-parent.ensures.value c.min-before.ensures in
    begin-on c.recorded.new.trace.list (pre ++ (full_in s q m).entries) (pre ++ (full_in s b e).entries) c.recorded.ensures.part (begin-front pre (full_in s q m).entries (full_in s b e).entries on)

pub go_onward-requires-clause-reached : goal.go_onward-requires-clause-reached
go_onward-requires-clause-reached g t c =
    let s = c.args.session.now in
    let h = c.parent_of-parent.ensures.session in
    let pos : 0 < c.args.branch = omega (arith, c.if-branch-eq0.false) in
    let earlier = c.parent_of-parent.ensures.earlier pos in
    subst (λ (k : State). IsReached s.course.opening 4080 k) (sym (ap (λ (r : Run). r.state) c.in-Ok.ensures.ran))
    (c.courses_stay_in_range.ensures.states (standing s) c.parent_of-parent.result c.min-before.result h.tree (omega (arith, earlier, c.requires.exists)))

pub returns-in_default-go_onward-clause-part : goal.returns-in_default-go_onward-clause-part
returns-in_default-go_onward-clause-part g t c =
    let s = c.args.session.now in
    let b = c.args.branch in
    let pre = c.args.trace.now.list in
    let pos : 0 < b = omega (arith, c.if-branch-eq0.false) in
    let first : Run = record { state = c.in-Ok.kernel; entries = c.recorded.new.trace.list } in
    let whole = record-onward s b c.args.event c.stop_of.result c.parent_of-parent.result c.min-before.result pre first c.parent_of-parent.ensures.session pos c.requires.exists c.stop_of.ensures c.requires.within
    c.parent_of-parent.ensures.value c.min-before.ensures c.in-Ok.ensures.ran in
    subst (λ (r : Run). BeginWith r.entries c.go_onward.new.trace.list) whole c.go_onward.ensures.part

pub returns-clause-part : goal.returns-clause-part
returns-clause-part g t c =
    let s = c.args.session.now in
    let b = c.args.branch in
    let pre = c.args.trace.now.list in
    let pos : 0 < b = omega (arith, c.if-branch-eq0.false) in
    let first : Run = record { state = c.in-Ok.kernel; entries = c.recorded.new.trace.list } in
    let whole = record-onward s b c.args.event c.stop_of.result c.parent_of-parent.result c.min-before.result pre first c.parent_of-parent.ensures.session pos c.requires.exists c.stop_of.ensures c.requires.within
    c.parent_of-parent.ensures.value c.min-before.ensures c.in-Ok.ensures.ran in
    subst (λ (r : Run). BeginWith r.entries c.go_onward.new.trace.list) whole c.go_onward.ensures.part

pub returns-clause-ran : goal.returns-clause-ran
returns-clause-ran g t c =
    let s = c.args.session.now in
    let b = c.args.branch in
    let pre = c.args.trace.now.list in
    let pos : 0 < b = omega (arith, c.if-branch-eq0.false) in
    let first : Run = record { state = c.in-Ok.kernel; entries = c.recorded.new.trace.list } in
    c.in-Ok-go_onward.ensures.ran
    ∙ record-onward s b c.args.event c.stop_of.result c.parent_of-parent.result c.min-before.result pre first c.parent_of-parent.ensures.session pos c.requires.exists c.stop_of.ensures c.requires.within
    c.parent_of-parent.ensures.value c.min-before.ensures c.in-Ok.ensures.ran

pub returns-in_default-go_onward-clause-kept : goal.returns-in_default-go_onward-clause-kept
returns-in_default-go_onward-clause-kept g t c = begin-on c.args.trace.now.list c.recorded.new.trace.list c.go_onward.new.trace.list c.recorded.ensures.kept c.go_onward.ensures.kept

pub returns-in_default-go_onward-clause-counted : goal.returns-in_default-go_onward-clause-counted
returns-in_default-go_onward-clause-counted g t c = omega (arith, c.recorded.ensures.counted, c.go_onward.ensures.counted)

pub returns-clause-kept : goal.returns-clause-kept
returns-clause-kept g t c = begin-on c.args.trace.now.list c.recorded.new.trace.list c.go_onward.new.trace.list c.recorded.ensures.kept c.go_onward.ensures.kept

pub returns-clause-counted : goal.returns-clause-counted
returns-clause-counted g t c = omega (arith, c.recorded.ensures.counted, c.go_onward.ensures.counted)
