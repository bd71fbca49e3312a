use Rattle.std.proofs.Common.{◌≡◌, ap, ◌∙◌, subst, arith}
use Rattle.kernel_core.specs.State.{State}
use Rattle.kernel_core.specs.Until.{Run}
use Rattle.kernel_core.proofs.Stops.{until-within}
use Rattle.kernel_copy.specs.Courses.{CourseTold}
use Rattle.session_desk.specs.Along.{BeginWith}
use Rattle.session_desk.proofs.Along.{root-run}
use Rattle.session_desk.proofs.Traces.{made-begins, made-count, made-keeps}
use Rattle.session_desk.proofs.walk.record_root.Goals as goal

pub returns-in_default-run_until-clause-part : goal.returns-in_default-run_until-clause-part
returns-in_default-run_until-clause-part g c =
    let s = c.args.session.now in
    let o = c.opening-o.result.now in
    let same : o ≡ s.course.opening = c.opening-o.ensures.value ∙ ap (λ (k : CourseTold). k.opening) (c.deref.ensures ∙ c.course.ensures.value) in
    let first : Run = record { state = c.in-Ok.kernel; entries = c.args.trace.now.list } in
    let whole = root-run s o c.in-Ok.kernel c.args.trace.now.list c.args.event same c.in-Ok.ensures.opened in
    subst (λ (r : Run). BeginWith r.entries c.run_until.new.trace.list) whole (made-begins o c.args.event first c.run_until.new.self c.run_until.new.trace.list c.run_until.ensures.made c.run_until.ensures.within)

pub returns-clause-part : goal.returns-clause-part
returns-clause-part g c =
    let s = c.args.session.now in
    let o = c.opening-o.result.now in
    let same : o ≡ s.course.opening = c.opening-o.ensures.value ∙ ap (λ (k : CourseTold). k.opening) (c.deref.ensures ∙ c.course.ensures.value) in
    let first : Run = record { state = c.in-Ok.kernel; entries = c.args.trace.now.list } in
    let whole = root-run s o c.in-Ok.kernel c.args.trace.now.list c.args.event same c.in-Ok.ensures.opened in
    subst (λ (r : Run). BeginWith r.entries c.run_until.new.trace.list) whole (made-begins o c.args.event first c.run_until.new.self c.run_until.new.trace.list c.run_until.ensures.made c.run_until.ensures.within)

pub returns-clause-ran : goal.returns-clause-ran
returns-clause-ran g c =
    let s = c.args.session.now in
    let o = c.opening-o.result.now in
    let same : o ≡ s.course.opening = c.opening-o.ensures.value ∙ ap (λ (k : CourseTold). k.opening) (c.deref.ensures ∙ c.course.ensures.value) in
    c.in-Ok-run_until.ensures.ran ∙ root-run s o c.in-Ok.kernel c.args.trace.now.list c.args.event same c.in-Ok.ensures.opened

pub returns-in_default-run_until-clause-most : goal.returns-in_default-run_until-clause-most
returns-in_default-run_until-clause-most g c =
    let first : Run = record { state = c.in-Ok.kernel; entries = c.args.trace.now.list } in
    let none = ap (λ (k : State). k.events) c.in-Ok.ensures.opened in
    omega (arith, none, c.run_until.ensures.ticks, c.run_until.ensures.within, until-within c.opening-o.result.now c.args.event first (omega (arith, none)))

pub returns-clause-most : goal.returns-clause-most
returns-clause-most g c =
    let first : Run = record { state = c.in-Ok.kernel; entries = c.args.trace.now.list } in
    let none = ap (λ (k : State). k.events) c.in-Ok.ensures.opened in
    omega (arith, none, c.run_until.ensures.ticks, c.run_until.ensures.within, until-within c.opening-o.result.now c.args.event first (omega (arith, none)))

pub returns-clause-early : goal.returns-clause-early
returns-clause-early g c =
    let first : Run = record { state = c.in-Ok.kernel; entries = c.args.trace.now.list } in
    let none = ap (λ (k : State). k.events) c.in-Ok.ensures.opened in
    omega (arith, none, c.run_until.ensures.within, until-within c.opening-o.result.now c.args.event first (omega (arith, none)))

pub returns-in_default-run_until-clause-kept : goal.returns-in_default-run_until-clause-kept
returns-in_default-run_until-clause-kept g c =
    let first : Run = record { state = c.in-Ok.kernel; entries = c.args.trace.now.list } in
    made-keeps c.opening-o.result.now first c.run_until.new.self c.run_until.new.trace.list c.run_until.ensures.made

pub returns-in_default-run_until-clause-counted : goal.returns-in_default-run_until-clause-counted
returns-in_default-run_until-clause-counted g c =
    let first : Run = record { state = c.in-Ok.kernel; entries = c.args.trace.now.list } in
    omega (arith, c.run_until.ensures.ticks, made-count c.opening-o.result.now first c.run_until.new.self c.run_until.new.trace.list c.run_until.ensures.made)

pub returns-clause-kept : goal.returns-clause-kept
returns-clause-kept g c =
    let first : Run = record { state = c.in-Ok.kernel; entries = c.args.trace.now.list } in
    made-keeps c.opening-o.result.now first c.run_until.new.self c.run_until.new.trace.list c.run_until.ensures.made

pub returns-clause-counted : goal.returns-clause-counted
returns-clause-counted g c =
    let first : Run = record { state = c.in-Ok.kernel; entries = c.args.trace.now.list } in
    omega (arith, c.run_until.ensures.ticks, made-count c.opening-o.result.now first c.run_until.new.self c.run_until.new.trace.list c.run_until.ensures.made)
