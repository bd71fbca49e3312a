use Rattle.std.proofs.Common.{◌≡◌, false, refl, sym, ap, ◌∙◌, subst, arith}
use Rattle.branch_tree.specs.declared.stop.Stop.TheVariants.{At}
use Rattle.kernel_core.specs.Edited.{edited}
use Rattle.kernel_core.specs.Until.{Run}
use Rattle.kernel_core.proofs.Stops.{until-within}
use Rattle.market_floor.specs.declared.opening.Opening.{Opening}
use Rattle.kernel_copy.specs.Courses.{AreEdits, CourseTold}
use Rattle.kernel_copy.specs.Reached.{IsReached}
use Rattle.rewind_desk.specs.Reach.{has_more}
use Rattle.session_desk.specs.Along.{BeginWith, onward}
use Rattle.session_desk.proofs.Along.{edited-onward, onward-stays}
use Rattle.session_desk.proofs.Traces.{begin-all, begin-is, begin-on, made-begins, made-count, made-keeps, until-begins}
use Rattle.session_desk.proofs.onward.go_onward.Goals as goal

pub returns-in_err-make_edits-clause-part : goal.returns-in_err-make_edits-clause-part
returns-in_err-make_edits-clause-part g c =
    let s = c.args.session.now in
    let b = c.args.branch in
    let e = c.args.event in
    let o = c.opening-o.result.now in
    let es = c.edits_of.result.now in
    let first : Run = record { state = c.args.kernel.now; entries = c.args.trace.now.list } in
    let same : o ≡ s.course.opening = c.opening-o.ensures.value ∙ ap (λ (k : CourseTold). k.opening) (c.deref.ensures ∙ c.course.ensures.value) in
    let less : has_more o (At c.stop_of.result) c.args.kernel.now ≡ false = sym c.has_more.ensures ∙ c.if-has_more.false in
    let whole = edited-onward s o b e c.stop_of.result es first (edited b es first) same c.stop_of.ensures c.edits_of.ensures.value less refl in
    let all = onward s.course.opening s.branches b e first in
    begin-on c.make_edits.new.trace.list (edited b es first).entries all.entries c.make_edits.ensures.part
    (subst (λ (r : Run). BeginWith r.entries (edited b es first).entries) whole (until-begins o e (edited b es first)))

pub returns-in_err-run_until-clause-part : goal.returns-in_err-run_until-clause-part
returns-in_err-run_until-clause-part g c =
    let s = c.args.session.now in
    let b = c.args.branch in
    let e = c.args.event in
    let o = c.opening-o.result.now in
    let es = c.edits_of.result.now in
    let first : Run = record { state = c.args.kernel.now; entries = c.args.trace.now.list } in
    let next : Run = record { state = c.make_edits.new.kernel; entries = c.make_edits.new.trace.list } in
    let same : o ≡ s.course.opening = c.opening-o.ensures.value ∙ ap (λ (k : CourseTold). k.opening) (c.deref.ensures ∙ c.course.ensures.value) in
    let less : has_more o (At c.stop_of.result) c.args.kernel.now ≡ false = sym c.has_more.ensures ∙ c.if-has_more.false in
    let whole = edited-onward s o b e c.stop_of.result es first next same c.stop_of.ensures c.edits_of.ensures.value less c.in_ok-make_edits.ensures.made in
    subst (λ (r : Run). BeginWith r.entries c.run_until.new.trace.list) whole (made-begins o e next c.run_until.new.self c.run_until.new.trace.list c.run_until.ensures.made c.run_until.ensures.within)

pub returns-clause-part : goal.returns-clause-part
returns-clause-part g c =
    let s = c.args.session.now in
    let b = c.args.branch in
    let e = c.args.event in
    let o = c.opening-o.result.now in
    let es = c.edits_of.result.now in
    let first : Run = record { state = c.args.kernel.now; entries = c.args.trace.now.list } in
    let next : Run = record { state = c.make_edits.new.kernel; entries = c.make_edits.new.trace.list } in
    let same : o ≡ s.course.opening = c.opening-o.ensures.value ∙ ap (λ (k : CourseTold). k.opening) (c.deref.ensures ∙ c.course.ensures.value) in
    let less : has_more o (At c.stop_of.result) c.args.kernel.now ≡ false = sym c.has_more.ensures ∙ c.if-has_more.false in
    let whole = edited-onward s o b e c.stop_of.result es first next same c.stop_of.ensures c.edits_of.ensures.value less c.in_ok-make_edits.ensures.made in
    subst (λ (r : Run). BeginWith r.entries c.run_until.new.trace.list) whole (made-begins o e next c.run_until.new.self c.run_until.new.trace.list c.run_until.ensures.made c.run_until.ensures.within)

pub returns-in_err-run_until-clause-within : goal.returns-in_err-run_until-clause-within
returns-in_err-run_until-clause-within g c =
    let next : Run = record { state = c.make_edits.new.kernel; entries = c.make_edits.new.trace.list } in
    omega (arith, c.run_until.ensures.within, until-within c.opening-o.result.now c.args.event next (omega (arith, c.make_edits.ensures.events, c.requires.early)))

pub returns-clause-within : goal.returns-clause-within
returns-clause-within g c =
    let next : Run = record { state = c.make_edits.new.kernel; entries = c.make_edits.new.trace.list } in
    omega (arith, c.run_until.ensures.within, until-within c.opening-o.result.now c.args.event next (omega (arith, c.make_edits.ensures.events, c.requires.early)))

pub returns-in_err-run_until-clause-kept : goal.returns-in_err-run_until-clause-kept
returns-in_err-run_until-clause-kept g c =
    let next : Run = record { state = c.make_edits.new.kernel; entries = c.make_edits.new.trace.list } in
    begin-on c.args.trace.now.list next.entries c.run_until.new.trace.list c.make_edits.ensures.kept (made-keeps c.opening-o.result.now next c.run_until.new.self c.run_until.new.trace.list c.run_until.ensures.made)

pub returns-in_err-run_until-clause-counted : goal.returns-in_err-run_until-clause-counted
returns-in_err-run_until-clause-counted g c =
    let next : Run = record { state = c.make_edits.new.kernel; entries = c.make_edits.new.trace.list } in
    omega (arith, c.make_edits.ensures.counted, c.run_until.ensures.ticks, made-count c.opening-o.result.now next c.run_until.new.self c.run_until.new.trace.list c.run_until.ensures.made)

pub returns-clause-kept : goal.returns-clause-kept
returns-clause-kept g c =
    let next : Run = record { state = c.make_edits.new.kernel; entries = c.make_edits.new.trace.list } in
    begin-on c.args.trace.now.list next.entries c.run_until.new.trace.list c.make_edits.ensures.kept (made-keeps c.opening-o.result.now next c.run_until.new.self c.run_until.new.trace.list c.run_until.ensures.made)

pub returns-clause-counted : goal.returns-clause-counted
returns-clause-counted g c =
    let next : Run = record { state = c.make_edits.new.kernel; entries = c.make_edits.new.trace.list } in
    omega (arith, c.make_edits.ensures.counted, c.run_until.ensures.ticks, made-count c.opening-o.result.now next c.run_until.new.self c.run_until.new.trace.list c.run_until.ensures.made)

pub make_edits-requires-clause-reached : goal.make_edits-requires-clause-reached
make_edits-requires-clause-reached g c =
    let s = c.args.session.now in
    let o = c.opening-o.result.now in
    let same : o ≡ s.course.opening = c.opening-o.ensures.value ∙ ap (λ (k : CourseTold). k.opening) (c.deref.ensures ∙ c.course.ensures.value) in
    subst (λ (x : Opening). IsReached x 4080 c.args.kernel.now) (sym same) c.requires.reached

pub make_edits-requires-clause-edits : goal.make_edits-requires-clause-edits
make_edits-requires-clause-edits g c =
    let s = c.args.session.now in
    let o = c.opening-o.result.now in
    let same : o ≡ s.course.opening = c.opening-o.ensures.value ∙ ap (λ (k : CourseTold). k.opening) (c.deref.ensures ∙ c.course.ensures.value) in
    subst (λ (x : Opening). AreEdits x c.edits_of.result.now) (sym same) c.edits_of.ensures.edits

pub run_until-requires-clause-fits : goal.run_until-requires-clause-fits
run_until-requires-clause-fits g c = c.make_edits.ensures.fitting

pub run_until-requires-clause-count : goal.run_until-requires-clause-count
run_until-requires-clause-count g c = omega (arith, c.make_edits.ensures.events, c.requires.count)

pub returns-then-has_more-clause-ran : goal.returns-then-has_more-clause-ran
returns-then-has_more-clause-ran g c =
    let s = c.args.session.now in
    let b = c.args.branch in
    let e = c.args.event in
    let o = c.opening-o.result.now in
    let first : Run = record { state = c.args.kernel.now; entries = c.args.trace.now.list } in
    let same : o ≡ s.course.opening = c.opening-o.ensures.value ∙ ap (λ (k : CourseTold). k.opening) (c.deref.ensures ∙ c.course.ensures.value) in
    let stays = onward-stays s o b e c.stop_of.result first same c.stop_of.ensures (sym c.has_more.ensures ∙ c.if-has_more.true) in
    stays

pub returns-then-has_more-clause-part : goal.returns-then-has_more-clause-part
returns-then-has_more-clause-part g c =
    let s = c.args.session.now in
    let b = c.args.branch in
    let e = c.args.event in
    let o = c.opening-o.result.now in
    let first : Run = record { state = c.args.kernel.now; entries = c.args.trace.now.list } in
    let same : o ≡ s.course.opening = c.opening-o.ensures.value ∙ ap (λ (k : CourseTold). k.opening) (c.deref.ensures ∙ c.course.ensures.value) in
    let stays = onward-stays s o b e c.stop_of.result first same c.stop_of.ensures (sym c.has_more.ensures ∙ c.if-has_more.true) in
    begin-is first.entries (onward s.course.opening s.branches b e first).entries (ap (λ (r : Run). r.entries) stays)

pub returns-then-has_more-clause-kept : goal.returns-then-has_more-clause-kept
returns-then-has_more-clause-kept g c = begin-all c.args.trace.now.list

pub returns-in_err-make_edits-clause-kept : goal.returns-in_err-make_edits-clause-kept
returns-in_err-make_edits-clause-kept g c = c.make_edits.ensures.kept

pub returns-in_err-make_edits-clause-counted : goal.returns-in_err-make_edits-clause-counted
returns-in_err-make_edits-clause-counted g c = omega (arith, c.make_edits.ensures.counted)

pub returns-in_err-make_edits-clause-ticks : goal.returns-in_err-make_edits-clause-ticks
returns-in_err-make_edits-clause-ticks g c = omega (arith, c.make_edits.ensures.events)

pub returns-in_err-make_edits-clause-grows : goal.returns-in_err-make_edits-clause-grows
returns-in_err-make_edits-clause-grows g c = omega (arith, c.make_edits.ensures.events)

pub returns-in_err-make_edits-clause-within : goal.returns-in_err-make_edits-clause-within
returns-in_err-make_edits-clause-within g c = omega (arith, c.make_edits.ensures.events, c.requires.early)

pub returns-in_err-run_until-clause-ticks : goal.returns-in_err-run_until-clause-ticks
returns-in_err-run_until-clause-ticks g c = omega (arith, c.make_edits.ensures.events, c.run_until.ensures.ticks)

pub returns-in_err-run_until-clause-grows : goal.returns-in_err-run_until-clause-grows
returns-in_err-run_until-clause-grows g c = omega (arith, c.make_edits.ensures.events, c.run_until.ensures.grows)

pub returns-clause-ticks : goal.returns-clause-ticks
returns-clause-ticks g c = omega (arith, c.make_edits.ensures.events, c.run_until.ensures.ticks)

pub returns-clause-grows : goal.returns-clause-grows
returns-clause-grows g c = omega (arith, c.make_edits.ensures.events, c.run_until.ensures.grows)

pub returns-clause-ran : goal.returns-clause-ran
returns-clause-ran g c =
    let s = c.args.session.now in
    let b = c.args.branch in
    let e = c.args.event in
    let o = c.opening-o.result.now in
    let es = c.edits_of.result.now in
    let first : Run = record { state = c.args.kernel.now; entries = c.args.trace.now.list } in
    let next : Run = record { state = c.make_edits.new.kernel; entries = c.make_edits.new.trace.list } in
    let same : o ≡ s.course.opening = c.opening-o.ensures.value ∙ ap (λ (k : CourseTold). k.opening) (c.deref.ensures ∙ c.course.ensures.value) in
    let less : has_more o (At c.stop_of.result) c.args.kernel.now ≡ false = sym c.has_more.ensures ∙ c.if-has_more.false in
    c.in_ok-run_until.ensures.ran ∙ edited-onward s o b e c.stop_of.result es first next same c.stop_of.ensures c.edits_of.ensures.value less c.in_ok-make_edits.ensures.made
