use Rattle.std.proofs.Common.{◌≡◌, ◌+◌, ℕ, List, ◌∷◌, drop, sym, ap, ◌∙◌, subst, arith, rules}
use Rattle.std.proofs.lemmas.List.{drop_more}
use Rattle.std.proofs.lemmas.List.Elements.{All-get_or}
use Rattle.market_rules.specs.declared.edit.Edit.{Edit}
use Rattle.kernel_core.specs.Edited.{IsEditOf, edited_from}
use Rattle.kernel_core.specs.Open.{opened}
use Rattle.kernel_core.specs.Until.{Run}
use Rattle.kernel_copy.specs.Reached.{IsReached}
use Rattle.kernel_copy.proofs.Reaching.{edit-of, one-reached, roomy}
use Rattle.market_types.specs.Told.{EntryTold}
use Rattle.session_desk.specs.Along.{BeginWith, event_count}
use Rattle.session_desk.proofs.Traces.{begin-on, edit-count, edit-keeps, edits-begin}
use Rattle.session_desk.proofs.edits.make_edits.Goals as goal

pub apply-requires-clause-edit : goal.apply-requires-clause-edit
apply-requires-clause-edit c =
    let o = c.args.o.now in
    let i = c.loop-i.i in
    let x = c.index-edits-i.result in
    let P : Edit → Type 0 = λ e. IsEditOf (opened o) e in
    let fit : P x = subst P (sym c.index-edits-i.is) (All-get_or P c.args.edits.now i x (omega (arith, c.loop-i-test.true)) c.requires.edits.fit) in
    edit-of o (4080 + i) c.loop-i.kernel x c.loop-i.invariant.reached fit

pub apply-requires-clause-drops : goal.apply-requires-clause-drops
apply-requires-clause-drops c =
    (roomy c.args.o.now (4080 + c.loop-i.i) c.loop-i.kernel (omega (arith, c.loop-i-test.true, c.requires.edits.few)) c.loop-i.invariant.reached).drops

pub apply-requires-clause-offsets : goal.apply-requires-clause-offsets
apply-requires-clause-offsets c =
    (roomy c.args.o.now (4080 + c.loop-i.i) c.loop-i.kernel (omega (arith, c.loop-i-test.true, c.requires.edits.few)) c.loop-i.invariant.reached).offsets

pub loop-i-preserved : goal.loop-i-preserved
loop-i-preserved c =
    let o = c.args.o.now in
    let i = c.loop-i.i in
    let x = c.index-edits-i.result in
    let P : Edit → Type 0 = λ e. IsEditOf (opened o) e in
    let fit : P x = subst P (sym c.index-edits-i.is) (All-get_or P c.args.edits.now i x (omega (arith, c.loop-i-test.true)) c.requires.edits.fit) in
    let before : Run = record { state = c.loop-i.kernel; entries = c.loop-i.trace.list } in
    let after : Run = record { state = c.apply.new.self; entries = c.apply.new.trace.list } in
    let one = one-reached o (4080 + i) c.args.branch i x before fit c.loop-i.invariant.reached in
    let xs = c.args.edits.now in
    let left : drop i xs ≡ x ∷ drop (i + 1) xs =
    drop_more xs i x (omega (arith, c.loop-i-test.true)) ∙ ap (λ (e : Edit). e ∷ drop (i + 1) xs) (sym c.index-edits-i.is) in
    let more : 4080 + i + 1 ≡ 4080 + (i + 1) = omega arith in
    record {
      rest = ap (λ (r : Run). edited_from c.args.branch (i + 1) (drop (i + 1) xs) r) c.in_ok-apply.ensures.made
          ∙ sym (ap (λ (es : List Edit). edited_from c.args.branch i es before) left) ∙ c.loop-i.invariant.rest;
      reached = subst (λ (n : ℕ). IsReached o n c.apply.new.self) more (subst (λ (r : Run). IsReached o (4080 + i + 1) r.state) (sym c.in_ok-apply.ensures.made) one);
      kept = begin-on c.args.trace.now.list c.loop-i.trace.list c.apply.new.trace.list c.loop-i.invariant.kept (edit-keeps c.args.branch i x before after c.in_ok-apply.ensures.made);
      counted = edit-count c.args.branch i x before after c.in_ok-apply.ensures.made ∙ c.loop-i.invariant.counted;
      events = c.apply.ensures.events ∙ c.loop-i.invariant.events;
    }

pub returns-in_err-apply-clause-part : goal.returns-in_err-apply-clause-part
returns-in_err-apply-clause-part c =
    let i = c.loop-i.i in
    let before : Run = record { state = c.loop-i.kernel; entries = c.loop-i.trace.list } in
    let first : Run = record { state = c.args.kernel.now; entries = c.args.trace.now.list } in
    let whole = edited_from c.args.branch 0 c.args.edits.now first in
    let same : c.apply.new.trace.list ≡ c.loop-i.trace.list = search rules in
    subst (λ (es : List EntryTold). BeginWith whole.entries es) (sym same) (edits-begin c.args.branch i (drop i c.args.edits.now) before whole c.loop-i.invariant.rest)

pub returns-in_err-apply-clause-kept : goal.returns-in_err-apply-clause-kept
returns-in_err-apply-clause-kept c =
    let same : c.apply.new.trace.list ≡ c.loop-i.trace.list = search rules in
    subst (λ (es : List EntryTold). BeginWith es c.args.trace.now.list) (sym same) c.loop-i.invariant.kept

pub returns-in_err-apply-clause-counted : goal.returns-in_err-apply-clause-counted
returns-in_err-apply-clause-counted c =
    let same : c.apply.new.trace.list ≡ c.loop-i.trace.list = search rules in
    ap (λ (es : List EntryTold). event_count es) same ∙ c.loop-i.invariant.counted
