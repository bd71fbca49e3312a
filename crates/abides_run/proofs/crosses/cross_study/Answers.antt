use Rattle.std.proofs.Common.{◌≡◌, ◌∙◌, ℕ, List, [], ◌∷◌, None, Some, Ok, Err, length, string_bytes, refl, sym, ap, subst, inl, inr, arith}
use Rattle.market_floor.specs.declared.opening.Opening.{Opening}
use Rattle.branch_tree.specs.Plan.{Plan}
use Rattle.kernel_copy.specs.Courses.{CourseTold}
use Rattle.reopen_cross.specs.declared.cross.Interest.{Interest}
use Rattle.reopening_desk.specs.Orders.{orders_of}
use Rattle.reopening_desk.specs.Stocks.{stock_of}
use Rattle.rewind_desk.specs.Targets.{past_of, target_of}
use Rattle.study_rules.specs.Accepted.{study_told}
use Rattle.abides_run.specs.Headline.{Seen}
use Rattle.abides_run.specs.Performed.{Finished}
use Rattle.abides_run.specs.Rewinds.{lasts_of}
use Rattle.abides_run.specs.Verdict.{Verdict, verdict_on_crossing, verdict_on_late}
use Rattle.abides_run.proofs.Crossing.{crossing-branch, crossing-orders, crossing-stock, orderless-finishes, stockless-finishes}
use Rattle.abides_run.proofs.Finishing.{branchless-finishes, wanting-finishes}
use Rattle.abides_run.proofs.crosses.cross_study.Goals as goal

pub returns-in_default : goal.returns-in_default
returns-in_default g c =
    let k : CourseTold = c.args.simulation.now.study.course.value in
    let s = study_told c.args.simulation.now.study in
    let x = c.args.crossing.now in
    let none : target_of k.plan.branches x.mark ≡ None =
    ap (λ (p : Plan). target_of p.branches x.mark) (sym (c.plan.ensures.value ∙ ap (λ (y : CourseTold). y.plan) c.deref.ensures)) ∙ sym c.in_default.ensures.target in
    λ reads probes. branchless-finishes (verdict_on_crossing x c.args.simulation.now.places c.args.text.now s) x.mark.word probes _ reads (g.O.Sink.faults c.args.out.now) c.args.steps.now (g.O.Sink.taken c.args.out.now) c.named.result.status _
    (crossing-branch x c.args.simulation.now.places c.args.text.now s None none) (rw c.as_str-word.ensures at c.named.ensures) (inl refl)

pub returns-in_default-stock_of : goal.returns-in_default-stock_of
returns-in_default-stock_of g c =
    let k : CourseTold = c.args.simulation.now.study.course.value in
    let s = study_told c.args.simulation.now.study in
    let x = c.args.crossing.now in
    let target = c.in-Some.target in
    let aims : target_of k.plan.branches x.mark ≡ Some target =
    ap (λ (p : Plan). target_of p.branches x.mark) (sym (c.plan.ensures.value ∙ ap (λ (y : CourseTold). y.plan) c.deref.ensures)) ∙ sym c.in-Some.ensures.target in
    let none : stock_of k.opening.stocks x.symbol ≡ None =
    ap (λ (y : CourseTold). stock_of y.opening.stocks x.symbol) (sym c.deref-2.ensures) ∙ ap (λ (text : List ℕ). stock_of c.deref-2.result.now.opening.stocks text) (sym c.as_str-symbol.ensures) ∙ sym c.in_default-stock_of.ensures.named in
    λ reads probes. stockless-finishes (verdict_on_crossing x c.args.simulation.now.places c.args.text.now s) x.symbol probes _ reads (g.O.Sink.faults c.args.out.now) c.args.steps.now (g.O.Sink.taken c.args.out.now) c.named-in_default-stock_of.result.status _
    (crossing-stock x c.args.simulation.now.places c.args.text.now s target None aims none) (rw c.as_str-symbol.ensures at c.named-in_default-stock_of.ensures) (inr (inl refl))

pub returns-in-Err-Refused : goal.returns-in-Err-Refused
returns-in-Err-Refused g c =
    let k : CourseTold = c.args.simulation.now.study.course.value in
    let s = study_told c.args.simulation.now.study in
    let x = c.args.crossing.now in
    let target = c.in-Some.target in
    let stock = c.in-Some-stock_of.stock in
    let number = c.in-Err-Refused.number in
    let aims : target_of k.plan.branches x.mark ≡ Some target =
    ap (λ (p : Plan). target_of p.branches x.mark) (sym (c.plan.ensures.value ∙ ap (λ (y : CourseTold). y.plan) c.deref.ensures)) ∙ sym c.in-Some.ensures.target in
    let named : stock_of k.opening.stocks x.symbol ≡ Some stock =
    ap (λ (y : CourseTold). stock_of y.opening.stocks x.symbol) (sym c.deref-2.ensures) ∙ ap (λ (text : List ℕ). stock_of c.deref-2.result.now.opening.stocks text) (sym c.as_str-symbol.ensures) ∙ sym c.in-Some-stock_of.ensures.named in
    let opening : c.opening.result.now ≡ k.opening = c.opening.ensures.value ∙ ap (λ (y : CourseTold). y.opening) c.deref-3.ensures in
    let count : length k.opening.traders ≡ length c.as_slice-traders.result.now = ap (λ (o : Opening). length o.traders) (sym opening) ∙ ap (λ (ts : List _). length ts) (sym c.as_slice-traders.ensures) in
    let read : orders_of (length k.opening.traders) c.args.text.now ≡ Err number =
    ap (λ (n : ℕ). orders_of n c.args.text.now) count ∙ c.in-Err-Refused.ensures.refused number c.in-Err-Refused.field-0-is in
    λ reads probes. orderless-finishes (verdict_on_crossing x c.args.simulation.now.places c.args.text.now s) number probes _ reads (g.O.Sink.faults c.args.out.now) c.args.steps.now (g.O.Sink.taken c.args.out.now) c.nameless.result.status _
    (crossing-orders x c.args.simulation.now.places c.args.text.now s target stock (Err number) aims named read) (rw c.in-Err-Refused.field-0-is at c.nameless.ensures)

pub returns-in-Err-Memory : goal.returns-in-Err-Memory
returns-in-Err-Memory g c =
    λ reads probes. wanting-finishes (verdict_on_crossing c.args.crossing.now c.args.simulation.now.places c.args.text.now (study_told c.args.simulation.now.study)) probes _ reads (g.O.Sink.faults c.args.out.now) c.args.steps.now c.args.steps.now (g.O.Sink.taken c.args.out.now) c.nameless-in-Err-Memory.result.status _
    c.nameless-in-Err-Memory.ensures (omega arith) (omega arith)

pub returns : goal.returns
returns g c =
    let k : CourseTold = c.args.simulation.now.study.course.value in
    let s = study_told c.args.simulation.now.study in
    let x = c.args.crossing.now in
    let word = c.as_str-word.result.now in
    let target = c.in-Some.target in
    let stock = c.in-Some-stock_of.stock in
    let orders = c.deref-4.result.now in
    let aims : target_of k.plan.branches x.mark ≡ Some target =
    ap (λ (p : Plan). target_of p.branches x.mark) (sym (c.plan.ensures.value ∙ ap (λ (y : CourseTold). y.plan) c.deref.ensures)) ∙ sym c.in-Some.ensures.target in
    let named : stock_of k.opening.stocks x.symbol ≡ Some stock =
    ap (λ (y : CourseTold). stock_of y.opening.stocks x.symbol) (sym c.deref-2.ensures) ∙ ap (λ (text : List ℕ). stock_of c.deref-2.result.now.opening.stocks text) (sym c.as_str-symbol.ensures) ∙ sym c.in-Some-stock_of.ensures.named in
    let opening : c.opening.result.now ≡ k.opening = c.opening.ensures.value ∙ ap (λ (y : CourseTold). y.opening) c.deref-3.ensures in
    let count : length k.opening.traders ≡ length c.as_slice-traders.result.now = ap (λ (o : Opening). length o.traders) (sym opening) ∙ ap (λ (ts : List _). length ts) (sym c.as_slice-traders.ensures) in
    let read : orders_of (length k.opening.traders) c.args.text.now ≡ Ok orders =
    ap (λ (n : ℕ). orders_of n c.args.text.now) count ∙ c.in-Ok.ensures.orders ∙ ap (λ (os : List Interest). Ok os) (sym c.deref-4.ensures.value) in
    let come : verdict_on_crossing x c.args.simulation.now.places c.args.text.now s ≡ verdict_on_late x.mark.word target stock orders c.args.simulation.now.places s (past_of (lasts_of k) (target ∷ [])) =
    crossing-orders x c.args.simulation.now.places c.args.text.now s target stock (Ok orders) aims named read in
    λ reads probes.
    let was : Seen = record { reads = reads; writes = g.O.Sink.faults c.args.out.now; taken = g.O.Sink.taken c.args.out.now; steps = c.args.steps.now } in
    let seen : Seen = record { reads = reads; writes = g.O.Sink.faults c.reach_and_cross-ending.new.out; taken = g.O.Sink.taken c.reach_and_cross-ending.new.out; steps = c.reach_and_cross-ending.new.steps } in
    subst (λ (v : Verdict). Finished v probes (x.mark.word ∷ x.symbol ∷ []) was seen c.reach_and_cross-ending.result.status (string_bytes c.reach_and_cross-ending.result.name)) (sym come)
    (subst (λ (w : List ℕ). Finished (verdict_on_late w target stock orders c.args.simulation.now.places s (past_of (lasts_of k) (target ∷ []))) probes (x.mark.word ∷ x.symbol ∷ []) was seen c.reach_and_cross-ending.result.status (string_bytes c.reach_and_cross-ending.result.name)) c.as_str-word.ensures
    (c.reach_and_cross-ending.ensures reads probes (x.mark.word ∷ x.symbol ∷ []) (inl c.as_str-word.ensures)))
