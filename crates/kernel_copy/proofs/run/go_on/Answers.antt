use Rattle.std.proofs.Common.{◌≡◌, ℕ, List, [], All, if◌then◌else◌, ◌==◌, sym, ap, ◌∙◌, subst, arith}
use Rattle.market_floor.specs.declared.opening.Opening.{Opening}
use Rattle.std.proofs.lemmas.Grind.{common_steps}
use Rattle.std.proofs.lemmas.List.Elements.{All-nil}
use Rattle.market_rules.specs.declared.edit.Edit.{Edit}
use Rattle.market_types.specs.Told.{EntryTold}
use Rattle.market_types.specs.Timely.{IsTimely}
use Rattle.branch_tree.specs.declared.segment.Segment.{Segment}
use Rattle.branch_tree.specs.Plan.{branch_at}
use Rattle.branch_tree.specs.Segments.{segment_at}
use Rattle.kernel_core.specs.Edited.{IsEditOf, edited_from}
use Rattle.kernel_core.specs.Open.{opened}
use Rattle.kernel_core.specs.State.{State}
use Rattle.kernel_core.specs.Step.{Fits}
use Rattle.kernel_core.specs.Until.{Run}
use Rattle.kernel_copy.specs.Courses.{CourseTold}
use Rattle.kernel_copy.specs.Reached.{IsReached}
use Rattle.kernel_copy.specs.Segmentwise.{segment_end}
use Rattle.kernel_copy.proofs.Pieces.{then-ok}
use Rattle.kernel_copy.proofs.run.go_on.Goals as goal

-- A choice by equal and by other numbers.
if-same : {A : Type 0} (m n : ℕ) → m ≡ n → (x y : A) → (if m == n then x else y) ≡ x
if-same {A} m n e x y = grind (arith, common_steps)

if-other : {A : Type 0} (m n : ℕ) → (m ≡ n → ⊥) → (x y : A) → (if m == n then x else y) ≡ y
if-other {A} m n e x y = grind (arith, common_steps)

pub returns-then-segment-branch-clause-fits : goal.returns-then-segment-branch-clause-fits
returns-then-segment-branch-clause-fits c =
    let k : CourseTold = c.args.course.now in
    subst (λ (s : State). Fits k.opening s) (sym c.requires.end) (c.courses_stay_in_range.ensures.ends k c.args.parent c.segment.ensures.course c.requires.segment).fits

pub apply_all-requires-clause-reached : goal.apply_all-requires-clause-reached
apply_all-requires-clause-reached c =
    let k : CourseTold = c.args.course.now in
    subst (λ (o : Opening). IsReached o 4080 c.args.kernel.now) (sym c.opening.ensures.value)
    (subst (λ (s : State). IsReached k.opening 4080 s) (sym c.requires.end) (c.courses_stay_in_range.ensures.ends k c.args.parent c.segment.ensures.course c.requires.segment))

-- A kernel at this state with no entries is a run that begins there.
begun : (s t : State) (es : List EntryTold) → s ≡ t → es ≡ [] → ◌≡◌ {A = Run} (record { state = s; entries = es }) (record { state = t; entries = [] })
begun s t es is none = ap (λ (x : State). record { state = x; entries = es }) is ∙ ap (λ (xs : List EntryTold). record { state = t; entries = xs }) none

pub returns-then-segment-branch-clause-state : goal.returns-then-segment-branch-clause-state
returns-then-segment-branch-clause-state c =
    let same = sym (ap (λ (x : Segment). x.branch) c.segment.ensures.value) ∙ c.if-segment-branch.true in
    begun c.args.kernel.now _ c.args.trace.now.list c.requires.end c.requires.empty ∙ sym (if-same _ _ same _ _)

pub returns-then-segment-branch-clause-timely : goal.returns-then-segment-branch-clause-timely
returns-then-segment-branch-clause-timely c = subst (λ (es : List EntryTold). All IsTimely es) (sym c.requires.empty) (All-nil IsTimely)

pub returns-clause-state : goal.returns-clause-state
returns-clause-state c =
    let k : CourseTold = c.args.course.now in
    let b = c.args.branch in
    let other : (segment_at k.plan c.args.parent).branch ≡ b → ⊥ = λ e. c.if-segment-branch.false (ap (λ (x : Segment). x.branch) c.segment.ensures.value ∙ e) in
    let s : State = (segment_end k.opening k.plan (segment_at k.plan c.args.parent)).state in
    let start = begun c.args.kernel.now s c.args.trace.now.list c.requires.end c.requires.empty in
    then-ok c.apply_all.result c.apply_all.ensures.made
    (λ is. is ∙ ap (λ (r : Run). edited_from b 0 c.edits-edits.result.now r) start ∙ ap (λ (es : List Edit). edited_from b 0 es (record { state = s; entries = [] })) c.edits-edits.ensures.value ∙ sym (if-other (segment_at k.plan c.args.parent).branch b other (record { state = s; entries = [] }) (edited_from b 0 (branch_at k.plan.branches b).edits (record { state = s; entries = [] }))))

pub returns-clause-timely : goal.returns-clause-timely
returns-clause-timely c = c.apply_all.ensures.timely (subst (λ (es : List EntryTold). All IsTimely es) (sym c.requires.empty) (All-nil IsTimely))

pub returns-clause-fits : goal.returns-clause-fits
returns-clause-fits c = subst (λ (o : Opening). Fits o c.apply_all.new.kernel) c.opening.ensures.value c.apply_all.ensures.fitting

pub apply_all-requires-clause-edits : goal.apply_all-requires-clause-edits
apply_all-requires-clause-edits c =
    subst (λ (o : Opening). All (λ (e : Edit). IsEditOf (opened o) e) c.edits-edits.result.now) (sym c.opening.ensures.value) c.edits-edits.ensures.fit
