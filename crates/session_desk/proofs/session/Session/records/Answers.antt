use Rattle.std.proofs.Common.{◌≡◌, ◌++◌, ℕ, inr, ap, ◌∙◌, subst, arith}
use Rattle.market_floor.specs.declared.opening.Opening.{Opening}
use Rattle.kernel_core.specs.Until.{Run}
use Rattle.kernel_copy.specs.Courses.{CourseTold}
use Rattle.session_desk.specs.Along.{BeginWith}
use Rattle.session_desk.specs.Session.{full_in}
use Rattle.session_desk.proofs.Refused.{lacking, there}
use Rattle.session_desk.proofs.Traces.{begin-all}
use Rattle.session_desk.proofs.session.Session.records.Goals as goal

pub returns-then-lacks-clause-refused : goal.returns-then-lacks-clause-refused
returns-then-lacks-clause-refused g c = inr (lacking c.args.self.now c.args.branch (c.lacks.ensures.lacking c.if-lacks.true))

pub returns-then-lacks-clause-part : goal.returns-then-lacks-clause-part
returns-then-lacks-clause-part g c = λ h. absurd (omega (arith, h, c.lacks.ensures.lacking c.if-lacks.true))

pub returns-then-lacks-clause-kept : goal.returns-then-lacks-clause-kept
returns-then-lacks-clause-kept g c = begin-all c.args.trace.now.list

pub recorded-requires-clause-exists : goal.recorded-requires-clause-exists
recorded-requires-clause-exists g c = c.lacks.ensures.there c.if-lacks.false

pub recorded-requires-clause-within : goal.recorded-requires-clause-within
recorded-requires-clause-within g c =
    let s = c.args.self.now in
    let limit : c.opening.result.now.limit ≡ s.course.opening.limit =
    ap (λ (o : Opening). o.limit) (c.opening.ensures.value ∙ ap (λ (x : CourseTold). x.opening) (c.deref.ensures ∙ c.course.ensures.value)) in
    omega (arith, limit)

pub recorded-requires-clause-count : goal.recorded-requires-clause-count
recorded-requires-clause-count g c =
    let s = c.args.self.now in
    let limit : c.opening.result.now.limit ≡ s.course.opening.limit =
    ap (λ (o : Opening). o.limit) (c.opening.ensures.value ∙ ap (λ (x : CourseTold). x.opening) (c.deref.ensures ∙ c.course.ensures.value)) in
    omega (arith, limit, c.requires.count)

pub returns-in-Ok-clause-made : goal.returns-in-Ok-clause-made
returns-in-Ok-clause-made g c = there c.args.self.now c.args.branch (c.lacks.ensures.there c.if-lacks.false)

pub returns-in-Ok-clause-entries : goal.returns-in-Ok-clause-entries
returns-in-Ok-clause-entries g c =
    let s = c.args.self.now in
    let b = c.args.branch in
    let limit : c.opening.result.now.limit ≡ s.course.opening.limit =
    ap (λ (o : Opening). o.limit) (c.opening.ensures.value ∙ ap (λ (x : CourseTold). x.opening) (c.deref.ensures ∙ c.course.ensures.value)) in
    let pre = c.args.trace.now.list in
    ap (λ (r : Run). r.entries) c.in-Ok.ensures.ran ∙ ap (λ (n : ℕ). pre ++ (full_in s b n).entries) limit

pub returns-in-Ok-clause-rose : goal.returns-in-Ok-clause-rose
returns-in-Ok-clause-rose g c =
    let s = c.args.self.now in
    let b = c.args.branch in
    let limit : c.opening.result.now.limit ≡ s.course.opening.limit =
    ap (λ (o : Opening). o.limit) (c.opening.ensures.value ∙ ap (λ (x : CourseTold). x.opening) (c.deref.ensures ∙ c.course.ensures.value)) in
    omega (arith, c.in-Ok.ensures.ticks, ap (λ (r : Run). r.state.events) c.in-Ok.ensures.ran, ap (λ (n : ℕ). (full_in s b n).state.events) limit)

pub returns-in-Ok-clause-no_branch : goal.returns-in-Ok-clause-no_branch
returns-in-Ok-clause-no_branch g c = λ h. absurd (omega (arith, h, c.lacks.ensures.there c.if-lacks.false))

pub returns-in-Ok-clause-unmoved : goal.returns-in-Ok-clause-unmoved
returns-in-Ok-clause-unmoved g c = λ h. absurd (omega (arith, h, c.lacks.ensures.there c.if-lacks.false))

pub returns-in-Ok-clause-unchanged : goal.returns-in-Ok-clause-unchanged
returns-in-Ok-clause-unchanged g c = λ h. absurd (omega (arith, h, c.lacks.ensures.there c.if-lacks.false))

pub returns-in-Ok-clause-part : goal.returns-in-Ok-clause-part
returns-in-Ok-clause-part g c =
    let s = c.args.self.now in
    let b = c.args.branch in
    let limit : c.opening.result.now.limit ≡ s.course.opening.limit =
    ap (λ (o : Opening). o.limit) (c.opening.ensures.value ∙ ap (λ (x : CourseTold). x.opening) (c.deref.ensures ∙ c.course.ensures.value)) in
    let pre = c.args.trace.now.list in
    λ h. subst (λ (n : ℕ). BeginWith (pre ++ (full_in s b n).entries) c.recorded.new.trace.list) limit c.recorded.ensures.part

pub returns-in-Ok-clause-kept : goal.returns-in-Ok-clause-kept
returns-in-Ok-clause-kept g c = c.recorded.ensures.kept

pub returns-in-Ok-clause-counted : goal.returns-in-Ok-clause-counted
returns-in-Ok-clause-counted g c = c.recorded.ensures.counted

pub returns-in-Ok-clause-most : goal.returns-in-Ok-clause-most
returns-in-Ok-clause-most g c =
    let s = c.args.self.now in
    let limit : c.opening.result.now.limit ≡ s.course.opening.limit =
    ap (λ (o : Opening). o.limit) (c.opening.ensures.value ∙ ap (λ (x : CourseTold). x.opening) (c.deref.ensures ∙ c.course.ensures.value)) in
    omega (arith, limit, c.recorded.ensures.most)

pub returns-in-Err-clause-no_branch : goal.returns-in-Err-clause-no_branch
returns-in-Err-clause-no_branch g c = λ h. absurd (omega (arith, h, c.lacks.ensures.there c.if-lacks.false))

pub returns-in-Err-clause-unmoved : goal.returns-in-Err-clause-unmoved
returns-in-Err-clause-unmoved g c = λ h. absurd (omega (arith, h, c.lacks.ensures.there c.if-lacks.false))

pub returns-in-Err-clause-unchanged : goal.returns-in-Err-clause-unchanged
returns-in-Err-clause-unchanged g c = λ h. absurd (omega (arith, h, c.lacks.ensures.there c.if-lacks.false))

pub returns-in-Err-clause-part : goal.returns-in-Err-clause-part
returns-in-Err-clause-part g c =
    let s = c.args.self.now in
    let b = c.args.branch in
    let limit : c.opening.result.now.limit ≡ s.course.opening.limit =
    ap (λ (o : Opening). o.limit) (c.opening.ensures.value ∙ ap (λ (x : CourseTold). x.opening) (c.deref.ensures ∙ c.course.ensures.value)) in
    let pre = c.args.trace.now.list in
    λ h. subst (λ (n : ℕ). BeginWith (pre ++ (full_in s b n).entries) c.recorded.new.trace.list) limit c.recorded.ensures.part

pub returns-in-Err-clause-kept : goal.returns-in-Err-clause-kept
returns-in-Err-clause-kept g c = c.recorded.ensures.kept

pub returns-in-Err-clause-counted : goal.returns-in-Err-clause-counted
returns-in-Err-clause-counted g c = c.recorded.ensures.counted

pub returns-in-Err-clause-most : goal.returns-in-Err-clause-most
returns-in-Err-clause-most g c =
    let s = c.args.self.now in
    let limit : c.opening.result.now.limit ≡ s.course.opening.limit =
    ap (λ (o : Opening). o.limit) (c.opening.ensures.value ∙ ap (λ (x : CourseTold). x.opening) (c.deref.ensures ∙ c.course.ensures.value)) in
    omega (arith, limit, c.recorded.ensures.most)
