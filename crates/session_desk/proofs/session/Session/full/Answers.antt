use Rattle.std.proofs.Common.{◌≡◌, ℕ, inr, ap, ◌∙◌, arith}
use Rattle.market_floor.specs.declared.opening.Opening.{Opening}
use Rattle.kernel_copy.specs.Courses.{CourseTold}
use Rattle.session_desk.specs.Session.{full_in}
use Rattle.session_desk.proofs.Refused.{lacking, there}
use Rattle.session_desk.proofs.session.Session.full.Goals as goal

pub returns-then-lacks-clause-refused : goal.returns-then-lacks-clause-refused
returns-then-lacks-clause-refused g c = inr (lacking c.args.self.now c.args.branch (c.lacks.ensures.lacking c.if-lacks.true))

pub reach-requires-clause-exists : goal.reach-requires-clause-exists
reach-requires-clause-exists g c = c.lacks.ensures.there c.if-lacks.false

pub reach-requires-clause-within : goal.reach-requires-clause-within
reach-requires-clause-within g c =
    let s = c.args.self.now in
    let limit : c.opening.result.now.limit ≡ s.course.opening.limit =
    ap (λ (o : Opening). o.limit) (c.opening.ensures.value ∙ ap (λ (x : CourseTold). x.opening) (c.deref.ensures ∙ c.course.ensures.value)) in
    omega (arith, limit)

pub reach-requires-clause-count : goal.reach-requires-clause-count
reach-requires-clause-count g c =
    let s = c.args.self.now in
    let limit : c.opening.result.now.limit ≡ s.course.opening.limit =
    ap (λ (o : Opening). o.limit) (c.opening.ensures.value ∙ ap (λ (x : CourseTold). x.opening) (c.deref.ensures ∙ c.course.ensures.value)) in
    omega (arith, limit, c.requires.count)

pub returns-in-Ok-clause-made : goal.returns-in-Ok-clause-made
returns-in-Ok-clause-made g c = there c.args.self.now c.args.branch (c.lacks.ensures.there c.if-lacks.false)

pub returns-in-Ok-clause-state : goal.returns-in-Ok-clause-state
returns-in-Ok-clause-state g c =
    let s = c.args.self.now in
    let b = c.args.branch in
    let limit : c.opening.result.now.limit ≡ s.course.opening.limit =
    ap (λ (o : Opening). o.limit) (c.opening.ensures.value ∙ ap (λ (x : CourseTold). x.opening) (c.deref.ensures ∙ c.course.ensures.value)) in
    c.in-Ok.ensures.state ∙ ap (λ (n : ℕ). (full_in s b n).state) limit

pub returns-in-Ok-clause-rose : goal.returns-in-Ok-clause-rose
returns-in-Ok-clause-rose g c =
    omega (arith, c.in-Ok.ensures.ticks, c.in-Ok.ensures.nearest)

pub returns-in-Ok-clause-no_branch : goal.returns-in-Ok-clause-no_branch
returns-in-Ok-clause-no_branch g c = λ h. absurd (omega (arith, h, c.lacks.ensures.there c.if-lacks.false))

pub returns-in-Ok-clause-unmoved : goal.returns-in-Ok-clause-unmoved
returns-in-Ok-clause-unmoved g c = λ h. absurd (omega (arith, h, c.lacks.ensures.there c.if-lacks.false))

pub returns-in-Ok-clause-most : goal.returns-in-Ok-clause-most
returns-in-Ok-clause-most g c =
    let s = c.args.self.now in
    let limit : c.opening.result.now.limit ≡ s.course.opening.limit =
    ap (λ (o : Opening). o.limit) (c.opening.ensures.value ∙ ap (λ (x : CourseTold). x.opening) (c.deref.ensures ∙ c.course.ensures.value)) in
    omega (arith, limit, c.reach.ensures.most)

pub returns-in-Err-clause-no_branch : goal.returns-in-Err-clause-no_branch
returns-in-Err-clause-no_branch g c = λ h. absurd (omega (arith, h, c.lacks.ensures.there c.if-lacks.false))

pub returns-in-Err-clause-unmoved : goal.returns-in-Err-clause-unmoved
returns-in-Err-clause-unmoved g c = λ h. absurd (omega (arith, h, c.lacks.ensures.there c.if-lacks.false))

pub returns-in-Err-clause-most : goal.returns-in-Err-clause-most
returns-in-Err-clause-most g c =
    let s = c.args.self.now in
    let limit : c.opening.result.now.limit ≡ s.course.opening.limit =
    ap (λ (o : Opening). o.limit) (c.opening.ensures.value ∙ ap (λ (x : CourseTold). x.opening) (c.deref.ensures ∙ c.course.ensures.value)) in
    omega (arith, limit, c.reach.ensures.most)
