use Rattle.std.proofs.Common.{◌≡◌, ℕ, List, ◌++◌, ◌∷◌, [], None, sym, ap, ◌∙◌, subst}
use Rattle.branch_tree.specs.declared.branch.Branch.{Branch}
use Rattle.branch_tree.specs.Tree.{plan_refusal}
use Rattle.market_floor.specs.declared.opening.Opening.{Opening}
use Rattle.kernel_copy.specs.Courses.{AreEdits, CourseTold}
use Rattle.session_desk.specs.Session.{SessionTold}
use Rattle.session_desk.specs.Answers.{fork_refusal}
use Rattle.session_desk.proofs.Stands.{fork-tried}
use Rattle.session_desk.proofs.session.Session.fork.Goals as goal

pub invariant_of-self : goal.invariant_of-self
invariant_of-self c =
    let s : SessionTold = record { course = c.self.inside.course.value; branches = c.self.inside.branches.items; own = c.self.inside.own.items } in
    let b = c.args.branch in
    let edits : AreEdits s.course.opening b.edits = subst (λ (x : SessionTold). AreEdits x.course.opening b.edits) (sym c.self.view_is) c.requires.edits in
    let limit : c.opening.result.now.limit ≡ s.course.opening.limit = ap (λ (o : Opening). o.limit) (c.opening.ensures.value ∙ ap (λ (k : CourseTold). k.opening) c.deref.ensures) in
    let made : fork_refusal s b ≡ None =
    sym (ap (λ (n : ℕ). plan_refusal (s.branches ++ b ∷ []) n) limit)
    ∙ sym (ap (λ (bs : List Branch). plan_refusal (bs ++ b ∷ []) c.opening.result.now.limit) c.as_slice.ensures.value)
    ∙ sym c.in-Ok-None.ensures ∙ c.in-Ok-None.field-0-is in
    fork-tried c.push_both.result s b c.push_both.new.branches.items c.push_both.new.own.items c.push_both.ensures.branches c.push_both.ensures.own c.push_both.ensures.branches_refused c.push_both.ensures.own_refused
    c.self.invariant c.requires.number edits made
