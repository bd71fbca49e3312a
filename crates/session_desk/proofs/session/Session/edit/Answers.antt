use Rattle.std.proofs.Common.{◌≡◌, ◌<◌, false, List, length, set, sym, subst, arith}
use Rattle.std.proofs.lemmas.List.{get_or_read}
use Rattle.market_rules.specs.declared.edit.Edit.{Edit}
use Rattle.branch_tree.specs.declared.branch.Branch.{Branch}
use Rattle.branch_tree.specs.Plan.{no_branch, branch_at}
use Rattle.kernel_copy.specs.Courses.{AreEdits}
use Rattle.session_desk.specs.Session.{SessionTold, IsSession}
use Rattle.session_desk.specs.TreeActs.{branch_with}
use Rattle.session_desk.proofs.Stands.{edit-stands}
use Rattle.session_desk.proofs.session.Session.edit.Goals as goal

pub invariant_of-self : goal.invariant_of-self
invariant_of-self c =
    let s : SessionTold = record { course = c.self.inside.course.value; branches = c.self.inside.branches.items; own = c.self.inside.own.items } in
    let i = c.from-place.result in
    let es = c.new.result in
    let within : i < length s.branches = omega (arith, c.if-place-len.false, c.len.ensures, c.self.inside.branches.ok.0) in
    let read : c.index_mut.result.now ≡ branch_at s.branches i = get_or_read s.branches i c.index_mut.result.now within c.index_mut.ensures.value no_branch in
    let edits : AreEdits s.course.opening es =
    subst (λ (x : SessionTold). AreEdits x.course.opening es) (sym c.self.view_is) (subst (λ (xs : List Edit). AreEdits c.args.self.now.course.opening xs) (sym c.new.ensures) c.requires) in
    subst (λ (b : Branch). IsSession (record { course = s.course; branches = set s.branches i (branch_with es b); own = set s.own i false })) (sym read)
    (edit-stands s i es c.self.invariant (omega (arith, c.if-place-eq0.false)) edits)
