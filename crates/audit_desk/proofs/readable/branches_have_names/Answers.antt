use Rattle.std.proofs.Common.{All, List, length, subst}
use Rattle.branch_tree.specs.declared.branch.Branch.{Branch}
use Rattle.branch_tree.specs.Names.{IsNameLength}
use Rattle.branch_tree.specs.Plan.{Plan}
use Rattle.audit_desk.proofs.readable.branches_have_names.Goals as goal

abbrev IsNamed : Branch → Type 0
IsNamed b = IsNameLength (length b.name)

pub returns : goal.returns
returns c =
    subst (λ (p : Plan). All IsNamed p.branches) c.plan.ensures.value
    (subst (λ (bs : List Branch). All IsNamed bs) c.branches.ensures.value c.names_fit.ensures)
