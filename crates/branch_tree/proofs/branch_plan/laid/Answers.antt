use Rattle.std.proofs.Common.{List, sym, subst}
use Rattle.branch_tree.specs.declared.branch.Branch.{Branch}
use Rattle.branch_tree.specs.Planned.{IsTree}
use Rattle.branch_tree.proofs.TreeLemmas.{tree_from}
use Rattle.branch_tree.proofs.branch_plan.laid.Goals as goal

pub all_segments-requires-clause-tree : goal.all_segments-requires-clause-tree
all_segments-requires-clause-tree c =
    subst (λ (xs : List Branch). IsTree xs c.args.limit) (sym c.as_slice.ensures.value) (tree_from c.args.branches.items c.args.limit c.requires.rooted c.requires.accepted)
