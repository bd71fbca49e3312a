use Rattle.std.proofs.Common.{arith}
use Rattle.branch_tree.specs.Planned.{IsTree}
use Rattle.branch_tree.specs.Segments.{segment_at}
use Rattle.branch_tree.proofs.TreeLemmas.{tree_from}
use Rattle.kernel_copy.proofs.Walks.{segment-first, segment-next, segment-fork, segment-copy, segment-after, segment-before, segment-ends, segment-stays, segment-within, segment-grows, full-last}
use Rattle.kernel_copy.proofs.Chains.{full-entries, full-events}
use Rattle.kernel_copy.proofs.laws.branches_by_segments.Goals as goal
use Rattle.kernel_copy.proofs.laws.branches_by_segments.Goals.{After-is_tree}

tree : (c : After-is_tree) → IsTree c.args.plan.now.branches c.args.plan.now.limit
tree c = tree_from c.args.plan.now.branches c.args.plan.now.limit c.is_tree.ensures.rooted c.is_tree.ensures.accepted

pub returns-clause-first : goal.returns-clause-first
returns-clause-first c s l none = segment-first c.args.o.now c.args.plan.now s (tree c) c.requires l none

pub returns-clause-next : goal.returns-clause-next
returns-clause-next c s q l is same = segment-next c.args.o.now c.args.plan.now s q (tree c) c.requires l is same

pub returns-clause-fork : goal.returns-clause-fork
returns-clause-fork c s q l is less = segment-fork c.args.o.now c.args.plan.now s q (tree c) c.requires l is less

pub returns-clause-copy : goal.returns-clause-copy
returns-clause-copy c s l = segment-copy c.args.o.now c.args.plan.now s (tree c) c.requires l

pub returns-clause-last : goal.returns-clause-last
returns-clause-last c b l = full-last c.args.o.now c.args.plan.now b (tree c) c.requires l

pub returns-clause-entries : goal.returns-clause-entries
returns-clause-entries c b l = full-entries c.args.o.now c.args.plan.now b (tree c) c.requires l

pub returns-clause-adds : goal.returns-clause-adds
returns-clause-adds c s l = omega (arith, segment-grows c.args.o.now c.args.plan.now s (tree c) c.requires l)

pub returns-clause-counts : goal.returns-clause-counts
returns-clause-counts c b l = full-events c.args.o.now c.args.plan.now b (tree c) c.requires l

pub returns-clause-after : goal.returns-clause-after
returns-clause-after c s e l m = segment-after c.args.o.now c.args.plan.now s e (tree c) c.requires l m

pub returns-clause-ends : goal.returns-clause-ends
returns-clause-ends c s l = segment-ends c.args.o.now c.args.plan.now (segment_at c.args.plan.now s)

pub returns-clause-stays : goal.returns-clause-stays
returns-clause-stays c s n e l is low high = segment-stays c.args.o.now c.args.plan.now (segment_at c.args.plan.now s) n e is low high

pub returns-clause-within : goal.returns-clause-within
returns-clause-within c s l = segment-within c.args.o.now c.args.plan.now s (tree c) c.requires l

pub returns-clause-before : goal.returns-clause-before
returns-clause-before c s q e l is less under = segment-before c.args.o.now c.args.plan.now s q e (tree c) l is less under
