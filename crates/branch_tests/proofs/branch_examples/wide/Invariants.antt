use Rattle.branch_workers.specs.Example.{AreBranches}
use Rattle.branch_tests.proofs.branch_examples.wide.Given as goal

abbrev pub invariant-loop-k : goal.invariant-loop-k
invariant-loop-k g l = AreBranches l.branches.items
