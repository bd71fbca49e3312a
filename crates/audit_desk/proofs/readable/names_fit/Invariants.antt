use Rattle.std.proofs.Common.{All, length, take}
use Rattle.branch_tree.specs.declared.branch.Branch.{Branch}
use Rattle.branch_tree.specs.Names.{IsNameLength}
use Rattle.audit_desk.proofs.readable.names_fit.Given as goal

abbrev pub invariant-loop-i : goal.invariant-loop-i
invariant-loop-i l = All (λ (b : Branch). IsNameLength (length b.name)) (take l.i l.branches)
