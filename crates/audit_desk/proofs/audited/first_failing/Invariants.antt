use Rattle.std.proofs.Common.{◌≡◌, map, drop}
use Rattle.bundle_reader.specs.Told.{branch_told}
use Rattle.audit_desk.specs.Audited.{first_failing}
use Rattle.audit_desk.proofs.audited.first_failing.Given as goal

-- the first failing one among the rest is the first of all
abbrev pub invariant-loop-branch : goal.invariant-loop-branch
invariant-loop-branch l = first_failing l.stocks l.branch (map branch_told (drop l.branch l.branches)) ≡ first_failing l.stocks 0 (map branch_told l.branches)
