use Rattle.std.proofs.Common.{length, arith}
use Rattle.audit_desk.proofs.Branches.{branches-are}
use Rattle.audit_desk.proofs.Lists.{same-bundle}
use Rattle.audit_desk.proofs.Marked.{are-marked}
use Rattle.audit_desk.proofs.Splits.{split-read}
use Rattle.audit_desk.proofs.Whole.{bundle-is}
use Rattle.kernel_copy.specs.Full.{full_run}
use Rattle.audit_desk.proofs.trip_laws.bundles_come_back.Goals as goal

pub returns-clause-bytes : goal.returns-clause-bytes
returns-clause-bytes g c = same-bundle c

pub returns-clause-split : goal.returns-clause-split
returns-clause-split g c b = split-read (full_run c.opening c.plan b).entries (g.feeds_are_of_their_kinds.ensures c b c.opening.limit)

pub returns-clause-branches : goal.returns-clause-branches
returns-clause-branches g c is =
    branches-are c (length c.plan.branches) (g.feeds_are_of_their_kinds.ensures c) (λ b e within. g.courses_stay_in_range.ensures.states c b e is within) (omega arith)

pub returns-clause-bundle : goal.returns-clause-bundle
returns-clause-bundle g c is ranges =
    bundle-is c is ranges (are-marked c is g.feeds_stay_in_range.ensures g.edits_are_marked.ensures) (g.feeds_are_of_their_kinds.ensures c) (λ b e within. g.courses_stay_in_range.ensures.states c b e is within)
