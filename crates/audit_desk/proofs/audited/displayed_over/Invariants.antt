use Rattle.std.proofs.Common.{◌≡◌, ◌≤◌, ◌+◌, ◌*◌, ◌^◌, map, drop}
use Rattle.bundle_reader.specs.Told.{branch_told}
use Rattle.audit_desk.specs.Audited.{displayed_over}
use Rattle.audit_desk.proofs.audited.displayed_over.Given as goal

-- what was counted and what is still to come
abbrev pub invariant-loop-told : goal.invariant-loop-told
invariant-loop-told l =
    (l.orders + displayed_over (map branch_told (drop l.told-index l.branches)) ≡ displayed_over (map branch_told l.branches))
    × (l.orders ≤ l.told-index * 2 ^ 64)
