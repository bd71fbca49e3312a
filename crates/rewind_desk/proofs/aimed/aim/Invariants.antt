use Rattle.std.proofs.Common.{◌≡◌, drop}
use Rattle.rewind_desk.specs.Targets.{aimed_at, aimed_from, behind_targets}
use Rattle.rewind_desk.proofs.aimed.aim.Given as goal

-- the targets so far, and what the rest comes to, are what all come to
abbrev pub invariant-loop-i : goal.invariant-loop-i
invariant-loop-i l = behind_targets l.targets.items (aimed_from l.plan.branches l.i (drop l.i l.marks)) ≡ aimed_at l.plan.branches l.marks
