use Rattle.std.proofs.Common.{◌≡◌, take}
use Rattle.std.specs.List.{flat_map}
use Rattle.study_report.specs.Chains.{entries_along}
use Rattle.study_report.proofs.parts.parts_along.Given as goal

abbrev pub invariant-loop-i : goal.invariant-loop-i
invariant-loop-i g l = flat_map (λ t. t.now.list) l.parts.items ≡ entries_along l.course (take l.i l.chain)
