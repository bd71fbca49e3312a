use Rattle.std.proofs.Common.{take}
use Rattle.std.specs.List.{flat_map}
use Rattle.probe_desk.specs.Sums.{AreSums}
use Rattle.probe_desk.proofs.summed.sums_of_parts.Given as goal

abbrev pub invariant-loop-part : goal.invariant-loop-part
invariant-loop-part l = AreSums l.sums (flat_map (λ t. t.now.list) (take l.part-index l.parts))
