use Rattle.std.proofs.Common.{◌≡◌, ◌++◌, drop}
use Rattle.std.specs.List.{flat_map}
use Rattle.reopening_desk.specs.Frames.{part_frame}
use Rattle.reopening_desk.proofs.whole.put_parts.Given as goal

-- what was appended and what is still to come
abbrev pub invariant-loop-part : goal.invariant-loop-part
invariant-loop-part l =
    l.out.items ++ flat_map part_frame (drop l.part-index l.parts) ≡ l.initial.out.items ++ flat_map part_frame l.parts
